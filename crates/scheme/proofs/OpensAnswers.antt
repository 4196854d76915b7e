-- What the answer 0 of the round examiner says: the ranges and lengths of the vectors, and that both digests agree.
-- Assumes nothing.
use mathlib.Core.Path.{◌≡◌}
use mathlib.Core.Bool.{Bool, true}
use mathlib.Core.List.{List, [], ◌∷◌}
use Prim.Native.Nat.{ℕ, zero, suc, ◌+◌, ◌-◌, ◌≤◌}
use native.Mathlib.Nat.{add-zero}
use lib.Dec.{T, leb→le}
use lib.ListN.{take, drop}
use Rattle.outcome.specs.Answer.{Check, ◌unless◌, Passed}
use Rattle.outcome.proofs.Checks.{passed}
use Rattle.outcome.proofs.Lists.{same_equal}
use Rattle.packing.specs.Packing.{unpack, all_below}
use Rattle.packing.proofs.Below.{Below, below}
use Rattle.packing.proofs.RoundTrip.{length_unpack}
use Rattle.parameters.specs.declared.Params.{Params}
use Rattle.sampling.specs.Sampling.{sample, enough, yield}
use Rattle.sampling.proofs.Kept.{sample_below, length_sample}
use Rattle.scheme.specs.Strings.{digest, bytes_from, mask_exponents_string}
use Rattle.scheme.specs.Key.{syndrome_of, key_fields, exponents_from, exponents_drawn}
use Rattle.scheme.specs.Round.{
  mask_exponents,
  mask_block,
  mask_values,
  round_draws,
  values_size,
  reply_values,
  reply_exponents,
  reply_fields,
  reply_checks,
}
use Rattle.scheme.specs.VerifyRound.{verify_round, verify_round_checks, verify_round_sizes, verify_round_numbers, verify_round_reply}
use Rattle.scheme.specs.Duty.{committed, responded}
use Rattle.scheme.proofs.OpensStrings.{Vector}

-- the test at a place of a list of checks, which holds where the list passed
abbrev test : ℕ → List Check → Bool
test j [] = true
test zero (r unless ok ∷ cs) = ok
test (suc j) (r unless ok ∷ cs) = test j cs

held : (j : ℕ) (cs : List Check) → Passed cs → T (test j cs)
held j [] h = tt
held zero (r unless ok ∷ cs) h = h.0
held (suc j) (r unless ok ∷ cs) h = held j cs h.1

-- fields that were read, and fields that were drawn
read : (w m n : ℕ) (bytes : List ℕ) → T (all_below m (unpack w n bytes)) → Vector m n (unpack w n bytes)
read w m n bytes t = record { long = length_unpack w n bytes; below = below m (unpack w n bytes) t }

drawn : (w m n : ℕ) (block : List ℕ) → T (enough n (yield w m 0 block)) → Vector m n (sample w m 0 n block)
drawn w m n block t =
    let kept : Below (m + 0) (sample w m 0 n block) = sample_below w m 0 n block in
    record { long = length_sample w m 0 n block t; below = rw add-zero at kept }

-- The examiner's tests in their order, from 0: six sizes, two on the key's fields (6: their range), five on i, β (11:
-- at most 126) and the challenge, V; from 14 on those of the reply; at the end the commitment and h(i).
module _ (p : Params) (key salt : List ℕ) (i : ℕ) (c0 c1 : List ℕ) (β : ℕ) (h reply : List ℕ) where
  -- a reply to 0 that passed: y and σ
  pub record Replied0 : Type 0 where
    pub small : β ≤ 126
    pub s : Vector 127 (p.n - p.k) (syndrome_of p key)
    pub y : Vector 127 p.n (reply_values p reply)
    pub σ : Vector 7 p.n (reply_exponents p reply)
    pub commitment : c0 ≡ digest p (committed p key salt i β 0 reply)
    pub hash : h ≡ digest p (responded p salt i β 0 reply)

  pub replied0 : verify_round p key salt i c0 c1 β h 0 reply ≡ 0 → Replied0
  unfolding verify_round verify_round_checks verify_round_sizes verify_round_numbers verify_round_reply syndrome_of key_fields reply_values reply_exponents
      reply_fields reply_checks
  replied0 e =
      let checks : List Check = verify_round_checks p key salt i c0 c1 β h 0 reply in
      let all : Passed checks = passed checks e in
      record {
        small = leb→le β 126 (held 11 checks all);
        s = read 7 127 (p.n - p.k) (drop p.digest key) (held 6 checks all);
        y = read 7 127 p.n (take (values_size p) reply) (held 14 checks all);
        σ = read 3 7 p.n (drop (values_size p) reply) (held 16 checks all);
        commitment = same_equal _ _ (held 18 checks all);
        hash = same_equal _ _ (held 19 checks all);
      }

  -- a reply to 1 that passed: u' and e'
  pub record Replied1 : Type 0 where
    pub u : Vector 127 p.n (mask_values p reply salt i)
    pub e : Vector 7 p.n (mask_exponents p reply salt i)
    pub commitment : c1 ≡ digest p (committed p key salt i β 1 reply)
    pub hash : h ≡ digest p (responded p salt i β 1 reply)

  pub replied1 : verify_round p key salt i c0 c1 β h 1 reply ≡ 0 → Replied1
  unfolding verify_round verify_round_checks verify_round_sizes verify_round_numbers verify_round_reply key_fields mask_exponents mask_values exponents_from exponents_drawn round_draws reply_checks
  replied1 e =
      let checks : List Check = verify_round_checks p key salt i c0 c1 β h 1 reply in
      let all : Passed checks = passed checks e in
      record {
        u = drawn 7 127 p.n (mask_block p reply salt i) (held 15 checks all);
        e = drawn 3 7 p.n (bytes_from p (mask_exponents_string reply salt i) p.exponents) (held 14 checks all);
        commitment = same_equal _ _ (held 16 checks all);
        hash = same_equal _ _ (held 17 checks all);
      }
