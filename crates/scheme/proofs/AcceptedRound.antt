-- One round of a signer, as the verifier sees it: the reply has its size and passes its tests, and what the verifier
-- hashes for it are the signer's own strings. It holds for any round seed, round number and first challenge, for any
-- transformation that with the mask exponents gives the key exponents, and under any second challenge: all but 1 are
-- answered as 0 is.
-- Assumes nothing.
use mathlib.Core.Path.{◌≡◌, refl}
use mathlib.Core.Bool.{Bool, true, false}
use mathlib.Core.List.{List, ◌++◌}
use Prim.Native.Nat.{ℕ, ◌+◌}
use native.Mathlib.Omega.{arith}
use lib.Dec.{eqb}
use lib.ListN.{length, take, drop, length-append}
use lib.Seq.{take_at, drop_at}
use Rattle.outcome.specs.Answer.{first_refusal, pick}
use Rattle.packing.specs.Packing.{pack, size}
use Rattle.packing.proofs.Below.{Below}
use Rattle.parameters.specs.declared.Params.{Params}
use Rattle.linear.specs.Linear.{powers, syndrome, scaled, response, opened, less_times}
use Rattle.linear.proofs.Sizes.{length_response}
use Rattle.linear.proofs.Ranges.{below_response, below_syndrome}
use Rattle.linear.proofs.Combined.{combined, combined_syndrome}
use Rattle.linear.proofs.Honest.{less_times_combined}
use Rattle.scheme.specs.Strings.{commitment0_string, commitment1_string}
use Rattle.scheme.proofs.PartsStrings.{length_mask, length_values}
use Rattle.scheme.proofs.PartsPacked.{Packed, packed}
use Rattle.scheme.specs.Round.{
  mask_exponents,
  mask_values,
  round_draws,
  values_size,
  reply_size,
  reply_values,
  reply_exponents,
  reply_fields,
  reply_checks,
  reply_response,
  reply_syndrome,
  reply_string,
}

-- − β s takes away the opened exponents, and the syndrome of the scaled mask values is left
without_key : (n k β : ℕ) (vs σ us es : List ℕ) → length σ ≡ n → length us ≡ n → length es ≡ n →
    less_times β (syndrome k vs (scaled σ (response β us es))) (syndrome k vs (powers (opened σ es))) ≡
    syndrome k vs (scaled σ us)
without_key n k β vs σ us es lσ lu le =
    less_times_combined (combined_syndrome k vs (combined β σ us es n lσ lu le)) (below_syndrome k vs (scaled σ us))
    (below_syndrome k vs (powers (opened σ es)))

-- e', u', σ and y of the round, and its replies: to 0, y and σ packed; and to any second challenge
module _ (p : Params) (vs σ seed salt : List ℕ) (i β : ℕ) where
  abbrev pub e : List ℕ
  e = mask_exponents p seed salt i

  abbrev pub u : List ℕ
  u = mask_values p seed salt i

  abbrev pub y : List ℕ
  y = response β u e

  abbrev pub s̃ : List ℕ
  s̃ = syndrome p.k vs (scaled σ u)

  abbrev pub reply0 : List ℕ
  reply0 = pack 7 y ++ pack 3 σ

  abbrev pub reply_to : ℕ → List ℕ
  reply_to b = pick (eqb b 1) seed reply0

  -- What the verifier finds in a reply, under s of the key: the size, the tests, and the signer's response and string
  -- behind the commitment.
  pub record Replied (s : List ℕ) (b : ℕ) : Type 0 where
    pub long : length (reply_to b) ≡ reply_size p b
    pub passes : first_refusal (reply_checks p b (reply_to b) salt i) ≡ 0
    pub response : reply_response p b β (reply_to b) salt i ≡ y
    pub string : reply_string p vs s b β (reply_to b) salt i ≡ pick (eqb b 1) (commitment1_string u e salt i) (commitment0_string s̃ σ salt i)

  module _
      (key : List ℕ)
      (opens : opened σ e ≡ key)
      (long : length σ ≡ p.n)
      (ranged : Below 7 σ)
      (sized : length seed ≡ p.seed)
      (drawn : first_refusal (round_draws p seed salt i) ≡ 0)
    where
      abbrev s : List ℕ
      s = syndrome p.k vs (powers key)

      length_e : length e ≡ p.n
      length_e = length_mask p seed salt i drawn

      length_u : length u ≡ p.n
      length_u = length_values p seed salt i drawn

      -- both halves of the reply to 0
      packed_y : Packed 7 127 p.n y
      packed_y = packed 7 127 p.n y (omega arith) (below_response β u e) (length_response β u e p.n length_u length_e)

      packed-σ : Packed 3 7 p.n σ
      packed-σ = packed 3 7 p.n σ (omega arith) ranged long

      front : take (values_size p) reply0 ≡ pack 7 y
      front = take_at (pack 7 y) (pack 3 σ) (values_size p) packed_y.long

      back : drop (values_size p) reply0 ≡ pack 3 σ
      back = drop_at (pack 7 y) (pack 3 σ) (values_size p) packed_y.long

      values : reply_values p reply0 ≡ y
      unfolding reply_values
      values = rw front packed_y.fields

      exponents : reply_exponents p reply0 ≡ σ
      unfolding reply_exponents
      exponents = rw back packed-σ.fields

      fields : first_refusal (reply_fields p reply0) ≡ 0
      unfolding reply_fields
      fields = rw (values, exponents, front, back, packed_y.ranged, packed_y.spare, packed-σ.ranged, packed-σ.spare)

      syndromes : reply_syndrome p vs s β reply0 ≡ s̃
      unfolding reply_syndrome
      syndromes = rw (values, exponents, ← opens) (without_key p.n p.k β vs σ u e long length_u length_e)

      -- the reply to b
      replied_long : (b : ℕ) → length (reply_to b) ≡ reply_size p b
      replied_long b = at (eqb b 1)
        where
          at : (one : Bool) → length (pick one seed reply0) ≡ pick one p.seed (values_size p + size 3 p.n)
          at true = sized
          at false = rw (length-append (pack 7 y) (pack 3 σ), packed_y.long, packed-σ.long)

      replied_passes : (b : ℕ) → first_refusal (reply_checks p b (reply_to b) salt i) ≡ 0
      unfolding reply_checks
      replied_passes b = at (eqb b 1)
        where
          at : (one : Bool) →
              let reply : List ℕ = pick one seed reply0 in
              first_refusal (pick one (round_draws p reply salt i) (reply_fields p reply)) ≡ 0
          at true = drawn
          at false = fields

      replied_response : (b : ℕ) → reply_response p b β (reply_to b) salt i ≡ y
      unfolding reply_response
      replied_response b = at (eqb b 1)
        where
          at : (one : Bool) →
              let reply : List ℕ = pick one seed reply0 in
              pick one (response β (mask_values p reply salt i) (mask_exponents p reply salt i)) (reply_values p reply) ≡ y
          at true = refl
          at false = values

      replied_string : (b : ℕ) →
          reply_string p vs s b β (reply_to b) salt i ≡ pick (eqb b 1) (commitment1_string u e salt i) (commitment0_string s̃ σ salt i)
      unfolding reply_string
      replied_string b = at (eqb b 1)
        where
          at : (one : Bool) →
              let reply : List ℕ = pick one seed reply0 in
              pick one (commitment1_string (mask_values p reply salt i) (mask_exponents p reply salt i) salt i)
              (commitment0_string (reply_syndrome p vs s β reply) (reply_exponents p reply) salt i) ≡
              pick one (commitment1_string u e salt i) (commitment0_string s̃ σ salt i)
          at true = refl
          at false = rw (syndromes, exponents)

      pub replied : (b : ℕ) → Replied s b
      replied b =
          record {
            long = replied_long b;
            passes = replied_passes b;
            response = replied_response b;
            string = replied_string b;
          }
