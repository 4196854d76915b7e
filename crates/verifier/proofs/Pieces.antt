-- The verifier over the pieces of a signature: its draws, its rounds under the challenges drawn, and the comparison.
-- Assumes nothing.
use mathlib.Core.Path.{◌≡◌, refl, ◌∙◌, sym, ap, subst}
use mathlib.Core.List.{List, [], ◌∷◌, ◌++◌}
use Prim.Native.Nat.{ℕ, ◌+◌, ◌-◌, ◌*◌, ◌≤◌}
use native.Mathlib.Omega.{arith}
use lib.ListN.{length, take, drop, replicate, length-drop}
use lib.Seq.{length-take-le, take_all}
use Rattle.std.proofs.Common.{Ok, Err}
use Rattle.outcome.specs.declared.refusal.Refusal.{Refusal}
use Rattle.outcome.specs.Answer.{number_of, Check, ◌unless◌, short_draw, first_refusal}
use Rattle.outcome.specs.Lists.{flat}
use Rattle.outcome.specs.Result.{Result}
use Rattle.packing.specs.InnerVector.{Vector}
use Rattle.parameters.specs.declared.Params.{Params}
use Rattle.parameters.specs.Sound.{Sound}
use Rattle.scheme.specs.Sign.{first_challenges, first_drawn, second_challenges, second_drawn, part_size, signature_size}
use Rattle.scheme.specs.Verify as verify
use Rattle.scheme.proofs.Challenges.{below_first, length_first, length_second, second_fills}
use Rattle.expand.specs.InnerExpanded.{Expanded}
use Rattle.verifier.specs.declared.rounds.Sponges.{Sponges}
use Rattle.verifier.specs.InnerRounds.{Compared, Ran}
use Rattle.verifier.proofs.Exits.{stop, past}
use Rattle.verifier.proofs.Parts.{tail, written}
use Rattle.verifier.proofs.Keys.{drawn_true}
use Rattle.verifier.proofs.Vectors.{made}

-- the pieces as they are lent are those of the scheme
module _ (p : Params) (sig : List ℕ) where
  pub pieces_are : (vs s msg : List ℕ) →
      first_refusal (verify.piece_checks p vs s (take p.digest sig) (take (2 * p.digest - p.digest) (drop p.digest sig))
      (take (3 * p.digest - 2 * p.digest) (drop (2 * p.digest) sig)) (take (length sig - 3 * p.digest) (drop (3 * p.digest) sig))
      msg) ≡
      first_refusal (verify.piece_checks p vs s (verify.salt_of p sig) (verify.c_of p sig) (verify.h_of p sig)
      (verify.rounds_of p sig) msg)
  unfolding verify.salt_of verify.c_of verify.h_of verify.rounds_of
  pieces_are vs s msg =
      let d = p.digest in
      let two : 2 * d - d ≡ d = omega arith in
      let three : 3 * d - 2 * d ≡ d = omega arith in
      λ i. first_refusal (verify.piece_checks p vs s (take d sig) (take (two i) (drop d sig))
      (take (three i) (drop (2 * d) sig)) (tail (3 * d) sig i) msg)

  pub rounds_long : length sig ≡ signature_size p → length (take (length sig - 3 * p.digest) (drop (3 * p.digest) sig))
      ≡ p.w * part_size p 1 + (p.t - p.w) * part_size p 0
  rounds_long long =
      ap length (tail (3 * p.digest) sig) ∙ length-drop (3 * p.digest) sig ∙ omega (arith, long)

module _ (p : Params) (salt c msg : List ℕ) {new : List ℕ}
    (first : Expanded (first_drawn p c salt msg) p.t (first_challenges p c salt msg) 0 new) where
  -- the first challenges are a vector
  pub first_vector : Vector 127 p.t (take p.t new)
  first_vector =
      made 127 p.t (first.content refl) (length_first p c salt msg (drawn_true first.answer)) (below_first p c salt msg)

-- both draws yield, and these are the challenges drawn
pub record Drawn (p : Params) (salt c h msg βs bs : List ℕ) : Type 0 where
  pub first : 0 ≡ first_refusal (short_draw unless first_drawn p c salt msg ∷ [])
  pub second : 0 ≡ first_refusal (short_draw unless second_drawn p c βs h salt msg ∷ [])
  pub β : βs ≡ first_challenges p c salt msg
  pub b : bs ≡ second_challenges p c (first_challenges p c salt msg) h salt msg

pub drawn : {p : Params} {salt c h msg new out : List ℕ} → p.t ≤ 512
    → Expanded (first_drawn p c salt msg) p.t (first_challenges p c salt msg) 0 new
    → Expanded (second_drawn p c (take p.t new) h salt msg) p.t (second_challenges p c (take p.t new) h salt msg) 0 out
    → length out ≡ length {A = ℕ} (take p.t (replicate 512 0))
    → Drawn p salt c h msg (take p.t new) (take p.t (out ++ drop p.t (replicate 512 0)))
drawn {p} {salt} {c} {h} {msg} {new} {out} fits first second kept =
    let all : take p.t out ≡ out = take_all p.t out (omega (arith, kept, length-take-le {A = ℕ} p.t (replicate 512 0) fits)) in
    record {
      first = first.answer;
      second = second.answer;
      β = first.content refl;
      b = written p.t (replicate 512 0) fits kept
          (sym all ∙ second.content refl ∙ ap (λ (x : List ℕ). second_challenges p c x h salt msg) (first.content refl));
    }

module _ (p : Params) (vs s salt c h rounds msg : List ℕ) where
  abbrev first_draw : List Check
  first_draw = short_draw unless first_drawn p c salt msg ∷ []

  abbrev second_draw : List ℕ → List Check
  second_draw βs = short_draw unless second_drawn p c βs h salt msg ∷ []

  abbrev behind : List Check
  behind = verify.rounds_checks p vs s salt c h rounds msg

  pub first_short : (r : Refusal) → number_of r ≡ first_refusal first_draw
      → number_of r ≡ first_refusal (verify.piece_checks p vs s salt c h rounds msg)
  unfolding verify.piece_checks
  first_short r e = stop first_draw (second_draw (verify.β p vs s salt c h rounds msg) ++ behind) r e

  -- past the first draw, and past both
  past_first : {βs : List ℕ} {q : ℕ} → 0 ≡ first_refusal first_draw → βs ≡ first_challenges p c salt msg
      → q ≡ first_refusal (second_draw βs ++ behind) → q ≡ first_refusal (verify.piece_checks p vs s salt c h rounds msg)
  unfolding verify.piece_checks verify.β
  past_first e is f =
      past first_draw (second_draw (first_challenges p c salt msg) ++ behind) e
      (f ∙ (λ j. first_refusal (second_draw (is j) ++ behind)))

  pub second_short : {new : List ℕ} (r : Refusal)
      → Expanded (first_drawn p c salt msg) p.t (first_challenges p c salt msg) 0 new
      → number_of r ≡ first_refusal (second_draw (take p.t new))
      → number_of r ≡ first_refusal (verify.piece_checks p vs s salt c h rounds msg)
  second_short {new} r first e =
      past_first first.answer (first.content refl) (stop (second_draw (take p.t new)) behind r e)

  past_both : {βs bs : List ℕ} {q : ℕ} → Drawn p salt c h msg βs bs → q ≡ first_refusal behind
      → q ≡ first_refusal (verify.piece_checks p vs s salt c h rounds msg)
  past_both {βs} drawn f = past_first drawn.first drawn.β (past (second_draw βs) behind drawn.second f)

module _ {p : Params} {salt c h msg βs bs : List ℕ} (drawn : Drawn p salt c h msg βs bs) where
  abbrev first : List ℕ
  first = first_challenges p c salt msg

  abbrev second : List ℕ
  second = second_challenges p c first h salt msg

  -- the second challenges are as many as the rounds, and their parts fill the rounds
  pub second_long : Sound p → length bs ≡ p.t
  second_long sound = ap length drawn.b ∙ length_second p sound c first h salt msg

  pub offset_all : Sound p → verify.offset p bs p.t ≡ p.w * part_size p 1 + (p.t - p.w) * part_size p 0
  offset_all sound =
      ap (λ (x : List ℕ). verify.offset p x p.t) drawn.b ∙ second_fills p sound c first h salt msg

  -- the rounds under these, then the comparison
  module _ (vs s rounds : List ℕ) where
    at_draws : {r : Result Sponges} → Ran p vs s salt rounds βs bs r → Ran p vs s salt rounds first second r
    at_draws {r} ran =
        subst (λ (x : List ℕ). Ran p vs s salt rounds x second r) drawn.β
        (subst (λ (x : List ℕ). Ran p vs s salt rounds βs x r) drawn.b ran)

    pub rounds_refuse : (r : Refusal) → Ran p vs s salt rounds βs bs (Err r)
        → number_of r ≡ first_refusal (verify.piece_checks p vs s salt c h rounds msg)
    unfolding verify.rounds_checks verify.β verify.b
    rounds_refuse r ran =
        past_both p vs s salt c h rounds msg drawn
        (stop (flat (verify.checks_at p vs s salt rounds first second) p.t) _ r (at_draws ran).answer)

    pub compared : {sponges : Sponges} {q : ℕ} → Ran p vs s salt rounds βs bs (Ok sponges) → Compared p sponges c h q
        → q ≡ first_refusal (verify.piece_checks p vs s salt c h rounds msg)
    unfolding verify.rounds_checks verify.β verify.b
    compared {sponges} ran same =
        past_both p vs s salt c h rounds msg drawn
        (past (flat (verify.checks_at p vs s salt rounds first second) p.t) _ (at_draws ran).answer
        (same.answer ((at_draws ran).holds sponges refl)))
