-- The seeds of a private seed and the parts of them that are lent, and what the draws of a key leave. Assumes nothing.
use mathlib.Core.Path.{◌≡◌, refl, ◌∙◌, ap}
use mathlib.Core.List.{List, [], ◌∷◌, ◌++◌}
use Prim.Native.Nat.{ℕ, ◌-◌, ◌*◌, ◌^◌, ◌≤◌}
use native.Mathlib.Omega.{arith}
use lib.ListN.{length, take, drop, length-drop}
use lib.Seq.{take_all, take_at, drop-append-le}
use lib.Pow.{pow_mono}
use borrow.Author.Tests.{eq-eqb}
use Rattle.outcome.specs.Answer.{Check, ◌unless◌, short_draw, first_refusal}
use Rattle.outcome.proofs.Answering.{stops, goes_on}
use Rattle.packing.specs.Packing.{pack}
use Rattle.packing.proofs.Below.{Below, none, more}
use Rattle.parameters.specs.declared.Params.{Params}
use Rattle.shake.specs.Shake.{shake}
use Rattle.sampling.proofs.Kept.{sample_below}
use Rattle.linear.specs.Linear.{powers, syndrome}
use Rattle.scheme.specs.Strings.{bytes_from, key_exponents_string, key_seeds_string}
use Rattle.scheme.specs.Key.{
  key_seeds,
  secret_seed,
  public_seed,
  matrix,
  matrix_drawn,
  matrix_count,
  matrix_block,
  exponents_from,
  exponents_drawn,
  key_exponents,
  key_syndrome,
  public_key,
  key_size,
  key_draws,
  make_key_checks,
}
use Rattle.expand.specs.InnerExpanded.{Expanded}
use Rattle.keygen.specs.InnerMaterial.{Material}

-- as many bytes as two digests have are both seeds
pub seeds_made : (p : Params) (private : List ℕ) {n : ℕ} {seeds : List ℕ} → n ≡ 2 * p.digest →
    seeds ≡ shake p.rate (12 ∷ private) n → seeds ≡ key_seeds p private
unfolding key_seeds key_seeds_string bytes_from
seeds_made p private sized made = made ∙ ap (λ (k : ℕ). shake p.rate (12 ∷ private) k) sized

-- the draws of a key
abbrev matrix_draw : Params → List ℕ → List Check
matrix_draw p private = short_draw unless matrix_drawn p (public_seed p private) ∷ []

abbrev exponents_draw : Params → List ℕ → List Check
exponents_draw p private = short_draw unless exponents_drawn p (key_exponents_string (secret_seed p private)) ∷ []

module _ (p : Params) (private : List ℕ) {seeds : List ℕ} (held : seeds ≡ key_seeds p private) where
  -- the seeds as they are lent: the secret one in front, the public one behind it up to their end
  pub secret_part : take p.digest seeds ≡ secret_seed p private
  unfolding secret_seed
  secret_part = ap (λ (s : List ℕ). take p.digest s) held

  pub public_part : take (length seeds - p.digest) (drop p.digest seeds) ≡ public_seed p private
  unfolding public_seed
  public_part =
      take_all (length seeds - p.digest) (drop p.digest seeds) (rw (length-drop p.digest seeds) (omega arith))
      ∙ ap (λ (s : List ℕ). drop p.digest s) held

  module _ {public : List ℕ} (public_is : public ≡ public_seed p private) where
    -- what is answered of V
    matrix_answered : {r : ℕ} {vs : List ℕ} → Expanded (matrix_drawn p public) (matrix_count p) (matrix p public) r vs
        → r ≡ first_refusal (matrix_draw p private)
    matrix_answered drawn = drawn.answer ∙ ap (λ (s : List ℕ). first_refusal (short_draw unless matrix_drawn p s ∷ [])) public_is

    -- V is short
    pub matrix_short : {r : ℕ} {vs es : List ℕ} → (r ≡ 0 → ⊥)
        → Expanded (matrix_drawn p public) (matrix_count p) (matrix p public) r vs → Material p private r seeds vs es
    unfolding key_draws
    matrix_short short drawn =
        record {
          answer = stops (matrix_draw p private) (exponents_draw p private) (matrix_answered drawn) short;
          seeds_held = held;
          matrix_held = λ e. absurd (short e);
          exponents_held = λ e. absurd (short e);
        }

    -- V is there, and the key exponents decide
    pub exponents_answered : {secret : List ℕ} {r : ℕ} {vs es : List ℕ} → secret ≡ secret_seed p private
        → Expanded (matrix_drawn p public) (matrix_count p) (matrix p public) 0 vs
        → Expanded (exponents_drawn p (key_exponents_string secret)) p.n (exponents_from p (key_exponents_string secret)) r es
        → Material p private r seeds vs es
    unfolding key_draws key_exponents
    exponents_answered {secret} {r} secret_is drawn exponents =
        let last : r ≡ first_refusal (exponents_draw p private) =
        exponents.answer ∙ ap (λ (s : List ℕ). first_refusal (short_draw unless exponents_drawn p (key_exponents_string s) ∷ [])) secret_is
        in
        record {
          answer = goes_on (matrix_draw p private) (exponents_draw p private) (matrix_answered drawn) refl last;
          seeds_held = held;
          matrix_held = λ _. drawn.content refl ∙ ap (λ (s : List ℕ). matrix p s) public_is;
          exponents_held = λ e. exponents.content e ∙ ap (λ (s : List ℕ). exponents_from p (key_exponents_string s)) secret_is;
        }

  -- the public seed as a part between the secret one and whatever follows
  pub public_lent : length seeds ≡ 2 * p.digest → (rest : List ℕ) →
      take (2 * p.digest - p.digest) (drop p.digest (seeds ++ rest)) ≡ public_seed p private
  unfolding public_seed
  public_lent sized rest =
      rw (drop-append-le p.digest seeds rest (omega arith))
      (take_at (drop p.digest seeds) rest (2 * p.digest - p.digest) (length-drop p.digest seeds ∙ omega arith)
      ∙ ap (λ (s : List ℕ). drop p.digest s) held)

-- V has its places, in their range
pub below_matrix : (p : Params) (public : List ℕ) → Below 127 (matrix p public)
unfolding matrix
below_matrix p public = sample_below 7 127 0 (matrix_count p) (matrix_block p public)

-- the powers of exponents are values
pub below_powers : {es : List ℕ} → Below 7 es → Below 127 (powers es)
unfolding powers
below_powers none = none
below_powers (more {x = e} h rest) = more {x = 2 ^ e}
    (let small : 2 ^ e ≤ 2 ^ 6 = pow_mono {i = e} {j = 6} (omega arith) in omega arith) (below_powers rest)

-- with both sizes right, the draws decide
pub sized_checks : (p : Params) (private : List ℕ) (lent : ℕ) → length private ≡ p.digest → lent ≡ key_size p →
    first_refusal (make_key_checks p private lent) ≡ first_refusal (key_draws p private)
unfolding make_key_checks
sized_checks p private lent private_sized lent_sized =
    rw (eq-eqb (length private) p.digest private_sized, eq-eqb lent (key_size p) lent_sized)

pub key_made : (p : Params) (private : List ℕ) {public vs es : List ℕ} → public ≡ public_seed p private →
    vs ≡ matrix p (public_seed p private) → es ≡ key_exponents p private →
    public ++ pack 7 (syndrome p.k vs (powers es)) ≡ public_key p private
unfolding public_key key_syndrome
key_made p private public_is matrix_is exponents_are =
    λ i. public_is i ++ pack 7 (syndrome p.k (matrix_is i) (powers (exponents_are i)))
