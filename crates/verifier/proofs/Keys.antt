-- What a key that passes gives: its syndrome and V are vectors. Assumes nothing.
use mathlib.Core.Path.{◌≡◌, refl, sym, subst}
use mathlib.Core.Bool.{Bool, true, false}
use mathlib.Core.List.{List, [], ◌∷◌, ◌++◌}
use Prim.Native.Nat.{ℕ, ◌-◌, ◌≤◌}
use native.Mathlib.Omega.{arith}
use lib.Dec.{T}
use lib.ListN.{length, take, drop, replicate}
use Rattle.outcome.specs.Answer.{Answers, ◌unless◌, short_draw, first_refusal}
use Rattle.outcome.proofs.Checks.{number_positive}
use Rattle.outcome.proofs.Numbers.{product_le}
use Rattle.packing.proofs.Below.{Below}
use Rattle.parameters.specs.declared.Params.{Params}
use Rattle.parameters.specs.Sound.{Sound}
use Rattle.parameters.specs.declared.category.Category.{Category}
use Rattle.sampling.proofs.Kept.{sample_below, length_sample}
use Rattle.scheme.specs.Key.{key_fields, syndrome_of, matrix, matrix_drawn, matrix_block, matrix_count}
use Rattle.packing.specs.InnerVector.{Vector}
use Rattle.expand.specs.InnerExpanded.{Expanded}
use Rattle.verifier.proofs.Fields.{reads, read_vector}
use Rattle.verifier.proofs.Parts.{written}
use Rattle.verifier.proofs.Vectors.{made}

-- a draw that is not short
pub drawn_true : {ok : Bool} → 0 ≡ first_refusal (short_draw unless ok ∷ []) → ok ≡ true
drawn_true {ok = true} e = refl
drawn_true {ok = false} e = absurd (number_positive short_draw (sym e))

module _ (p : Params) where
  -- V is no longer than the local sizes allow
  pub count_fits : Sound p → matrix_count p ≤ 65536
  count_fits sound =
      product_le (p.n - p.k) p.k 256 256
      (omega (arith, sound.n_fits)) (omega (arith, sound.k≤n, sound.n_fits))

  below_matrix : (public : List ℕ) → Below 127 (matrix p public)
  unfolding matrix
  below_matrix public = sample_below 7 127 0 (matrix_count p) (matrix_block p public)

  length_matrix : (public : List ℕ) → matrix_drawn p public ≡ true → length (matrix p public) ≡ matrix_count p
  unfolding matrix matrix_drawn
  length_matrix public drawn = length_sample 7 127 0 (matrix_count p) (matrix_block p public) (subst T (sym drawn) tt)

  pub matrix_vector : (public : List ℕ) {vs : List ℕ} → Expanded (matrix_drawn p public) (matrix_count p) (matrix p public) 0 vs
      → Vector 127 (matrix_count p) (take (matrix_count p) vs)
  matrix_vector public drawn =
      made 127 (matrix_count p) (drawn.content refl) (length_matrix public (drawn_true drawn.answer)) (below_matrix public)

-- the syndrome as it lies in a local array
pub read : (p : Category) (key : List ℕ) {new : List ℕ}
    → Answers (key_fields p.sizes key) (syndrome_of p.sizes key) (take (p.sizes.n - p.sizes.k) (replicate 256 0)) 0 new
    → length new ≡ length {A = ℕ} (take (p.sizes.n - p.sizes.k) (replicate 256 0))
    → (take (p.sizes.n - p.sizes.k) (new ++ drop (p.sizes.n - p.sizes.k) (replicate 256 0)) ≡ syndrome_of p.sizes key)
    × Vector 127 (p.sizes.n - p.sizes.k) (take (p.sizes.n - p.sizes.k) (new ++ drop (p.sizes.n - p.sizes.k) (replicate 256 0)))
unfolding key_fields syndrome_of
read p key answers kept =
    let m = p.sizes.n - p.sizes.k in
    let fields = reads 7 127 m answers (written m (replicate 256 0) (omega (arith, p.sound.n_fits)) kept refl) in
    (fields.fields, read_vector 7 127 m fields)
