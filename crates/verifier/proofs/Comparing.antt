-- The answers of comparing two strings with two that were made. Assumes nothing.
use mathlib.Core.Path.{◌≡◌, refl, ◌∙◌, sym, ap}
use mathlib.Core.Bool.{Bool, true, false, not}
use mathlib.Core.List.{List, [], ◌∷◌}
use Prim.Native.Nat.{ℕ}
use lib.Dec.{eqb}
use lib.Pointwise.{pointwise}
use Rattle.outcome.specs.Answer.{◌unless◌, mismatch, first_refusal}
use Rattle.outcome.specs.Lists.{same}
use Rattle.outcome.proofs.Lists.{pointwise_same}
use Rattle.parameters.specs.declared.Params.{Params}
use Rattle.scheme.specs.Strings.{digest, joined, all_responses_string}
use Rattle.scheme.specs.Verify.{differences}

flipped : (b c : Bool) → b ≡ not c → c ≡ not b
flipped b true e = rw e refl
flipped b false e = rw e refl

-- the library's `!=`
pub equal : (xs ys : List ℕ) {r v : Bool} → r ≡ not (pointwise eqb xs ys) → r ≡ v → same xs ys ≡ not v
equal xs ys {r} {v} e f = flipped v (same xs ys) (sym f ∙ e ∙ ap not (pointwise_same xs ys))

module _ (xs ys zs ws : List ℕ) where
  pub first_differs : same xs ys ≡ false → 4 ≡ first_refusal (mismatch unless same xs ys ∷ mismatch unless same zs ws ∷ [])
  first_differs e = rw e

  pub second_differs : same xs ys ≡ true → same zs ws ≡ false
      → 4 ≡ first_refusal (mismatch unless same xs ys ∷ mismatch unless same zs ws ∷ [])
  second_differs e f = rw (e, f)

  pub both_agree : same xs ys ≡ true → same zs ws ≡ true
      → 0 ≡ first_refusal (mismatch unless same xs ys ∷ mismatch unless same zs ws ∷ [])
  both_agree e f = rw (e, f)

-- c and h against what was made of the digests
pub c_h_differ : (p : Params) (c h root c1s hs : List ℕ) {made hashed : List ℕ} {q : ℕ} → made ≡ joined p root c1s
    → hashed ≡ digest p (all_responses_string hs)
    → q ≡ first_refusal (mismatch unless same c made ∷ mismatch unless same h hashed ∷ [])
    → q ≡ first_refusal (differences p c h root c1s hs)
unfolding differences
c_h_differ p c h root c1s hs m g e =
    e ∙ (λ j. first_refusal (mismatch unless same c (m j) ∷ mismatch unless same h (g j) ∷ []))
