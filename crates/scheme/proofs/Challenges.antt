-- The challenges: as many as there are rounds, in their range; and under the second ones the parts of the rounds have one
-- size together.
-- Assumes nothing.
use mathlib.Core.Path.{◌≡◌, refl, ◌∙◌, sym, ap, subst}
use mathlib.Core.Bool.{Bool, true, false}
use mathlib.Core.List.{List, [], ◌∷◌}
use Prim.Native.Nat.{ℕ, zero, suc, ◌+◌, ◌-◌, ◌*◌, ◌<◌, ◌≤◌}
use native.Mathlib.Nat.{not-suc-le-zero}
use native.Mathlib.Omega.{arith}
use borrow.Author.Tests.{eqb-true, eqb-false}
use lib.Dec.{T, eqb}
use lib.ListN.{length, get_or}
use Rattle.outcome.specs.Lists.{total}
use Rattle.outcome.proofs.Lists.{total_first}
use Rattle.packing.proofs.Below.{Below}
use Rattle.parameters.specs.declared.Params.{Params}
use Rattle.parameters.specs.Sound.{Sound}
use Rattle.sampling.specs.Weight.{weight}
use Rattle.sampling.proofs.Kept.{sample_below, length_sample}
use Rattle.sampling.proofs.Shuffling.{length_shuffle, weight_shuffle}
use Rattle.scheme.specs.Sign.{
  first_block,
  first_challenges,
  first_drawn,
  second_block,
  second_challenges,
  part_size,
}
use Rattle.scheme.specs.Verify.{offset}

-- a total over all places of a list
pub total_places : (f : ℕ → ℕ) (xs : List ℕ) → total (λ j. f (get_or xs j 0)) (length xs) ≡ weight f xs
unfolding total weight
total_places f [] = refl
total_places f (x ∷ xs) =
    total_first (λ j. f (get_or (x ∷ xs) j 0)) (length xs) ∙ ap (λ (rest : ℕ). f x + rest) (total_places f xs)

-- a total up to here is at most the whole
pub total_within : (f : ℕ → ℕ) (j m : ℕ) → j < m → total f j + f j ≤ total f m
unfolding total
total_within f j zero l = absurd (not-suc-le-zero l)
total_within f j (suc m) l = at (λ below. total_within f j m below) (eqb j m) refl
  where
    at : (j < m → total f j + f j ≤ total f m) → (last : Bool) → eqb j m ≡ last → total f j + f j ≤ total f m + f m
    at earlier true e = subst (λ (n : ℕ). total f j + f j ≤ total f n + f n) (eqb-true j m e) (omega arith)
    at earlier false e =
        let other : j ≡ m → ⊥ = eqb-false j m e in
        let rest : total f j + f j ≤ total f m = earlier (omega arith) in
        omega arith

module _ (p : Params) where
  -- the first challenges
  pub below_first : (c salt msg : List ℕ) → Below 127 (first_challenges p c salt msg)
  unfolding first_challenges
  below_first c salt msg = sample_below 7 126 1 p.t (first_block p c salt msg)

  pub length_first : (c salt msg : List ℕ) → first_drawn p c salt msg ≡ true → length (first_challenges p c salt msg) ≡ p.t
  unfolding first_challenges first_drawn
  length_first c salt msg e = length_sample 7 126 1 p.t (first_block p c salt msg) (subst T (sym e) tt)

  -- the second ones, and the size of the parts of all rounds
  module _ (sound : Sound p) (c β h salt msg : List ℕ) where
    pub length_second : length (second_challenges p c β h salt msg) ≡ p.t
    unfolding second_challenges
    length_second = length_shuffle p.t p.w (second_block p c β h salt msg) sound.w≤t

    weight_second : weight (λ (b : ℕ). part_size p b) (second_challenges p c β h salt msg)
        ≡ p.w * part_size p 1 + (p.t - p.w) * part_size p 0
    unfolding second_challenges
    weight_second = weight_shuffle (λ (b : ℕ). part_size p b) p.t p.w (second_block p c β h salt msg) sound.w≤t

    pub second_fills : offset p (second_challenges p c β h salt msg) p.t
        ≡ p.w * part_size p 1 + (p.t - p.w) * part_size p 0
    second_fills =
        ap (λ (t : ℕ). offset p (second_challenges p c β h salt msg) t) (sym length_second)
        ∙ total_places (λ (b : ℕ). part_size p b) (second_challenges p c β h salt msg) ∙ weight_second
