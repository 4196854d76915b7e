-- Lists put together in order, what is in a list, and tests on lists of numbers.
-- Assumes nothing.
use Rattle.std.specs.Prelude.{◌≡◌, Bool, true, false, ◌⊎◌, List, [], ◌∷◌, ◌++◌, ℕ, zero, suc, ◌+◌, eqb}
use Rattle.outcome.specs.Answer.{pick}

-- f 0, f 1, .. up to but not f m, joined in order. It grows at its end, as what a loop has written does.
unfoldable pub flat : {A : Type 0} → (ℕ → List A) → ℕ → List A
flat f zero = []
flat f (suc m) = flat f m ++ f m

-- f 0 + f 1 + .. up to but not f m
unfoldable pub total : (ℕ → ℕ) → ℕ → ℕ
total f zero = 0
total f (suc m) = total f m + f m

-- the element is one of these
abbrev pub In : {A : Type 0} → A → List A → Type 0
In a [] = ⊥
In a (b ∷ bs) = (a ≡ b) ⊎ In a bs

-- two lists of numbers are equal
unfoldable pub same : List ℕ → List ℕ → Bool
same [] [] = true
same [] (y ∷ ys) = false
same (x ∷ xs) [] = false
same (x ∷ xs) (y ∷ ys) = pick (eqb x y) (same xs ys) false
