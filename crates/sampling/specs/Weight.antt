-- Sums over the places of a list, by which the ones of the second challenge are counted ("Second challenge": 85 of 163).
-- Assumes nothing.
use Rattle.std.specs.Prelude.{List, [], ◌∷◌, ℕ, ◌+◌, eqb}
use Rattle.outcome.specs.Answer.{pick}

-- the sum of f over a list
unfoldable pub weight : (ℕ → ℕ) → List ℕ → ℕ
weight f [] = 0
weight f (x ∷ xs) = f x + weight f xs

-- how many ones a list has
abbrev pub ones : List ℕ → ℕ
ones = weight (λ (x : ℕ). pick (eqb x 1) 1 0)
