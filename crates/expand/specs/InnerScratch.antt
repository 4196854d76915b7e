-- Lent scratch: a block for V, and V with room for the rest of its last group.
-- Assumes nothing.
use Rattle.std.specs.Prelude.{◌≡◌, List, ℕ, ◌+◌, length}
use Rattle.parameters.specs.declared.Params.{Params}
use Rattle.scheme.specs.Key.{matrix_count}

abbrev pub Scratch : Params → (block vs : List ℕ) → Type 0
Scratch p block vs = (length block ≡ p.matrix) × (length vs ≡ matrix_count p + 8)
