-- A vector: so many places, each below a limit.
-- Assumes nothing.
use Rattle.std.specs.Prelude.{◌≡◌, List, ℕ, T, length}
use Rattle.packing.specs.Packing.{all_below}

pub record Vector (m n : ℕ) (xs : List ℕ) : Type 0 where
  pub long : length xs ≡ n
  pub ranged : T (all_below m xs)
