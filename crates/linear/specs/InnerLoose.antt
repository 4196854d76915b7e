-- Vectors inside sums (document 02, M-103): zero may be spelled 0 or 127. Assumes nothing.
use Rattle.std.specs.Prelude.{◌≡◌, List, map, ℕ, ◌%◌, T}
use Rattle.packing.specs.Packing.{all_below}

-- the vector that a loose one stands for: 127 becomes 0
unfoldable pub residues : List ℕ → List ℕ
residues xs = map (λ (x : ℕ). x % 127) xs

-- xs spells the vector v loosely: congruent modulo 127 at each place, and from 0 to 127. Where v is 0, the choice between 0
-- and 127 is the program's.
pub record Loose (v xs : List ℕ) : Type 0 where
  pub congruent : residues xs ≡ v
  pub ranged : T (all_below 128 xs)
