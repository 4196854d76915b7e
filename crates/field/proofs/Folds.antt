-- Folds keep the remainder by 127. Assumes nothing.
use mathlib.Core.Path.{◌≡◌}
use Prim.Native.Nat.{ℕ, ◌+◌, ◌/◌, ◌%◌}
use native.Mathlib.Omega.{arith}

abbrev pub folded : ℕ → ℕ
folded x = x % 128 + x / 128

pub fold_congruent : (x : ℕ) → folded x % 127 ≡ x % 127
fold_congruent x = omega arith
