-- The size of a packed string.
-- Assumes nothing.
use mathlib.Core.Path.{◌≡◌, ap}
use Prim.Native.Nat.{ℕ, ◌+◌, ◌-◌, ◌*◌, ◌/◌, ◌%◌, ◌≤◌}
use native.Mathlib.Nat.{div-add-mod', mul-le-mul_left}
use native.Mathlib.Omega.{arith}
use Rattle.packing.specs.Packing.{size}

-- the bytes hold all the bits of the fields
pub size_enough : (w n : ℕ) → w * n ≤ 8 * size w n
size_enough w n = omega arith

-- counted by whole groups first, so that no length overflows
pub size_groups : (w n : ℕ) → n / 8 * w + (n % 8 * w + 7) / 8 ≡ size w n
size_groups w n = omega (arith, ap (λ (k : ℕ). w * k) (div-add-mod' n 8))

pub groups_small : (w n : ℕ) → w ≤ 8 → n / 8 * w ≤ n / 8 * 8
groups_small w n h = mul-le-mul_left (n / 8) h

pub rest_small : (w n : ℕ) → w ≤ 8 → n % 8 * w ≤ 56
rest_small w n h = omega (arith, mul-le-mul_left (n % 8) h)

-- the fields, and the bytes, past the whole groups are at most 64 bits
pub rest_fields : (w n : ℕ) → w ≤ 8 → w * (n - n / 8 * 8) ≤ 64
rest_fields w n h =
    let rest : n - n / 8 * 8 ≡ n % 8 = omega arith in
    rw rest (omega (arith, rest_small w n h))

pub rest_bytes : (w n : ℕ) → w ≤ 8 → 8 * (size w n - n / 8 * w) ≤ 64
rest_bytes w n h = omega (arith, size_groups w n, rest_small w n h)
