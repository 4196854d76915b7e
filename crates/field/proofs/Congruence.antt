-- Congruence modulo 127, as equal remainders: sums, products, powers of 2.
-- Assumes nothing.
use mathlib.Core.Path.{◌≡◌, ◌∙◌, sym, ap}
use Prim.Native.Nat.{ℕ, zero, suc, ◌+◌, ◌*◌, ◌/◌, ◌%◌, ◌^◌}
use native.Mathlib.Nat.{div-add-mod}
use native.Mathlib.Omega.{arith}
use lib.Pow.{pow-add}

pub plus_congruent : (a b c d : ℕ) → a % 127 ≡ b % 127 → c % 127 ≡ d % 127 → (a + c) % 127 ≡ (b + d) % 127
plus_congruent a b c d e f = omega arith

-- both sides of a congruence times a factor
pub times_congruent : (c a b : ℕ) → a % 127 ≡ b % 127 → c * a % 127 ≡ c * b % 127
times_congruent c a b e =
    omega (
      arith,
      ap (λ (y : ℕ). c * y) (div-add-mod a 127),
      ap (λ (y : ℕ). c * y) (div-add-mod b 127),
      ap (λ (y : ℕ). c * y) e,
    )

-- 2 ^ 7 is 1 modulo 127
sevens : (q r : ℕ) → 2 ^ (r + q * 7) % 127 ≡ 2 ^ r % 127
sevens zero r = ap (λ (a : ℕ). 2 ^ a % 127) (omega arith)
sevens (suc q) r =
    let step : 2 ^ (r + suc q * 7) ≡ 2 ^ (r + q * 7) * 128 =
    ap (λ (a : ℕ). 2 ^ a) (omega arith) ∙ pow-add 2 (r + q * 7) 7 in
    omega (arith, sevens q r)

-- so an exponent may be reduced modulo 7
pub power_reduced : (a : ℕ) → 2 ^ (a % 7) % 127 ≡ 2 ^ a % 127
power_reduced a = sym (sevens (a / 7) (a % 7)) ∙ ap (λ (x : ℕ). 2 ^ x % 127) (omega arith)
