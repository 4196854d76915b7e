-- Every number from 1 to 126 has an inverse modulo 127, its power 125: one computed test. So such a factor cancels.
-- Assumes nothing.
use mathlib.Core.Path.{◌≡◌}
use mathlib.Core.Bool.{Bool}
use Prim.Native.Nat.{ℕ, zero, suc, ◌*◌, ◌%◌, ◌^◌, ◌<◌, ◌≤◌}
use native.Mathlib.Omega.{arith}
use lib.Dec.{T, eqb, eqb→eq}
use Rattle.outcome.proofs.Computed.{every_below, at_below}
use Rattle.field.proofs.Congruence.{times_congruent}

inverse : ℕ → ℕ
inverse d = d ^ 125 % 127

-- the test at d + 1
inverts : ℕ → Bool
inverts d = eqb (inverse (suc d) * suc d % 127) 1

all_invert : T (every_below inverts 126)
unfolding inverse inverts
all_invert = tt

inverse_of : (d : ℕ) → d < 126 → inverse (suc d) * suc d % 127 ≡ 1
unfolding inverts
inverse_of d h = eqb→eq (inverse (suc d) * suc d % 127) 1 (at_below inverts 126 all_invert d h)

-- a factor from 1 to 126 cancels
pub cancel : (d a : ℕ) → 1 ≤ d → d ≤ 126 → d * a % 127 ≡ 0 → a % 127 ≡ 0
cancel zero a l h e = absurd (omega arith)
cancel (suc d) a l h e =
    let i : ℕ = inverse (suc d) in
    let zeros : i * (suc d * a) % 127 ≡ i * 0 % 127 = times_congruent i (suc d * a) 0 e in
    let whole : a * (i * suc d) % 127 ≡ a * 1 % 127 = times_congruent a (i * suc d) 1 (inverse_of d (omega arith)) in
    omega arith
