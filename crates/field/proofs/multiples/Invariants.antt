-- `multiples`: each place below the exponent has its product. Assumes nothing.
use Rattle.std.proofs.Common.{◌≡◌, ℕ, ◌<◌, length, get_or}
use Rattle.field.specs.Field.{times_power}
use Rattle.field.proofs.multiples.Given as goal

abbrev pub invariant-loop-exponent : goal.invariant-loop-exponent
invariant-loop-exponent l =
    (length l.products ≡ 7) × ((a : ℕ) → a < l.exponent → get_or l.products a 0 ≡ times_power a l.x)
