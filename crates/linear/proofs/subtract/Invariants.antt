-- `subtract`: each place below i spells its difference. Assumes nothing.
use Rattle.std.proofs.Common.{◌≡◌, ℕ, ◌%◌, ◌<◌, get_or}
use Rattle.field.specs.Field.{less}
use Rattle.linear.proofs.subtract.Given as goal

abbrev pub invariant-loop-i : goal.invariant-loop-i
invariant-loop-i l =
    (k : ℕ) → k < l.i → (get_or l.out k 0 % 127 ≡ less l.b (get_or l.x k 0) (get_or l.s k 0)) × (get_or l.out k 0 < 128)
