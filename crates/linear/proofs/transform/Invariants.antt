-- `transform`: each place below i has its difference. Assumes nothing.
use Rattle.std.proofs.Common.{◌≡◌, ℕ, ◌<◌, get_or}
use Rattle.field.specs.Field.{minus}
use Rattle.linear.proofs.transform.Given as goal

abbrev pub invariant-loop-i : goal.invariant-loop-i
invariant-loop-i l = (k : ℕ) → k < l.i → get_or l.out k 0 ≡ minus (get_or l.a k 0) (get_or l.e k 0)
