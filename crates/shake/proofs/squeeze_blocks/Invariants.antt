-- `squeeze_blocks` meets its contract. The invariant: what is written, and then what comes out of the state as it is, is
-- the whole output. Assumes nothing.
use Rattle.std.proofs.Common.{◌≡◌, ◌++◌, ◌-◌, ◌≤◌, length, take}
use Rattle.shake.specs.Shake.{squeezed}
use Rattle.shake.proofs.squeeze_blocks.Given as goal

abbrev pub invariant-loop-i : goal.invariant-loop-i
invariant-loop-i l =
    (l.i ≤ l.n) × (l.n ≡ length l.initial.out) × (length l.lanes ≡ 25)
    × (take l.i l.out ++ squeezed l.rate (l.n - l.i) l.lanes ≡ squeezed l.rate l.n l.initial.lanes)

abbrev pub decreases-loop-i : goal.decreases-loop-i
decreases-loop-i l = l.n - l.i
