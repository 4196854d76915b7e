-- `normalize`: each place below the index has its residue, and the others are as they were. Assumes nothing.
use Rattle.std.proofs.Common.{◌≡◌, ℕ, ◌%◌, ◌<◌, ◌≤◌, get_or}
use Rattle.linear.proofs.normalize.Given as goal

abbrev pub invariant-loop-x : goal.invariant-loop-x
invariant-loop-x l =
    ((k : ℕ) → k < l.x-index → get_or l.xs k 0 ≡ get_or l.initial.xs k 0 % 127)
    × ((k : ℕ) → l.x-index ≤ k → get_or l.xs k 0 ≡ get_or l.initial.xs k 0)
