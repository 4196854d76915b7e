-- `rows_times`: each place below i spells its row's sum. Assumes nothing.
use Rattle.std.proofs.Common.{◌≡◌, ℕ, ◌%◌, ◌<◌, get_or, take}
use Rattle.linear.specs.Linear.{rows_times}
use Rattle.linear.proofs.rows_times.Given as goal

abbrev pub invariant-loop-i : goal.invariant-loop-i
invariant-loop-i l =
    (j : ℕ) → j < l.i
    → (get_or l.out j 0 % 127 ≡ get_or (rows_times l.k l.vs (take l.k l.x) l.b) j 0) × (get_or l.out j 0 < 128)
