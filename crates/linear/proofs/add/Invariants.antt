-- `add`: each place below i spells its sum, and the others are as they were. Assumes nothing.
use Rattle.std.proofs.Common.{◌≡◌, ℕ, ◌+◌, ◌%◌, ◌<◌, ◌≤◌, get_or}
use Rattle.linear.proofs.add.Given as goal

abbrev pub invariant-loop-i : goal.invariant-loop-i
invariant-loop-i l =
    ((k : ℕ) → k < l.i → (get_or l.out k 0 % 127 ≡ (get_or l.u k 0 + get_or l.initial.out k 0) % 127) × (get_or l.out k 0 < 128))
    × ((k : ℕ) → l.i ≤ k → get_or l.out k 0 ≡ get_or l.initial.out k 0)
