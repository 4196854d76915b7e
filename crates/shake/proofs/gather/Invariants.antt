-- `gather` meets its contract. The invariant: the bytes read and the number of those that are left make the whole. Assumes nothing.
use Rattle.std.proofs.Common.{◌≡◌, ◌+◌, ◌*◌, ◌^◌, ◌<◌, drop}
use Rattle.shake.specs.Shake.{little}
use Rattle.shake.proofs.gather.Given as goal

abbrev pub invariant-loop-i : goal.invariant-loop-i
invariant-loop-i l = (l.x < 2 ^ (8 * l.i)) × (l.x + little (drop l.i l.bytes) * 2 ^ (8 * l.i) ≡ little l.bytes)
