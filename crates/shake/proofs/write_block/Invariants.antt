use Rattle.std.proofs.Common.{◌≡◌, ◌*◌, take}
use Rattle.shake.specs.Shake.{bytes_of}
use Rattle.shake.proofs.write_block.Given as goal

abbrev pub invariant-loop-k : goal.invariant-loop-k
invariant-loop-k l = take (8 * l.k) l.out ≡ take (8 * l.k) (bytes_of l.lanes)
