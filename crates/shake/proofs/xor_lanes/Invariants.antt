use Rattle.std.proofs.Common.{◌≡◌, ◌+◌, ◌*◌, drop}
use Rattle.shake.specs.InnerFold.{xor_bytes}
use Rattle.shake.proofs.xor_lanes.Given as goal

abbrev pub invariant-loop-k : goal.invariant-loop-k
invariant-loop-k l = xor_bytes l.lanes (l.at + 8 * l.k) (drop (8 * l.k) l.part) ≡ xor_bytes l.initial.lanes l.at l.part
