-- After twice i rounds `s` stands for their state. Assumes nothing.
use mathlib.Core.Path.{◌≡◌}
use Prim.Native.Nat.{◌*◌}
use lib.ListN.{length}
use Rattle.keccak.specs.Keccak.{lane, state, rounds}
use Rattle.keccak.specs.InnerPlanes.{reveal}
use Rattle.keccak.proofs.permute.Given as goal

abbrev pub invariant-loop-i : goal.invariant-loop-i
invariant-loop-i l = (length l.s ≡ 25) × (length l.t ≡ 25) × (reveal l.s ≡ rounds (2 * l.i) (state (lane l.fn.s)))
