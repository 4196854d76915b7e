-- `packing::regroup`: after g groups the buffer begins with the digits of their fields.
use mathlib.Core.Path.{◌≡◌}
use Prim.Native.Nat.{◌*◌}
use lib.ListN.{take}
use Rattle.packing.specs.Packing.{number, digits}
use Rattle.packing.proofs.regroup.Given as goal

abbrev pub invariant-loop-g : goal.invariant-loop-g
invariant-loop-g l = take (l.g * l.a) l.dst ≡ digits l.b (l.g * l.a) (number l.a l.src)
