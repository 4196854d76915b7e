-- `packing::scatter`: k digits stand in the buffer from `at` on, and what is left of the number is without these.
use mathlib.Core.Path.{◌≡◌}
use mathlib.Core.List.{◌++◌}
use Prim.Native.Nat.{◌+◌, ◌*◌, ◌/◌, ◌^◌}
use lib.ListN.{take, drop}
use Rattle.packing.specs.Packing.{digits}
use Rattle.packing.proofs.scatter.Given as goal

abbrev pub invariant-loop-k : goal.invariant-loop-k
invariant-loop-k l =
    (l.left ≡ l.v / 2 ^ (l.b * l.k)) × (l.dst ≡ take l.at l.initial.dst ++ digits l.b l.k l.v ++ drop (l.at + l.k) l.initial.dst)
