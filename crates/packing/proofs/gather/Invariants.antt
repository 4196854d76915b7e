-- `packing::gather` reads from the last field downward: the number so far is that of the fields from k on.
use mathlib.Core.Path.{◌≡◌}
use Prim.Native.Nat.{◌+◌, ◌-◌}
use lib.ListN.{take, drop}
use Rattle.packing.specs.Packing.{number}
use Rattle.packing.proofs.gather.Given as goal

abbrev pub invariant-loop-k : goal.invariant-loop-k
invariant-loop-k l = l.v ≡ number l.a (take (l.n - l.k) (drop (l.at + l.k) l.src))
