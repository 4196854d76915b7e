-- `packing::largest`: the largest field so far is below m just where each field so far is.
use mathlib.Core.Path.{◌≡◌}
use Prim.Native.Nat.{ℕ, ◌<◌}
use lib.Dec.{ltb}
use lib.ListN.{take}
use Rattle.packing.specs.Packing.{all_below}
use Rattle.packing.proofs.largest.Given as goal

abbrev pub invariant-loop-x : goal.invariant-loop-x
invariant-loop-x l = (m : ℕ) → 0 < m → ltb l.best m ≡ all_below m (take l.x-index l.xs)
