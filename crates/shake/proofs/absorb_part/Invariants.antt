-- `absorb_part` meets its contract. The invariant: what is left of the part, absorbed into the sponge as it is, gives the
use mathlib.Core.Path.{◌≡◌}
use Prim.Native.Nat.{◌-◌, ◌<◌, ◌≤◌}
use lib.ListN.{length, drop}
use Rattle.shake.specs.InnerFold.{sponge, absorb_bytes}
use Rattle.shake.proofs.absorb_part.Given as goal

abbrev pub invariant-loop-next : goal.invariant-loop-next
invariant-loop-next l =
    (l.i ≤ l.n) × (l.n ≡ length l.part) × (l.next < l.rate)
    × (absorb_bytes (sponge l.lanes l.next l.rate) (drop l.i l.part) ≡ absorb_bytes (sponge l.initial.lanes l.at l.rate) l.part)

abbrev pub decreases-loop-next : goal.decreases-loop-next
decreases-loop-next l = l.n - l.i
