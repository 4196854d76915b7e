-- `packing::see`: k fields are seen, and what is left of the number is without these.
use mathlib.Core.Path.{◌≡◌}
use mathlib.Core.Bool.{false}
use Prim.Native.Nat.{◌-◌, ◌*◌, ◌/◌, ◌^◌, ◌<◌}
use lib.Dec.{ltb}
use Rattle.outcome.specs.Answer.{pick}
use Rattle.packing.specs.Packing.{digits, all_below}
use Rattle.packing.proofs.see.Given as goal

abbrev pub invariant-loop : goal.invariant-loop
invariant-loop l =
    (l.left ≡ l.v / 2 ^ (l.w * l.counter))
    × (l.all < 512)
    × (ltb l.all (2 ^ l.w) ≡ pick (ltb l.seen (2 ^ l.w)) (all_below (2 ^ l.w - 1) (digits l.w l.counter l.v)) false)
