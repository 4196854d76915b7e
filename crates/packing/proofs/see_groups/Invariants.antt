-- `packing::see_groups`: the fields of g groups are seen.
use mathlib.Core.Path.{◌≡◌}
use Prim.Native.Nat.{◌-◌, ◌*◌, ◌^◌, ◌<◌}
use lib.Dec.{ltb}
use Rattle.packing.specs.Packing.{number, digits, all_below}
use Rattle.packing.proofs.see_groups.Given as goal

abbrev pub invariant-loop-g : goal.invariant-loop-g
invariant-loop-g l =
    (l.seen < 512) × (ltb l.seen (2 ^ l.w) ≡ all_below (2 ^ l.w - 1) (digits l.w (l.g * 8) (number 8 l.packed)))
