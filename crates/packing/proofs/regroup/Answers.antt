-- `packing::regroup` meets its contract. Assumes nothing.
use mathlib.Core.Path.{refl}
use Prim.Native.Nat.{◌^◌}
use native.Mathlib.Nat.{zero-mul}
use native.Mathlib.Omega.{arith}
use Rattle.packing.specs.Packing.{digits}
use Rattle.packing.proofs.Below.{below_true}
use Rattle.packing.proofs.Groups.{group_fits, whole_more}
use Rattle.packing.proofs.regroup.Goals as goal

pub loop-g-init : goal.loop-g-init
unfolding digits
loop-g-init c = rw (zero-mul c.args.a) refl

pub loop-g-preserved : goal.loop-g-preserved
loop-g-preserved c =
    let a = c.args in
    let head = c.loop-g in
    let pre = c.requires in
    whole_more a.a a.b c.scatter.new.dst head.dst head.g c.gather-v.result (below_true (2 ^ a.a) a.src.now pre.widths.2)
    (omega (arith, group_fits head.g a.groups a.a c.loop-g-test.true pre.in_bounds.1))
    c.gather-v.ensures head.invariant c.scatter.ensures
