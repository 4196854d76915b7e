-- `packing::see_groups` meets its contract. Assumes nothing.
use native.Mathlib.Omega.{arith}
use Rattle.packing.proofs.Below.{bytes_below, below_test}
use Rattle.packing.proofs.Groups.{group_fits}
use Rattle.packing.proofs.Seen.{see_group, see_no_group}
use Rattle.packing.proofs.see_groups.Goals as goal

pub loop-g-init : goal.loop-g-init
loop-g-init c = (omega arith, see_no_group c.args.w c.args.packed.now)

pub gather-requires : goal.gather-requires
gather-requires c = (
  group_fits c.loop-g.g c.args.groups c.args.w c.loop-g-test.true c.requires.0,
  omega arith,
  omega arith,
  below_test (bytes_below c.args.packed.now c.type_inv.packed),
)

pub loop-g-preserved : goal.loop-g-preserved
loop-g-preserved c =
    let a = c.args in
    let head = c.loop-g in (
      c.see-seen.ensures.0,
      see_group a.w head.g c.gather.result head.seen c.see-seen.result
          (bytes_below a.packed.now c.type_inv.packed) c.gather.ensures head.invariant.1 c.see-seen.ensures.1,
    )
