-- `packing::unpack_refusal` meets its contract: each test decides as the list of checks says. Assumes nothing.
use native.Mathlib.Omega.{arith}
use Rattle.packing.proofs.Below.{bytes_below, below_test}
use Rattle.packing.proofs.Sizes.{size_groups, rest_small}
use Rattle.packing.proofs.Refusals.{field_refused, spare_refused, rest_passes}
use Rattle.packing.proofs.unpack_refusal.Goals as goal

pub overflow_sub-packed : goal.overflow_sub-packed
overflow_sub-packed g c = omega (arith, size_groups g.row.W c.args.n)

pub gather-v-requires : goal.gather-v-requires
gather-v-requires g c =
    let w = g.row.W in
    let n = c.args.n in (
      omega (arith, size_groups w n),
      omega arith,
      omega (arith, size_groups w n, rest_small w n c.requires.sizes.1),
      below_test (bytes_below c.args.packed.now c.type_inv.packed),
    )

pub returns-then-pow2-see : goal.returns-then-pow2-see
returns-then-pow2-see g c =
    let a = c.args in
    field_refused g.row.W a.n (bytes_below a.packed.now c.type_inv.packed) c.requires.sizes.0 c.gather-v.result
    c.gather-v.ensures a.seen c.see.result c.requires.groups_seen c.see.ensures.1 (omega arith)

pub returns-then-pow2-v : goal.returns-then-pow2-v
returns-then-pow2-v g c =
    let a = c.args in
    spare_refused g.row.W a.n (bytes_below a.packed.now c.type_inv.packed) c.requires.sizes.0 c.gather-v.result
    c.gather-v.ensures a.seen c.see.result c.requires.groups_seen c.see.ensures.1 (omega arith) (omega arith)

pub returns : goal.returns
returns g c =
    let a = c.args in
    rest_passes g.row.W a.n (bytes_below a.packed.now c.type_inv.packed) c.requires.sizes.0 c.gather-v.result
    c.gather-v.ensures a.seen c.see.result c.requires.groups_seen c.see.ensures.1 (omega arith) (omega arith)
