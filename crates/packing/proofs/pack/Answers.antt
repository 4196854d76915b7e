-- `packing::pack` meets its contract. Assumes nothing.
use mathlib.Core.Path.{sym}
use native.Mathlib.Omega.{arith}
use lib.ListN.{length}
use Rattle.packing.proofs.Sizes.{size_groups, rest_fields}
use Rattle.packing.proofs.Refusals.{packable_fields, pack_made}
use Rattle.packing.proofs.pack.Goals as goal

pub regroup-requires : goal.regroup-requires
regroup-requires g c =
    let a = c.args in
    let ready = packable_fields g.row.W a.fields.now (length a.packed.now) (sym c.in_ok-pack_refusal.ensures) in
    record {
      in_bounds = (omega arith, omega (arith, size_groups g.row.W (length a.fields.now), ready.0));
      widths = (omega arith, omega arith, ready.1);
    }

pub finish-requires : goal.finish-requires
finish-requires g c =
    let a = c.args in
    let ready = packable_fields g.row.W a.fields.now (length a.packed.now) (sym c.in_ok-pack_refusal.ensures) in
    record {
      in_bounds = (
        omega arith,
        omega (arith, size_groups g.row.W (length a.fields.now), ready.0, c.regroup.auto.dst),
      );
      widths = (omega arith, omega arith, ready.1, rest_fields g.row.W (length a.fields.now) c.requires.1);
      begun = c.regroup.ensures;
    }

pub returns : goal.returns
returns g c =
    let a = c.args in
    pack_made g.row.W a.fields.now a.packed.now c.finish.new.dst (length c.regroup.new.dst)
    (sym c.in_ok-pack_refusal.ensures) c.regroup.auto.dst c.finish.ensures
