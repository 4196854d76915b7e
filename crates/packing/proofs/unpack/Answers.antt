-- `packing::unpack` meets its contract. Assumes nothing.
use mathlib.Core.Path.{refl, ◌∙◌, sym}
use Prim.Native.Nat.{◌-◌, ◌^◌}
use native.Mathlib.Omega.{arith}
use lib.ListN.{length}
use Rattle.outcome.specs.Answer.{bad_size}
use Rattle.outcome.proofs.Checks.{refuses}
use Rattle.packing.proofs.Below.{bytes_below, below_test}
use Rattle.packing.proofs.Sizes.{size_groups, rest_bytes}
use Rattle.packing.proofs.Refusals.{unpack_bad_size, unpack_done}
use Rattle.packing.proofs.unpack.Goals as goal

pub returns-then-packed-packed_size : goal.returns-then-packed-packed_size
returns-then-packed-packed_size g c =
    let a = c.args in
    refuses bad_size
    (unpack_bad_size g.row.W (2 ^ g.row.W - 1) (length a.fields.now) a.packed.now
    (λ e. c.if-packed-packed_size.true (e ∙ sym c.packed_size.ensures)))
    refl

pub see_groups-requires : goal.see_groups-requires
see_groups-requires g c = (omega (arith, size_groups g.row.W (length c.args.fields.now)), omega arith)

pub regroup-requires : goal.regroup-requires
regroup-requires g c =
    let a = c.args in
    record {
      in_bounds = (omega (arith, size_groups g.row.W (length a.fields.now)), omega arith);
      widths = (omega arith, omega arith, below_test (bytes_below a.packed.now c.type_inv.packed));
    }

pub finish-requires : goal.finish-requires
finish-requires g c =
    let a = c.args in
    record {
      in_bounds = (omega (arith, size_groups g.row.W (length a.fields.now)), omega (arith, c.regroup.auto.dst));
      widths = (
        omega arith,
        omega arith,
        below_test (bytes_below a.packed.now c.type_inv.packed),
        omega (arith, rest_bytes g.row.W (length a.fields.now) c.requires.1),
      );
      begun = c.regroup.ensures;
    }

pub returns : goal.returns
returns g c =
    let a = c.args in
    unpack_done g.row.W (2 ^ g.row.W - 1) a.packed.now a.fields.now c.finish.new.dst (length c.regroup.new.dst)
    (sym c.in_ok-unpack_refusal.ensures) c.regroup.auto.dst c.finish.ensures
