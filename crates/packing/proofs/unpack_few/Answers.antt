-- `packing::unpack_few` meets its contract: the whole groups stand in the buffer before the last group is written.
-- Assumes nothing.
use mathlib.Core.Path.{◌∙◌, sym, ap}
use mathlib.Core.List.{List}
use Prim.Native.Nat.{ℕ, ◌-◌, ◌*◌, ◌/◌, ◌^◌}
use native.Mathlib.Omega.{arith}
use lib.ListN.{length, take}
use lib.Seq.{take-take}
use Rattle.packing.proofs.Below.{bytes_below, below_test}
use Rattle.packing.proofs.Sizes.{size_groups, rest_bytes}
use Rattle.packing.proofs.Refusals.{unpack_done}
use Rattle.packing.proofs.unpack_few.Goals as goal

pub regroup-requires : goal.regroup-requires
regroup-requires g c =
    let a = c.args in
    record {
      in_bounds = (omega (arith, size_groups g.row.W (length a.fields.now)), omega arith);
      widths = (omega arith, omega arith, below_test (bytes_below a.packed.now c.type_inv.packed));
    }

pub finish-requires : goal.finish-requires
finish-requires g c =
    let copy = c.copy_from_slice in
    let a = c.args in
    let n : ℕ = length a.fields.now in
    record {
      in_bounds = (omega (arith, size_groups g.row.W n), omega (arith, copy.auto.self));
      widths = (
        omega arith,
        omega arith,
        below_test (bytes_below a.packed.now c.type_inv.packed),
        omega (arith, rest_bytes g.row.W n c.requires.2),
      );
      begun = ap (λ (xs : List ℕ). take (n / 8 * 8) xs) copy.ensures.after
          ∙ take-take (n / 8 * 8) n c.regroup.new.dst (omega arith)
          ∙ c.regroup.ensures;
    }

pub returns : goal.returns
returns g c =
    let a = c.args in
    unpack_done g.row.W (2 ^ g.row.W - 1) a.packed.now a.fields.now c.finish.new.dst (length c.copy_from_slice.new.self)
    (sym c.in_ok-unpack_refusal.ensures) c.copy_from_slice.auto.self c.finish.ensures
