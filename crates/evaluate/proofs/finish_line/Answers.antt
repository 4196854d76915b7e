-- `evaluate::finish_line` meets its contract: a text that is a line has room where it is copied. Assumes nothing.
use mathlib.Core.Path.{sym}
use Prim.Native.Nat.{◌≤◌}
use native.Mathlib.Omega.{arith}
use lib.ListN.{length}
use lib.Seq.{length-take-le}
use Rattle.profile.specs.Table.{table_of}
use Rattle.evaluate.proofs.EntryLaws.{read_short_lem}
use Rattle.evaluate.proofs.finish_line.Goals.{In-Ok}
use Rattle.evaluate.proofs.finish_line.Goals as goal

-- what was read has room
within : (c : In-Ok) → length c.args.text.now ≤ length c.args.out.now
within c =
    omega (
      arith,
      read_short_lem (table_of c.args.table.now) c.args.text.now c.in-Ok.field-0 (sym c.in-Ok.ensures),
      c.requires,
    )

pub slice_bounds-copy_from_slice-end : goal.slice_bounds-copy_from_slice-end
slice_bounds-copy_from_slice-end c = within (goal.at.slice_bounds-copy_from_slice-end c).In-Ok

pub slice_bounds-copy_from_slice-end-2 : goal.slice_bounds-copy_from_slice-end-2
slice_bounds-copy_from_slice-end-2 c =
    sym (length-take-le _ c.args.out.now (within (goal.at.slice_bounds-copy_from_slice-end-2 c).In-Ok))

pub copy_from_slice-requires : goal.copy_from_slice-requires
copy_from_slice-requires c = length-take-le _ c.args.out.now (within (goal.at.copy_from_slice-requires c).In-Ok)
