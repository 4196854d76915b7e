-- `preview::append_text` meets its contract. Assumes nothing.
use mathlib.Core.Path.{sym}
use native.Mathlib.Omega.{arith}
use lib.ListN.{length}
use lib.Seq.{length-take-le}
use Rattle.preview.proofs.RowLaws.{put_front}
use Rattle.preview.proofs.append_text.Goals as goal

pub slice_bounds-copy_from_slice-end-2 : goal.slice_bounds-copy_from_slice-end-2
slice_bounds-copy_from_slice-end-2 c =
    sym (length-take-le (length c.args.text.now) c.args.out.now (omega (arith, c.requires.room)))

pub copy_from_slice-requires : goal.copy_from_slice-requires
copy_from_slice-requires c =
    length-take-le (length c.args.text.now) c.args.out.now (omega (arith, c.requires.room))

pub returns : goal.returns
returns c =
    let copy = c.copy_from_slice in
    put_front c.args.out.now copy.new.self c.args.text.now copy.ensures.after
    (omega (arith, c.requires.room))
