-- `table::load_table` meets its contract. Assumes nothing.
use mathlib.Core.Path.{◌∙◌, sym}
use Rattle.table.proofs.EntryLaws.{load_done}
use Rattle.table.proofs.StoreLaws.{put_behind}
use Rattle.table.proofs.load_table.Goals as goal

pub returns : goal.returns
returns c =
    load_done c.if-store-ne-STORE_SIZE.false c.in_ok-read_rows.ensures (sym c.is_empty.ensures ∙ c.if-not-is_empty.false)
    (put_behind c.args.store.now _ _ c.copy_from_slice.ensures.after)
