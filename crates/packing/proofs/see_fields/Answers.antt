-- `packing::see_fields` meets its contract. Assumes nothing.
use borrow.Author.Rules.{rules}
use Rattle.packing.proofs.Seen.{see_largest}
use Rattle.packing.proofs.see_fields.Goals as goal

pub returns : goal.returns
returns c =
    let fields = c.args.fields.now in (
      search rules,
      λ w h. rw c.from.ensures (see_largest w c.largest.result fields h c.largest.ensures),
    )
