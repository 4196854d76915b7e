-- `preview::hold` meets its contract: it is one call of `store::put`. Assumes nothing.
use mathlib.Core.Path.{refl}
use Rattle.profile.specs.Table.{table_of}
use Rattle.image.proofs.Theorems.{valid_fits}
use Rattle.store.proofs.Reached.{puts_step}
use Rattle.preview.proofs.EntryLaws.{own_valid}
use Rattle.preview.proofs.hold.Goals as goal

pub returns : goal.returns
returns c =
    let classes = table_of c.args.table.now in
    let valid = own_valid classes c.args.profile c.requires.t in
    let kinds = (valid_fits classes c.args.profile c.requires.t).kinds in
    (_, valid, puts_step _ _ _ _ _ c.requires.store_len kinds c.put.ensures, refl)
