-- `table::is_empty` meets its contract: no slot is used. Assumes nothing.
use mathlib.Core.Path.{◌∙◌}
use mathlib.Core.Bool.{not}
use borrow.Author.Rules.{rules}
use borrow.Author.Tests.{tests}
use Rattle.std.proofs.lemmas.Iterator.{YieldsList-from_slice}
use Rattle.std.proofs.lemmas.Iterator.Search.{all_from_yields_List}
use Rattle.store.specs.Stored.{slot_of}
use Rattle.table.proofs.StoreLaws.{none_used}
use Rattle.table.proofs.is_empty.Goals as goal

pub returns : goal.returns
returns c =
    all_from_yields_List (λ b. not (slot_of b).used) _ _ c.all.result c.all.ensures.ran (YieldsList-from_slice c.slots.result.now cc) (λ x b q k. search (rules, tests))
    ∙ none_used c.args.store.bytes.now c.slots.ensures.slots
