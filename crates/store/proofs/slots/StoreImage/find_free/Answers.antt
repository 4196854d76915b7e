-- `store::slots::StoreImage::find_free` meets its contract. Assumes nothing.
use mathlib.Core.Path.{◌∙◌, sym, ap}
use borrow.Author.Rules.{rules}
use borrow.Author.Tests.{tests}
use Rattle.std.proofs.lemmas.Iterator.{YieldsList-from_slice}
use Rattle.std.proofs.lemmas.Iterator.Search.{position_from_yields_List}
use Rattle.store.specs.Stored.{slot_of, is_free}
use Rattle.store.specs.InnerSlots.{slot_in}
use Rattle.store.proofs.PlaceLaws.{place_first}
use Rattle.store.proofs.slots.StoreImage.find_free.Goals as goal

pub returns-in_err-place : goal.returns-in_err-place
returns-in_err-place c =
    let at = position_from_yields_List (λ b. is_free (slot_of b)) _ _ c.position.result c.position.ensures.ran (YieldsList-from_slice c.slots.result.now cc) (λ x b q k. search (rules, tests)) in
    ap slot_in c.from_residual.ensures
    ∙ place_first is_free c.args.self.now.bytes.now (sym c.in_err-place.was ∙ at) c.slots.ensures.slots

pub returns : goal.returns
returns c =
    let at = position_from_yields_List (λ b. is_free (slot_of b)) _ _ c.position.result c.position.ensures.ran (YieldsList-from_slice c.slots.result.now cc) (λ x b q k. search (rules, tests)) in
    place_first is_free c.args.self.now.bytes.now (sym c.in_ok-place.was ∙ at) c.slots.ensures.slots
