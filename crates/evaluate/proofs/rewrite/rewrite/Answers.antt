-- `evaluate::rewrite::rewrite` meets its contract: the fields before the one that is found are stored, with commas between them.
-- Assumes nothing.
use mathlib.Core.Path.{◌∙◌}
use native.Mathlib.Omega.{arith}
use borrow.Author.Rules.{rules}
use borrow.Author.Tests.{tests}
use lib.Dec.{eqb}
use lib.ListN.{length}
use Rattle.std.proofs.lemmas.Iterator.Consumers.{YieldsList-at, YieldsList-from_enumerate, YieldsList-turn, YieldsList-end}
use Rattle.std.proofs.lemmas.Iterator.Splits.{YieldsList-from_slice_split}
use Rattle.profile.specs.Line.{comma}
use Rattle.evaluate.specs.InnerText.{number_at}
use Rattle.evaluate.proofs.FieldLaws.{Item, item_at, all_items}
use Rattle.evaluate.proofs.TextLaws.{Led, nothing_yet, all_put, led_first, led_more, field_room, one_more, stops}
use Rattle.std.specs.List.{slice_split, enumerate_from}
use Rattle.std.proofs.lemmas.List.{length_push}
use Rattle.std.proofs.lemmas.Result.{err_from_is_err_and}
use Rattle.std.proofs.lemmas.Iterator.{YieldsList}
use Rattle.evaluate.proofs.rewrite.rewrite.Given as given
use Rattle.evaluate.proofs.rewrite.rewrite.Goals.{After-into_iter-k-iterator, Joined-k-gt0, then-k-gt0, else-k-gt0}
use Rattle.evaluate.proofs.rewrite.rewrite.Goals as goal

-- the items are the fields with their numbers
fields_of : (c : After-into_iter-k-iterator)
    → YieldsList (given.iterator-loop-k).next_gives (λ p. (p.0, p.1.now)) c.into_iter-k-iterator.result
    (enumerate_from 0 (slice_split (λ b. eqb b comma) c.args.input.now))
fields_of c =
    YieldsList-from_enumerate
    (YieldsList-at (cc)
    (YieldsList-from_slice_split {s = c.split.result} _ (λ b. eqb b comma) c.args.input.now c.split.ensures.rest c.split.ensures.done
    c.split.ensures.closure (λ x b q k. search (rules, tests))))
    (cc)

pub loop-k-init : goal.loop-k-init
loop-k-init c =
    let a = c.args in
    record { so_far = nothing_yet (number_at a.volts) a.input.now a.out.now; size = c.requires.out_len }

-- the comma before the field of a turn is stored
led_of : (c : Joined-k-gt0) → Item c.args.input.now (length c.loop-k.yielded) c.in-Some.k c.in-Some.field.now
    → Led (number_at c.args.volts) c.args.input.now c.args.out.now c.in-Some.k c.if-k-gt0.next c.if-k-gt0.out c.in-Some.field.now
led_of c item =
    let a = c.args in
    let so_far = c.loop-k.invariant.so_far in
    rw item.number
    (elim c.if-k-gt0.branch [
      | then-k-gt0 w ↦
          rw (w.out-is, w.next-is)
          (led_more (number_at a.volts) a.input.now a.out.now so_far item.inside item.bytes (omega (arith, item.number)))
      | else-k-gt0 w ↦
          rw (w.out-is, w.next-is)
          (led_first (number_at a.volts) a.input.now a.out.now so_far item.inside item.bytes (omega (arith, item.number)))
    ])

pub put_field-requires : goal.put_field-requires
put_field-requires c =
    let a = c.args in
    let item =
    item_at a.input.now _ c.in-Some.k c.in-Some.field.now
    (YieldsList-turn (fields_of (goal.at.put_field-requires c).After-into_iter-k-iterator) c.loop-k.yielded _ c.loop-k.yielded_by _ _ _
    c.in-Some.is c.next.ensures.steps) in
    field_room (number_at a.volts) a.input.now a.out.now (led_of (goal.at.put_field-requires c).Joined-k-gt0 item)
    c.requires.short (c.if-k-gt0.auto.out ∙ c.loop-k.invariant.size)

pub returns-in_err-next : goal.returns-in_err-next
returns-in_err-next c =
    let a = c.args in
    let item =
    item_at a.input.now _ c.in-Some.k c.in-Some.field.now
    (YieldsList-turn (fields_of (goal.at.returns-in_err-next c).After-into_iter-k-iterator) c.loop-k.yielded _ c.loop-k.yielded_by _ _ _
    c.in-Some.is c.next.ensures.steps) in
    let told = err_from_is_err_and c.from_residual.result c.from_residual.ensures.1 in
    rw (told.1, told.2)
    (stops (number_at a.volts) a.input.now a.out.now (led_of (goal.at.returns-in_err-next c).Joined-k-gt0 item)
    c.in_err-next.ensures)

pub loop-k-preserved : goal.loop-k-preserved
loop-k-preserved c =
    let a = c.args in
    let item =
    item_at a.input.now _ c.in-Some.k c.in-Some.field.now
    (YieldsList-turn (fields_of (goal.at.loop-k-preserved c).After-into_iter-k-iterator) c.loop-k.yielded _ c.loop-k.yielded_by _ _ _
    c.in-Some.is c.next.ensures.steps) in
    record {
      so_far =
          rw (length_push, ← item.number)
          (one_more (number_at a.volts) a.input.now a.out.now (led_of (goal.at.loop-k-preserved c).Joined-k-gt0 item)
          c.in_ok-next.ensures);
      size = c.put_field.auto.out ∙ c.if-k-gt0.auto.out ∙ c.loop-k.invariant.size;
    }

pub returns : goal.returns
returns c =
    let a = c.args in
    let over =
    YieldsList-end (fields_of (goal.at.returns c).After-into_iter-k-iterator) c.loop-k.yielded _ c.loop-k.yielded_by _ _
    c.in-None.is c.next.ensures.steps in
    all_put (number_at a.volts) a.input.now a.out.now c.loop-k.invariant.so_far
    (all_items a.input.now (length c.loop-k.yielded) over.1) c.requires.short
