-- `decimal::read_decimal` meets its contract: the value so far and the digits that are left spell the number. Assumes nothing.
use mathlib.Core.Path.{◌∙◌, sym}
use Rattle.decimal.proofs.Decimal.{so_far_none, so_far_more, so_far_stop, so_far_end, read_past}
use Rattle.decimal.proofs.read_decimal.Goals as goal

pub returns-then-s-at : goal.returns-then-s-at
returns-then-s-at c = read_past _ _ c.if-s-at.true

pub loop-end-init : goal.loop-end-init
loop-end-init c = so_far_none _ _

pub returns-then-not-is_ascii_digit : goal.returns-then-not-is_ascii_digit
returns-then-not-is_ascii_digit c =
    so_far_stop c.loop-end.invariant c.loop-end-test.true (sym c.is_ascii_digit.ensures.value ∙ c.if-not-is_ascii_digit.true)

pub loop-end-preserved : goal.loop-end-preserved
loop-end-preserved c =
    let digit = sym c.is_ascii_digit.ensures.value ∙ c.if-not-is_ascii_digit.false in
    rw c.with_digit-value.ensures (so_far_more c.loop-end.invariant c.loop-end-test.true digit)

pub returns : goal.returns
returns c = so_far_end c.loop-end.invariant c.loop-end-test.false
