-- `formula::evaluate` meets its contract: the length and the first byte say how the field is read. Assumes nothing.
use Rattle.formula.proofs.WholeLaws.{field_long, field_negative, field_sum}
use Rattle.formula.proofs.evaluate.Goals as goal

pub returns-then-field-gt-LONGEST_FORMULA : goal.returns-then-field-gt-LONGEST_FORMULA
returns-then-field-gt-LONGEST_FORMULA c =
    field_long c.args.volts.volts c.args.field.now c.if-field-gt-LONGEST_FORMULA.true

pub returns-in-Some : goal.returns-in-Some
returns-in-Some c =
    let cut = c.in-Some.ensures.cases in
    field_negative c.args.volts.volts c.args.field.now c.in-Some.digits.now c.if-field-gt-LONGEST_FORMULA.false cut.0 cut.1
    c.negative.ensures

pub returns : goal.returns
returns c =
    field_sum c.args.volts.volts c.args.field.now c.if-field-gt-LONGEST_FORMULA.false c.in_default.ensures.cases
    c.whole_sum.ensures
