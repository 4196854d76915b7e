-- `formula::negative` meets its contract: where something follows the number the field is no formula. Assumes nothing.
use Rattle.formula.proofs.WholeLaws.{negative_longer}
use Rattle.formula.proofs.negative.Goals as goal

pub returns-then-number-digits : goal.returns-then-number-digits
returns-then-number-digits c =
    let part = rw c.in_ok-number.ensures.ok_part at c.number_at.ensures.part in
    negative_longer c.args.digits.now part c.if-number-digits.true
