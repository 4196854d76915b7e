-- `formula::whole_sum` meets its contract: where something follows the sum the field is no formula. Assumes nothing.
use Rattle.formula.proofs.WholeLaws.{sum_longer}
use Rattle.formula.proofs.whole_sum.Goals as goal

pub returns-then-sum-field : goal.returns-then-sum-field
returns-then-sum-field c =
    let part = rw c.in_ok-sum.ensures.ok_part at c.sum.ensures in
    sum_longer c.args.volts.volts c.args.field.now part c.if-sum-field.true
