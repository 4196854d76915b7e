-- `decimal::width` meets its contract: the powers of ten around a number count its digits. Assumes nothing.
use Rattle.decimal.proofs.Decimal.{power_width}
use Rattle.decimal.proofs.width.Goals as goal

pub returns : goal.returns
returns c = power_width _ _ (rw c.max.ensures at c.ilog10.ensures.power_le) (rw c.max.ensures at c.ilog10.ensures.next_power_gt)
