-- `decimal::write_decimal` meets its contract: from the last digit on, what is stored and the digits that are left are
-- the number's. Assumes nothing.
use mathlib.Core.Path.{ap}
use Prim.Native.Nat.{◌+◌}
use Rattle.decimal.proofs.Decimal.{left_all, left_more, left_none}
use Rattle.decimal.proofs.write_decimal.Goals as goal

pub loop-i-init : goal.loop-i-init
loop-i-init c = left_all _ _ _ _ (ap (λ n. c.args.at + n) c.width.ensures)

pub loop-i-preserved : goal.loop-i-preserved
loop-i-preserved c = left_more c.loop-i.invariant _ c.digit_byte.ensures c.loop-i-test.true

pub returns : goal.returns
returns c =
    record {
      place = ap (λ n. c.args.at + n) c.width.ensures;
      stored = left_none c.loop-i.invariant c.loop-i-test.false;
    }
