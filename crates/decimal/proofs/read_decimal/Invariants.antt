-- `decimal::read_decimal`: the value so far and the digits that are left spell the number.
use Rattle.decimal.proofs.Decimal.{ReadSoFar}
use Rattle.decimal.proofs.read_decimal.Given as goal

abbrev pub invariant-loop-end : goal.invariant-loop-end
invariant-loop-end l = ReadSoFar l.s l.at l.value l.end
