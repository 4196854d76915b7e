-- `decimal::write_decimal`: what is stored and the digits that are left are the number's.
use Rattle.decimal.proofs.Decimal.{DigitsLeft}
use Rattle.decimal.proofs.write_decimal.Given as goal

abbrev pub invariant-loop-i : goal.invariant-loop-i
invariant-loop-i l = DigitsLeft l.initial.out l.at l.n l.out l.i l.rest
