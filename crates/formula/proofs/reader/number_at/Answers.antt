-- `formula::reader::number_at` meets its contract: the tests on what `read_decimal` found say whether it is a number without
-- leading zeros. Assumes nothing.
use mathlib.Core.Path.{◌≡◌}
use native.Mathlib.Omega.{arith}
use Rattle.std.proofs.Common.{◌+◌, get_or}
use Rattle.formula.proofs.DigitLaws.{begins_inside, unread_empty, unread_large, unread_zero, read_number_lem}
use Rattle.formula.proofs.reader.number_at.Goals as goal

pub returns-then-number-at-clause-part : goal.returns-then-number-at-clause-part
returns-then-number-at-clause-part c =
    unread_empty c.read_decimal-number.ensures c.requires c.if-number-at.true

pub returns-then-number-gt-MOST_NUMBER-clause-part : goal.returns-then-number-gt-MOST_NUMBER-clause-part
returns-then-number-gt-MOST_NUMBER-clause-part c =
    unread_large c.read_decimal-number.ensures c.requires c.if-number-gt-MOST_NUMBER.true

pub bounds-s-at : goal.bounds-s-at
bounds-s-at c = begins_inside c.read_decimal-number.ensures c.requires c.if-number-at.false

pub returns-then-number-at-2-clause-part : goal.returns-then-number-at-2-clause-part
returns-then-number-at-2-clause-part c =
    unread_zero c.read_decimal-number.ensures c.requires c.if-number-at.false (omega arith) c.if-number-at-2.true

pub returns-clause-part : goal.returns-clause-part
returns-clause-part c =
    let plain : get_or c.args.s.now c.args.at 0 ≡ 48 → c.read_decimal-number.result.end ≡ c.args.at + 1 = grind arith in
    read_number_lem c.read_decimal-number.ensures c.requires c.if-number-at.false c.if-number-gt-MOST_NUMBER.false plain
