-- `decimal::number_behind` meets its contract: past the bytes stands a number, or the slice has ended. Assumes nothing.
use native.Mathlib.Omega.{arith}
use Rattle.decimal.proofs.Decimal.{number_missing}
use Rattle.decimal.proofs.number_behind.Goals as goal

pub returns-then-s-at : goal.returns-then-s-at
returns-then-s-at c =
    let a = c.args in
    number_missing a.s.now a.at a.skip (omega arith)
