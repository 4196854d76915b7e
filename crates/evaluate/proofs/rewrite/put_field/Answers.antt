-- `evaluate::rewrite::put_field` meets its contract: a limit's number has room, and is stored. Assumes nothing.
use mathlib.Core.Path.{◌≡◌, ◌∙◌, sym}
use mathlib.Core.Bool.{true}
use Prim.Native.Nat.{◌≤◌}
use native.Mathlib.Omega.{arith}
use lib.IntN.{nat_abs}
use Rattle.formula.specs.Grammar.{most_step}
use Rattle.evaluate.specs.Evaluate.{is_limit}
use Rattle.evaluate.proofs.TextLaws.{kept, numeral_short, put_number}
use Rattle.evaluate.proofs.rewrite.put_field.Goals as goal

pub append_numeral-requires-clause-room : goal.append_numeral-requires-clause-room
append_numeral-requires-clause-room c =
    let z = c.in_ok-number.number in
    let small : nat_abs z ≤ most_step = c.in_ok-number.ensures.small in
    rw (kept z small) (record { room = omega (arith, numeral_short z small, c.requires) })

pub returns : goal.returns
returns c =
    let a = c.args in
    let z = c.in_ok-number.number in
    let small : nat_abs z ≤ most_step = c.in_ok-number.ensures.small in
    let limited : is_limit a.k ≡ true = sym c.is_limit.ensures ∙ c.if-not-is_limit.false in
    put_number a.field.now (is_limit a.k) _ z limited (sym c.in_ok-number.ensures.worth) small
    (rw (kept z small) at c.append_numeral.ensures)
