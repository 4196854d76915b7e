-- `nearest::nearest` meets its contract: where nothing refuses it, the line of what is nearest. Assumes nothing.
use mathlib.Core.Path.{◌≡◌, ◌∙◌, sym}
use native.Mathlib.Omega.{arith}
use Rattle.std.specs.Prelude.{None, Some}
use Rattle.std.proofs.lemmas.Result.{err_from_is_err_and}
use Rattle.outcome.specs.Answer.{not_stored}
use Rattle.store.specs.Stored.{classes_of}
use Rattle.store.proofs.FoundLaws.{nothing_found, line_found}
use Rattle.nearest.proofs.nearest.Goals as goal

pub returns-in_err-slot : goal.returns-in_err-slot
returns-in_err-slot c =
    let a = c.args in
    let measured = c.measured_of-measured.ensures in
    let set = rw measured at (sym c.measured_ok.ensures ∙ c.if-not-measured_ok.false) in
    let exit = err_from_is_err_and c.from_residual.result c.from_residual.ensures.1 in
    let none : c.find_nearest.result ≡ None = grind arith in
    let missing : c.in_err-slot.field-0.0 ≡ not_stored = grind arith in
    λ before.
    rw (exit.1, exit.2, missing)
    (nothing_found (classes_of a.store.now) a.store.now a.country.now a.out.now c.if-country-ne2.false set
    c.if-store-ne-STORE_SIZE.false c.if-out-ne-LONGEST.false (rw (none, measured) at c.find_nearest.ensures))

pub returns : goal.returns
returns c =
    let a = c.args in
    let measured = c.measured_of-measured.ensures in
    let set = rw measured at (sym c.measured_ok.ensures ∙ c.if-not-measured_ok.false) in
    let some : c.find_nearest.result ≡ Some c.in_ok-slot.slot = grind arith in
    λ before.
    line_found (classes_of a.store.now) a.store.now a.country.now a.out.now c.if-country-ne2.false set
    c.if-store-ne-STORE_SIZE.false c.if-out-ne-LONGEST.false (rw (some, measured) at c.find_nearest.ensures)
    (rw (c.table.ensures, c.profile_at.ensures) at (c.write_profile_line.ensures before))
