-- `store::lookup` meets its contract: where nothing refuses it, the line of what is found. Assumes nothing.
use mathlib.Core.Path.{◌≡◌, ◌∙◌, sym}
use native.Mathlib.Omega.{arith}
use Rattle.std.specs.Prelude.{None, Some}
use Rattle.std.proofs.lemmas.Result.{err_from_is_err_and}
use Rattle.outcome.specs.Answer.{not_stored}
use Rattle.store.specs.Stored.{classes_of}
use Rattle.store.proofs.LookupLaws.{found_here, found_none}
use Rattle.store.proofs.FoundLaws.{nothing_found, line_found}
use Rattle.store.proofs.lookup.Goals as goal

pub returns-in_err-slot : goal.returns-in_err-slot
returns-in_err-slot c =
    let a = c.args in
    let device = c.device_of-device.ensures in
    let set = rw device at (sym c.device_ok.ensures ∙ c.if-not-device_ok.false) in
    let exit = err_from_is_err_and c.from_residual.result c.from_residual.ensures.1 in
    let none : c.find_key.result ≡ None = grind arith in
    let missing : c.in_err-slot.field-0.0 ≡ not_stored = grind arith in
    let first = rw (none, c.key.ensures, device) at c.find_key.ensures in
    let nowhere = found_none (classes_of a.store.now) a.store.now _ _ set first (omega arith) in
    λ before.
    rw (exit.1, exit.2, missing)
    (nothing_found (classes_of a.store.now) a.store.now a.country.now a.out.now c.if-country-ne2.false set
    c.if-store-ne-STORE_SIZE.false c.if-out-ne-LONGEST.false nowhere)

pub returns : goal.returns
returns c =
    let a = c.args in
    let device = c.device_of-device.ensures in
    let set = rw device at (sym c.device_ok.ensures ∙ c.if-not-device_ok.false) in
    let some : c.find_key.result ≡ Some c.in_ok-slot.slot = grind arith in
    let first = rw (some, c.key.ensures, device) at c.find_key.ensures in
    let here = found_here (classes_of a.store.now) a.store.now _ _ set first c.in_ok-slot.slot.in_store in
    λ before.
    line_found (classes_of a.store.now) a.store.now a.country.now a.out.now c.if-country-ne2.false set
    c.if-store-ne-STORE_SIZE.false c.if-out-ne-LONGEST.false here
    (rw (c.table.ensures, c.profile_at.ensures) at (c.write_profile_line.ensures before))
