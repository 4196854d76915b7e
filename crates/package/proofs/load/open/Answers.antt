-- `package::load::open` meets its contract: stage after stage. Assumes nothing.
use mathlib.Core.Path.{◌∙◌, sym, ap}
use Rattle.outcome.specs.Result.{number_in}
use Rattle.outcome.proofs.Results.{passed_on}
use Rattle.profile.specs.Table.{table_of}
use Rattle.package.proofs.OpenLaws.{verify_parts, read_part, open_sizes_lem, open_verify, open_line}
use Rattle.package.proofs.load.open.Goals as goal

pub returns-in_err-check_open-clause-profile : goal.returns-in_err-check_open-clause-profile
returns-in_err-check_open-clause-profile c =
    let a = c.args in
    rw (passed_on c.from_residual.result c.from_residual.ensures.1)
    (open_sizes_lem a.scratch.now.category.sizes (table_of a.table.now) a.key.now a.sealed.now _ c.in_err-check_open.ensures)

pub returns-in_err-verify-clause-profile : goal.returns-in_err-verify-clause-profile
returns-in_err-verify-clause-profile c =
    let a = c.args in
    let p = a.scratch.now.category.sizes in
    let size = c.signature_size-size in
    rw (passed_on c.from_residual-in_err-verify.result c.from_residual-in_err-verify.ensures.1)
    (open_verify p (table_of a.table.now) a.key.now a.sealed.now (sym c.in_ok-check_open.ensures) _
    (verify_parts p a.sealed.now size.result size.ensures a.key.now
    (sym (ap number_in c.in_err-verify.was) ∙ c.verify.ensures.answer)))

pub returns-clause-profile : goal.returns-clause-profile
returns-clause-profile c =
    let a = c.args in
    let p = a.scratch.now.category.sizes in
    let size = c.signature_size-size in
    open_line p (table_of a.table.now) a.key.now a.sealed.now (sym c.in_ok-check_open.ensures)
    (sym (verify_parts p a.sealed.now size.result size.ensures a.key.now
    (sym (ap number_in c.in_ok-verify.was) ∙ c.verify.ensures.answer)))
    c.read_line.result (read_part p a.sealed.now size.result size.ensures (table_of a.table.now) c.read_line.ensures)
