-- `make_from_line`: sizes, then the line is read, and where it is one it is sealed. Assumes nothing.
use mathlib.Core.Path.{refl}
use Rattle.outcome.proofs.Checks.{number_positive}
use Rattle.outcome.proofs.Results.{passed_on}
use Rattle.package.proofs.MakeLaws.{make_line_sizes, make_line_broken, read_room, make_line_sealed}
use Rattle.package.proofs.make.make_from_line.Goals as goal

pub returns-in_err-check_make-clause-package : goal.returns-in_err-check_make-clause-package
returns-in_err-check_make-clause-package c =
    let a = c.args in
    rw (passed_on c.from_residual.result c.from_residual.ensures.1)
    (λ before.
    make_line_sizes a.scratch.now.category.sizes a.table.now a.private.now a.master.now a.salt.now a.line.now a.out.now
    before _ (number_positive _) c.in_err-check_make.ensures)

pub returns-in_err-read_line-clause-package : goal.returns-in_err-read_line-clause-package
returns-in_err-read_line-clause-package c =
    let a = c.args in
    rw (passed_on c.from_residual-in_err-read_line.result c.from_residual-in_err-read_line.ensures.1)
    (λ before.
    make_line_broken a.scratch.now.category.sizes a.table.now a.private.now a.master.now a.salt.now a.line.now a.out.now
    before 0 c.in_ok-check_make.ensures refl _ c.in_err-read_line.ensures)

pub seal-requires : goal.seal-requires
seal-requires c =
    let a = c.args in
    read_room a.scratch.now.category.sizes a.table.now a.private.now a.master.now a.salt.now a.line.now a.out.now 0 0
    c.in_ok-check_make.ensures refl _ c.in_ok-read_line.ensures

pub returns-clause-package : goal.returns-clause-package
returns-clause-package c =
    let a = c.args in
    λ before.
    make_line_sealed a.scratch.now.category.sizes a.table.now a.private.now a.master.now a.salt.now a.line.now a.out.now
    before 0 c.in_ok-check_make.ensures refl _ c.in_ok-read_line.ensures (c.seal.ensures.package before)
