-- `make_package`: sizes, then the line in local bytes, then that line is sealed. Assumes nothing.
use mathlib.Core.Path.{refl}
use native.Mathlib.Omega.{arith}
use Rattle.outcome.proofs.Checks.{number_positive}
use Rattle.outcome.proofs.Results.{passed_on}
use Rattle.profile.specs.Table.{table_of}
use Rattle.package.proofs.MakeLaws.{front_length, written_short, front_room, make_sizes_lem, make_broken, make_sealed}
use Rattle.package.proofs.make.make_package.Goals as goal

pub returns-in_err-check_make-clause-package : goal.returns-in_err-check_make-clause-package
returns-in_err-check_make-clause-package c =
    let a = c.args in
    rw (passed_on c.from_residual.result c.from_residual.ensures.1)
    (λ before.
    make_sizes_lem a.scratch.now.category.sizes a.table.now a.private.now a.master.now a.salt.now a.profile a.out.now
    before _ (number_positive _) c.in_err-check_make.ensures)

pub returns-in_err-n-clause-package : goal.returns-in_err-n-clause-package
returns-in_err-n-clause-package c =
    let a = c.args in
    rw (passed_on c.from_residual-in_err-n.result c.from_residual-in_err-n.ensures.1)
    (λ before.
    make_broken a.scratch.now.category.sizes a.table.now a.private.now a.master.now a.salt.now a.profile a.out.now before
    0 c.in_ok-check_make.ensures refl c.write_line.new.out c.in_err-n.ensures _ refl)

pub slice_bounds-line-end : goal.slice_bounds-line-end
slice_bounds-line-end c =
    omega (
      arith,
      c.write_line.auto.out,
      written_short (table_of c.args.table.now) c.args.profile c.write_line.new.out c.in_ok-n.ensures _ refl,
    )

pub slice_bounds-seal-end : goal.slice_bounds-seal-end
slice_bounds-seal-end c =
    front_length _ c.write_line.new.out
    (omega (
      arith,
      c.write_line.auto.out,
      written_short (table_of c.args.table.now) c.args.profile c.write_line.new.out c.in_ok-n.ensures _ refl,
    ))

pub seal-requires : goal.seal-requires
seal-requires c =
    let a = c.args in
    front_room a.scratch.now.category.sizes a.table.now a.private.now a.master.now a.salt.now a.profile a.out.now 0
    0 c.in_ok-check_make.ensures refl c.in_ok-n.n c.write_line.new.out c.write_line.auto.out
    (omega (
      arith,
      c.write_line.auto.out,
      written_short (table_of a.table.now) a.profile c.write_line.new.out c.in_ok-n.ensures c.in_ok-n.n refl,
    ))

pub returns-clause-package : goal.returns-clause-package
returns-clause-package c =
    let a = c.args in
    λ before.
    make_sealed a.scratch.now.category.sizes a.table.now a.private.now a.master.now a.salt.now a.profile a.out.now before
    0 c.in_ok-check_make.ensures refl c.write_line.new.out c.in_ok-n.ensures _ refl (c.seal.ensures.package before)
