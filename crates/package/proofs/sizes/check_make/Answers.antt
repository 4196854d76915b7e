-- `check_make`: each return answers one check. Assumes nothing.
use mathlib.Core.Path.{◌≡◌, refl, ◌∙◌, sym, ap}
use Prim.Native.Nat.{ℕ, ◌+◌}
use native.Mathlib.Omega.{arith}
use borrow.Author.Tests.{eq-eqb, ne_eqb}
use lib.ListN.{length}
use Rattle.profile.specs.Table.{table_size}
use Rattle.profile.specs.Line.{longest}
use Rattle.package.specs.Package.{package_max}
use Rattle.scheme.proofs.Bounds.{signature_bounded}
use Rattle.package.proofs.sizes.check_make.Goals.{After-signature_size}
use Rattle.package.proofs.sizes.check_make.Goals as goal

-- what is to be lent, as the code computes it
max : (c : After-signature_size) →
    let a = c.args in
    c.signature_size.result + longest ≡ package_max a.p.sizes
max c = ap (λ (k : ℕ). k + longest) c.signature_size.ensures

-- ---- needs
pub returns-then-table-ne-TABLE_SIZE : goal.returns-then-table-ne-TABLE_SIZE
returns-then-table-ne-TABLE_SIZE c =
    let a = c.args in
    rw (ne_eqb (length a.table.now) table_size c.if-table-ne-TABLE_SIZE.true) refl

pub returns-then-private-p : goal.returns-then-private-p
returns-then-private-p c =
    let a = c.args in
    rw (
      eq-eqb (length a.table.now) table_size c.if-table-ne-TABLE_SIZE.false,
      ne_eqb (length a.private.now) a.p.sizes.digest c.if-private-p.true,
    )
    refl

pub returns-then-master-p : goal.returns-then-master-p
returns-then-master-p c =
    let a = c.args in
    rw (
      eq-eqb (length a.table.now) table_size c.if-table-ne-TABLE_SIZE.false,
      eq-eqb (length a.private.now) a.p.sizes.digest c.if-private-p.false,
      ne_eqb (length a.master.now) a.p.sizes.seed c.if-master-p.true,
    )
    refl

pub returns-then-salt-p : goal.returns-then-salt-p
returns-then-salt-p c =
    let a = c.args in
    rw (
      eq-eqb (length a.table.now) table_size c.if-table-ne-TABLE_SIZE.false,
      eq-eqb (length a.private.now) a.p.sizes.digest c.if-private-p.false,
      eq-eqb (length a.master.now) a.p.sizes.seed c.if-master-p.false,
      ne_eqb (length a.salt.now) a.p.sizes.digest c.if-salt-p.true,
    )
    refl

pub overflow_add-signature_size : goal.overflow_add-signature_size
overflow_add-signature_size c =
    omega (arith, c.signature_size.ensures, signature_bounded c.args.p.sizes c.args.p.sound)

pub returns-then-lent-signature_size : goal.returns-then-lent-signature_size
returns-then-lent-signature_size c =
    let a = c.args in
    rw (
      eq-eqb (length a.table.now) table_size c.if-table-ne-TABLE_SIZE.false,
      eq-eqb (length a.private.now) a.p.sizes.digest c.if-private-p.false,
      eq-eqb (length a.master.now) a.p.sizes.seed c.if-master-p.false,
      eq-eqb (length a.salt.now) a.p.sizes.digest c.if-salt-p.false,
      ne_eqb a.lent (package_max a.p.sizes) (λ e. c.if-lent-signature_size.true (e ∙ sym (max (goal.at.returns-then-lent-signature_size c).After-signature_size))),
    )
    refl

pub returns : goal.returns
returns c =
    let a = c.args in
    rw (
      eq-eqb (length a.table.now) table_size c.if-table-ne-TABLE_SIZE.false,
      eq-eqb (length a.private.now) a.p.sizes.digest c.if-private-p.false,
      eq-eqb (length a.master.now) a.p.sizes.seed c.if-master-p.false,
      eq-eqb (length a.salt.now) a.p.sizes.digest c.if-salt-p.false,
      eq-eqb a.lent (package_max a.p.sizes) (c.if-lent-signature_size.false ∙ max (goal.at.returns c).After-signature_size),
    )
    refl
