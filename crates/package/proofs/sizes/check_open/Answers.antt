-- `check_open`: each return answers one check. Assumes nothing.
use mathlib.Core.Path.{refl, ◌∙◌, sym}
use native.Mathlib.Omega.{arith}
use borrow.Author.Tests.{eq-eqb, ne_eqb, le-leb, lt-leb}
use Rattle.scheme.specs.Key.{key_size}
use Rattle.scheme.proofs.Bounds.{signature_bounded}
use Rattle.package.specs.Package.{package_min, package_max}
use Rattle.package.proofs.sizes.check_open.Goals as goal

pub returns-then-key-key_size : goal.returns-then-key-key_size
returns-then-key-key_size c =
    let a = c.args in
    rw (ne_eqb a.key (key_size a.p.sizes) (λ e. c.if-key-key_size.true (e ∙ sym c.key_size.ensures))) refl

pub overflow_add-size : goal.overflow_add-size
overflow_add-size c =
    omega (arith, c.signature_size-size.ensures, signature_bounded c.args.p.sizes c.args.p.sound)

pub returns-then-sealed-size : goal.returns-then-sealed-size
returns-then-sealed-size c =
    let a = c.args in
    rw (
      eq-eqb a.key (key_size a.p.sizes) (c.if-key-key_size.false ∙ c.key_size.ensures),
      lt-leb (package_min a.p.sizes) a.sealed (omega (arith, c.if-sealed-size.true, c.signature_size-size.ensures)),
    )
    refl

pub overflow_add-size-2 : goal.overflow_add-size-2
overflow_add-size-2 c =
    omega (arith, c.signature_size-size.ensures, signature_bounded c.args.p.sizes c.args.p.sound)

pub returns-then-sealed-size-2 : goal.returns-then-sealed-size-2
returns-then-sealed-size-2 c =
    let a = c.args in
    rw (
      eq-eqb a.key (key_size a.p.sizes) (c.if-key-key_size.false ∙ c.key_size.ensures),
      le-leb (package_min a.p.sizes) a.sealed (omega (arith, c.if-sealed-size.false, c.signature_size-size.ensures)),
      lt-leb a.sealed (package_max a.p.sizes) (omega (arith, c.if-sealed-size-2.true, c.signature_size-size.ensures)),
    )
    refl

pub returns : goal.returns
returns c =
    let a = c.args in
    rw (
      eq-eqb a.key (key_size a.p.sizes) (c.if-key-key_size.false ∙ c.key_size.ensures),
      le-leb (package_min a.p.sizes) a.sealed (omega (arith, c.if-sealed-size.false, c.signature_size-size.ensures)),
      le-leb a.sealed (package_max a.p.sizes) (omega (arith, c.if-sealed-size-2.false, c.signature_size-size.ensures)),
    )
    refl
