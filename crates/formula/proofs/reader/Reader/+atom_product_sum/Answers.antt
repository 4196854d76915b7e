-- The readers of atom, product and sum meet their contracts: what each reads is what the grammar's reader finds.
-- Assumes nothing.
use mathlib.Core.Path.{◌≡◌, ◌∙◌, ap}
use mathlib.Core.List.{List}
use Prim.Native.Nat.{ℕ, ◌+◌}
use native.Mathlib.Omega.{arith}
use lib.ListN.{drop}
use Rattle.formula.specs.Reader.{none, read_group}
use Rattle.formula.proofs.ReaderLaws.{stepped, broken, stopped}
use Rattle.formula.proofs.LevelLaws.{product_started, product_unstarted, sum_started, sum_unstarted}
use Rattle.formula.proofs.AtomLaws.{
  in_parentheses,
  no_pair,
  atom_missing,
  atom_nominal,
  atom_number,
  atom_no_number,
  atom_hollow,
  atom_unread,
  atom_open,
  atom_unclosed,
  atom_closed,
}
use Rattle.formula.proofs.reader.Reader.+atom_product_sum.Goals as goal

-- ---- atom

pub atom-returns-in_err-first : goal.atom-returns-in_err-first
atom-returns-in_err-first t c =
    let a = c.args in
    let v = a.self.now in
    rw c.from_residual.ensures
    (atom_missing v.volts.volts (read_group a.depth) v.text.now a.at (omega (arith, c.in_err-first.ensures.lookup.3)))

pub atom-returns-then-first-eq78 : goal.atom-returns-then-first-eq78
atom-returns-then-first-eq78 t c =
    let a = c.args in
    let v = a.self.now in
    let l = c.in_ok-first.ensures.lookup in
    rw c.of.ensures
    (atom_nominal v.volts.volts (read_group a.depth) v.text.now a.at l.3.0 (l.3.1 0) c.if-first-eq78.true)

pub atom-returns-in_err-number : goal.atom-returns-in_err-number
atom-returns-in_err-number t c =
    let a = c.args in
    let v = a.self.now in
    let l = c.in_ok-first.ensures.lookup in
    rw c.from_residual-in_err-number.ensures
    (atom_no_number v.volts.volts (read_group a.depth) v.text.now a.at l.3.0 (l.3.1 0) c.if-first-eq78.false
    c.if-first-ne40.true c.in_err-number.ensures.part)

pub atom-returns-then-first-ne40 : goal.atom-returns-then-first-ne40
atom-returns-then-first-ne40 t c =
    let a = c.args in
    let v = a.self.now in
    let l = c.in_ok-first.ensures.lookup in
    rw c.of-then-first-ne40.ensures
    (atom_number v.volts.volts (read_group a.depth) v.text.now a.at l.3.0 (l.3.1 0) c.if-first-eq78.false
    c.if-first-ne40.true c.in_ok-number.ensures.part)

pub atom-returns-in_err-checked_sub : goal.atom-returns-in_err-checked_sub
atom-returns-in_err-checked_sub t c =
    let a = c.args in
    let v = a.self.now in
    let l = c.in_ok-first.ensures.lookup in
    let bytes : List ℕ = drop (a.at + 1) v.text.now in
    let nothing : read_group a.depth bytes ≡ none =
    ap (λ (pairs : ℕ). read_group pairs bytes) (omega (arith, c.in_err-checked_sub.ensures)) ∙ no_pair bytes in
    rw c.from_residual-in_err-checked_sub.ensures
    (atom_hollow v.volts.volts (read_group a.depth) v.text.now a.at l.3.0 (l.3.1 0) c.if-first-ne40.false nothing)

pub atom-returns-in_err-worth : goal.atom-returns-in_err-worth
atom-returns-in_err-worth t c =
    let a = c.args in
    let v = a.self.now in
    let l = c.in_ok-first.ensures.lookup in
    let d = c.in_ok-checked_sub.ensures in
    rw c.from_residual-in_err-worth.ensures
    (atom_unread v.volts.volts (read_group a.depth) v.text.now a.at l.3.0 (l.3.1 0) c.if-first-ne40.false
    (in_parentheses v.volts.volts a.depth v.text.now (a.at + 1) d.0 d.1 _ c.in_err-worth.ensures))

pub atom-returns-in_err-get : goal.atom-returns-in_err-get
atom-returns-in_err-get t c =
    let a = c.args in
    let v = a.self.now in
    let l = c.in_ok-first.ensures.lookup in
    let d = c.in_ok-checked_sub.ensures in
    rw c.from_residual-in_err-get.ensures
    (atom_open v.volts.volts (read_group a.depth) v.text.now a.at l.3.0 (l.3.1 0) c.if-first-ne40.false
    (in_parentheses v.volts.volts a.depth v.text.now (a.at + 1) d.0 d.1 _ c.in_ok-worth.ensures)
    c.in_err-get.ensures.lookup.3)

pub atom-returns-then-branch-ne41 : goal.atom-returns-then-branch-ne41
atom-returns-then-branch-ne41 t c =
    let a = c.args in
    let v = a.self.now in
    let l = c.in_ok-first.ensures.lookup in
    let d = c.in_ok-checked_sub.ensures in
    let b = c.in_ok-get.ensures.lookup in
    atom_unclosed v.volts.volts (read_group a.depth) v.text.now a.at l.3.0 (l.3.1 0) c.if-first-ne40.false
    (in_parentheses v.volts.volts a.depth v.text.now (a.at + 1) d.0 d.1 _ c.in_ok-worth.ensures)
    b.3.0 (b.3.1 0) c.if-branch-ne41.true

pub atom-returns : goal.atom-returns
atom-returns t c =
    let a = c.args in
    let v = a.self.now in
    let l = c.in_ok-first.ensures.lookup in
    let d = c.in_ok-checked_sub.ensures in
    let b = c.in_ok-get.ensures.lookup in
    atom_closed v.volts.volts (read_group a.depth) v.text.now a.at l.3.0 (l.3.1 0) c.if-first-ne40.false
    (in_parentheses v.volts.volts a.depth v.text.now (a.at + 1) d.0 d.1 _ c.in_ok-worth.ensures)
    b.3.0 (b.3.1 0) c.if-branch-ne41.false

-- ---- product

pub product-returns-in_err-total : goal.product-returns-in_err-total
product-returns-in_err-total t c =
    let a = c.args in
    let v = a.self.now in
    rw c.from_residual.ensures (product_unstarted v.volts.volts a.depth v.text.now a.at c.in_err-total.ensures)

pub product-loop-op-init : goal.product-loop-op-init
product-loop-op-init t c =
    let a = c.args in
    let v = a.self.now in
    let part = c.in_ok-total.ensures in
    record { so_far = product_started v.volts.volts a.depth v.text.now a.at part; further = part.ends.0 }

pub product-returns-in_err-next : goal.product-returns-in_err-next
product-returns-in_err-next t c =
    rw c.from_residual-in_err-next.ensures (broken c.loop-op.invariant.so_far c.in-Some.ensures c.in_err-next.ensures)

pub product-loop-op-preserved : goal.product-loop-op-preserved
product-loop-op-preserved t c =
    let part = c.in_ok-next.ensures in
    record {
      so_far = rw c.scale.ensures (stepped c.loop-op.invariant.so_far c.in-Some.ensures part);
      further = omega (arith, part.ends.0);
    }

pub product-returns : goal.product-returns
product-returns t c = stopped c.loop-op.invariant.so_far c.in_default.ensures c.loop-op.invariant.further

-- ---- sum

pub sum-returns-in_err-total : goal.sum-returns-in_err-total
sum-returns-in_err-total t c =
    let a = c.args in
    let v = a.self.now in
    rw c.from_residual.ensures (sum_unstarted v.volts.volts a.depth v.text.now a.at c.in_err-total.ensures)

pub sum-loop-op-init : goal.sum-loop-op-init
sum-loop-op-init t c =
    let a = c.args in
    let v = a.self.now in
    let part = c.in_ok-total.ensures in
    record { so_far = sum_started v.volts.volts a.depth v.text.now a.at part; further = part.ends.0 }

pub sum-returns-in_err-next : goal.sum-returns-in_err-next
sum-returns-in_err-next t c =
    rw c.from_residual-in_err-next.ensures (broken c.loop-op.invariant.so_far c.in-Some.ensures c.in_err-next.ensures)

pub sum-loop-op-preserved : goal.sum-loop-op-preserved
sum-loop-op-preserved t c =
    let part = c.in_ok-next.ensures in
    record {
      so_far = rw c.add.ensures (stepped c.loop-op.invariant.so_far c.in-Some.ensures part);
      further = omega (arith, part.ends.0);
    }

pub sum-returns : goal.sum-returns
sum-returns t c = stopped c.loop-op.invariant.so_far c.in_default.ensures c.loop-op.invariant.further
