-- `preview::hold_lines` meets its contract. Assumes nothing.
use native.Mathlib.Omega.{arith}
use Rattle.profile.specs.Table.{table_of}
use Rattle.store.specs.Stored.{stored}
use Rattle.preview.proofs.CutLaws.{left_all, left_fewer, left_none}
use borrow.Author.Rules.{rules}
use Rattle.preview.proofs.hold_lines.Goals as goal

pub loop-end-init : goal.loop-end-init
loop-end-init c = (omega arith, left_all (table_of c.args.table.now) c.args.input.now (stored c.args.store.now), c.requires)

pub loop-end-preserved : goal.loop-end-preserved
loop-end-preserved c =
    let a = c.args in (
      c.in-Some.ensures.within,
      left_fewer (table_of a.table.now) a.input.now c.loop-end.at (stored a.store.now) (stored c.loop-end.store)
          c.loop-end.invariant.1 _ c.in-Some.ensures (stored c.hold_line.new.store) c.hold_line.ensures,
      search rules,
    )

pub returns : goal.returns
returns c =
    let a = c.args in
    left_none (table_of a.table.now) a.input.now c.loop-end.at (stored a.store.now) (stored c.loop-end.store)
    c.loop-end.invariant.1 c.in_default.ensures
