-- `turn` meets its contract, by the two laws of `turned`. Assumes nothing.
use mathlib.Core.Path.{sym, ap, ◌∙◌}
use Prim.Native.Nat.{ℕ}
use mathlib.Core.List.{List}
use borrow.Author.Tests.{ne_eqb}
use Rattle.shake.specs.InnerFold.{sponge, turned}
use Rattle.shake.proofs.Blocks.{turned_full}
use Rattle.shake.proofs.turn.Goals as goal

pub returns-then-at-rate : goal.returns-then-at-rate
returns-then-at-rate c =
    let args = c.args in
    ap (λ (s : List ℕ). sponge s 0 args.rate) c.permute.ensures
    ∙ sym (turned_full args.lanes.now args.at args.rate c.if-at-rate.true)

pub returns : goal.returns
unfolding turned
returns c =
    let args = c.args in
    rw (ne_eqb args.at args.rate c.if-at-rate.false)
