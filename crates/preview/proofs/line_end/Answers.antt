-- `preview::line_end` meets its contract: the first LF from the place on ends the line. Assumes nothing.
use mathlib.Core.Path.{◌≡◌, sym, ◌∙◌}
use native.Mathlib.Omega.{arith}
use borrow.Author.Rules.{rules}
use borrow.Author.Tests.{tests}
use lib.Dec.{eqb}
use lib.ListN.{drop, length-drop}
use lib.Seq.{take_all}
use Rattle.std.proofs.lemmas.Iterator.{YieldsList-from_slice}
use Rattle.std.proofs.lemmas.Iterator.Search.{position_from_yields_List}
use Rattle.profile.specs.Line.{line_feed}
use Rattle.preview.proofs.CutLaws.{feed, line_at, line_missing}
use Rattle.preview.proofs.line_end.Goals.{After-position}
use Rattle.preview.proofs.line_end.Goals as goal

place : (c : After-position) → c.position.result ≡ feed (drop c.args.start c.args.input.now)
place c =
    let input = c.args.input.now in
    let start = c.args.start in
    let rest = c.iter.ensures.rest ∙ take_all _ (drop start input) (omega (arith, length-drop start input)) in
    position_from_yields_List (λ b. eqb b line_feed) _ _ _ c.position.ensures.ran
    (YieldsList-from_slice (drop start input) rest) (λ x b q k. search (rules, tests))

pub returns-in_err-place : goal.returns-in_err-place
returns-in_err-place c =
    rw c.from_residual.ensures
    (line_missing c.args.input.now c.args.start c.requires
    (sym c.in_err-place.was ∙ place (goal.at.returns-in_err-place c).After-position))

pub returns : goal.returns
returns c =
    line_at c.args.input.now c.args.start c.requires c.in_ok-place.place
    (sym c.in_ok-place.was ∙ place (goal.at.returns c).After-position)
