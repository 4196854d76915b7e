-- `evaluate::fields::is_closed` meets its contract: the first LF is the last byte. Assumes nothing.
use mathlib.Core.Path.{◌≡◌, sym, ◌∙◌}
use mathlib.Core.Bool.{cond}
use mathlib.Core.List.{List}
use Prim.Native.Nat.{ℕ}
use borrow.Author.Rules.{rules}
use borrow.Author.Tests.{tests}
use lib.Dec.{eqb, ltb}
use lib.ListN.{length}
use Rattle.std.specs.Prelude.{Option, Some, None}
use Rattle.std.specs.List.{position_or_len}
use Rattle.std.proofs.lemmas.Iterator.{YieldsList-from_slice}
use Rattle.std.proofs.lemmas.Iterator.Search.{position_from_yields_List}
use Rattle.profile.specs.Line.{line_feed}
use Rattle.evaluate.proofs.FieldLaws.{closed_found, closed_never}
use Rattle.evaluate.proofs.fields.is_closed.Goals.{After-position}
use Rattle.evaluate.proofs.fields.is_closed.Goals as goal

-- what was found
abbrev found : List ℕ → Option ℕ
found input =
    let place : ℕ = position_or_len (λ b. eqb b line_feed) input in
    cond (ltb place (length input)) (Some place) None

place : (c : After-position) → c.position.result ≡ found c.args.input.now
place c =
    position_from_yields_List (λ b. eqb b line_feed) _ _ _ c.position.ensures.ran (YieldsList-from_slice c.args.input.now cc)
    (λ x b q k. search (rules, tests))

pub returns-in-Some : goal.returns-in-Some
returns-in-Some c =
    closed_found c.args.input.now c.in-Some.i (sym c.in-Some.is ∙ place (goal.at.returns-in-Some c).After-position)

pub returns-in-None : goal.returns-in-None
returns-in-None c =
    closed_never c.args.input.now (sym c.in-None.is ∙ place (goal.at.returns-in-None c).After-position)
