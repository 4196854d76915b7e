-- `table::file::read_rows` meets its contract. Assumes nothing.
use mathlib.Core.Path.{◌≡◌, ◌∙◌, sym}
use native.Mathlib.Omega.{arith}
use borrow.Author.Rules.{rules}
use borrow.Author.Tests.{tests}
use Rattle.std.proofs.lemmas.Result.{err_from_is_err_and}
use Rattle.outcome.specs.Answer.{bad_table}
use Rattle.table.proofs.PlaceLaws.{ends_missing, ends_there, end_within, rest_behind, rest_less}
use Rattle.table.proofs.LoopLaws.{so_far_none, too_many, misfit, misspelt, so_far_more, no_rows, rows_read}
use Rattle.table.proofs.file.read_rows.Goals as goal

pub loop-rest-init : goal.loop-rest-init
loop-rest-init c = so_far_none c.args.file.now c.args.image.now c.requires

pub returns-then-rows-eq-MOST_ROWS : goal.returns-then-rows-eq-MOST_ROWS
returns-then-rows-eq-MOST_ROWS c = too_many c.loop-rest.invariant (search (tests, rules)) c.if-rows-eq-MOST_ROWS.true

pub returns-then-not-row_fits : goal.returns-then-not-row_fits
returns-then-not-row_fits c =
    misfit c.loop-rest.invariant (search (tests, rules)) (omega (arith, c.loop-rest.invariant.few)) c.row_at-row.ensures
    (sym c.row_fits.ensures ∙ c.if-not-row_fits.true)

pub returns-in_err-end : goal.returns-in_err-end
returns-in_err-end c =
    let exit = err_from_is_err_and c.from_residual.result c.from_residual.ensures.1 in
    let broken : c.in_err-end.field-0.0 ≡ bad_table = grind arith in
    let missing = ends_missing _ _ c.row_end.ensures (grind arith) in
    rw (exit.1, exit.2, broken)
    (misspelt c.loop-rest.invariant (search (tests, rules)) (omega (arith, c.loop-rest.invariant.few)) c.row_at-row.ensures missing)

pub slice_bounds-rest-count : goal.slice_bounds-rest-count
slice_bounds-rest-count c = end_within _ _ (ends_there _ _ c.row_end.ensures (grind arith))

pub slice_bounds-rest-start : goal.slice_bounds-rest-start
slice_bounds-rest-start c = end_within _ _ (ends_there _ _ {end = c.in_ok-end.end} c.row_end.ensures (grind arith))

pub loop-rest-smaller : goal.loop-rest-smaller
loop-rest-smaller c = rest_less _ _ (ends_there _ _ {end = c.in_ok-end.end} c.row_end.ensures (grind arith))

pub loop-rest-preserved : goal.loop-rest-preserved
loop-rest-preserved c =
    let there = ends_there _ _ {end = c.in_ok-end.end} c.row_end.ensures (grind arith) in
    so_far_more c.loop-rest.invariant (search (tests, rules)) (omega (arith, c.loop-rest.invariant.few)) c.row_at-row.ensures
    (sym c.row_fits.ensures ∙ c.if-not-row_fits.false) there.0 (rest_behind _ _ there) c.append_words.ensures.appended

pub returns-then-rows-eq0 : goal.returns-then-rows-eq0
returns-then-rows-eq0 c = no_rows c.loop-rest.invariant (search (tests, rules)) c.if-rows-eq0.true

pub returns : goal.returns
returns c = rows_read c.loop-rest.invariant (search (tests, rules)) c.if-rows-eq0.false c.append_word.ensures
