-- `evaluate::finish` meets its contract: what the formulas make is finished, or their refusal is the answer. Assumes nothing.
use mathlib.Core.Path.{◌∙◌, sym}
use borrow.Author.Rules.{rules}
use Rattle.std.proofs.lemmas.Result.{err_from_is_err_and}
use Rattle.profile.specs.Table.{table_of}
use Rattle.evaluate.proofs.TextLaws.{front_text, put_refused}
use Rattle.evaluate.proofs.EntryLaws.{plain_text_lem, text_finished, text_refused}
use Rattle.evaluate.proofs.finish.Goals as goal

pub returns-in_err-n : goal.returns-in_err-n
returns-in_err-n c =
    let a = c.args in
    let told = err_from_is_err_and c.from_residual.result c.from_residual.ensures.1 in
    rw (told.1, told.2)
    (λ before.
    text_refused (table_of a.table.now) a.volts.volts a.input.now a.out.now before _
    (sym (plain_text_lem a.volts a.input.now) ∙ put_refused _ _ c.in_err-n.ensures))

pub returns : goal.returns
returns c =
    let a = c.args in
    let found = front_text _ c.in_ok-n.ensures (search rules) in
    λ before.
    text_finished (table_of a.table.now) a.volts.volts a.input.now a.out.now before _
    (sym (plain_text_lem a.volts a.input.now) ∙ found.1) (c.finish_line.ensures before)
