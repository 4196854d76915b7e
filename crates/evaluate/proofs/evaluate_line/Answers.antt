-- `evaluate::evaluate_line` meets its contract: all that is not a limit is right, or the answer is 5; then the formulas decide.
-- Assumes nothing.
use mathlib.Core.Path.{◌≡◌, ◌∙◌, sym, ap}
use mathlib.Core.List.{List}
use Prim.Native.Nat.{ℕ}
use lib.ListN.{take}
use borrow.Author.Rules.{rules}
use Rattle.profile.specs.Table.{table_of}
use Rattle.evaluate.specs.Evaluate.{sound_text, text_in, is_read}
use Rattle.evaluate.proofs.TextLaws.{front_text, put_refused}
use Rattle.evaluate.proofs.EntryLaws.{read_volts, sound_text_lem, no_frame, no_sound, framed}
use Rattle.evaluate.proofs.evaluate_line.Goals.{In-Ok}
use Rattle.evaluate.proofs.evaluate_line.Goals as goal

-- the text with sound limits
abbrev text_of : In-Ok → List ℕ
text_of c = take c.in-Ok.n c.rewrite.new.out

stored : (c : In-Ok) → text_in (sound_text c.args.input.now) ≡ text_of c
stored c =
    let found = front_text _ c.in-Ok.ensures (search rules) in
    ap text_in (sym (sound_text_lem c.args.input.now) ∙ found.1)

pub returns-in_default : goal.returns-in_default
returns-in_default c =
    let a = c.args in
    λ before.
    no_sound a.table.now a.input.now a.out.now before c.if-table-ne-TABLE_SIZE.false c.if-input-gt-LONGEST_INPUT.false
    c.if-out-ne-LONGEST.false (sym c.if-not-is_closed.ensures)
    (ap text_in (sym (sound_text_lem a.input.now) ∙ put_refused _ _ c.in_default.ensures))

pub returns-in_default-read_line : goal.returns-in_default-read_line
returns-in_default-read_line c =
    let a = c.args in
    let k = (goal.at.returns-in_default-read_line c).In-Ok in
    λ before.
    no_frame a.table.now a.input.now a.out.now before c.if-table-ne-TABLE_SIZE.false c.if-input-gt-LONGEST_INPUT.false
    c.if-out-ne-LONGEST.false (sym c.if-not-is_closed.ensures) (text_of k) (stored k)
    (sym (ap is_read c.in_default-read_line.ensures))

pub invariant_of-finish : goal.invariant_of-finish
invariant_of-finish c = record {
  most = read_volts (table_of c.args.table.now) _ c.in-Ok-read_line.p (sym c.in-Ok-read_line.ensures);
}

pub returns : goal.returns
returns c =
    let a = c.args in
    let k = (goal.at.returns c).In-Ok in
    λ before.
    framed a.table.now a.input.now a.out.now before c.if-table-ne-TABLE_SIZE.false c.if-input-gt-LONGEST_INPUT.false
    c.if-out-ne-LONGEST.false (sym c.if-not-is_closed.ensures) (text_of k) c.in-Ok-read_line.p (stored k)
    (sym c.in-Ok-read_line.ensures) (c.finish.ensures before)
