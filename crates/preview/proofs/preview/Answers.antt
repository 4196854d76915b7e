-- `preview::preview` meets its contract: a refusal, `too long`, or the header and then the rows. Assumes nothing.
use mathlib.Core.Path.{sym, subst}
use mathlib.Core.List.{List}
use Prim.Native.Nat.{◌*◌, ◌≤◌}
use native.Mathlib.Omega.{arith}
use lib.ListN.{length}
use Rattle.decimal.proofs.Stores.{then, appended_length}
use Rattle.profile.specs.declared.Profile.{Profile}
use Rattle.profile.specs.Rules.{Class}
use Rattle.profile.specs.Table.{table_of}
use Rattle.store.specs.Stored.{capacity, stored}
use Rattle.store.specs.Reached.{Call, Run, Reached}
use Rattle.store.proofs.Reached.{zeros_empty}
use Rattle.order.specs.Order.{in_order}
use Rattle.preview.specs.Preview.{cut, calls_in, rows, longest_row}
use Rattle.preview.proofs.EntryLaws.{
  reached_room,
  listing_long,
  listing_reached,
  table_refused,
  lent_refused,
  previews_done,
}
use Rattle.preview.proofs.preview.Goals.{After-hold_lines}
use Rattle.preview.proofs.preview.Goals as goal

pub returns-then-table-ne-TABLE_SIZE : goal.returns-then-table-ne-TABLE_SIZE
returns-then-table-ne-TABLE_SIZE c =
    let args = c.args in
    table_refused args.table.now args.input.now args.out.now c.if-table-ne-TABLE_SIZE.true

pub returns-then-out-ne-LENT_SIZE : goal.returns-then-out-ne-LENT_SIZE
returns-then-out-ne-LENT_SIZE c =
    let args = c.args in
    lent_refused args.table.now args.input.now args.out.now c.if-table-ne-TABLE_SIZE.false c.if-out-ne-LENT_SIZE.true

pub returns-then-input-gt-LONGEST_INPUT : goal.returns-then-input-gt-LONGEST_INPUT
returns-then-input-gt-LONGEST_INPUT c =
    let args = c.args in
    let table = args.table.now in
    previews_done table args.input.now args.out.now c.if-table-ne-TABLE_SIZE.false c.if-out-ne-LENT_SIZE.false
    (sym (listing_long (table_of table) args.input.now c.if-input-gt-LONGEST_INPUT.true)) c.append_text.ensures
    (omega (arith, c.append_text.ensures.place))

abbrev classes : After-hold_lines → List Class
classes held = table_of held.args.table.now

abbrev calls : After-hold_lines → List Call
calls held = calls_in (classes held) (cut held.args.input.now)

abbrev held_in : After-hold_lines → List Profile
held_in held = stored held.hold_lines.new.store

reached : (held : After-hold_lines) → Reached (classes held) (calls held) (held_in held)
reached held =
    subst (λ (l : List Profile). Run (classes held) l (calls held) (held_in held)) zeros_empty held.hold_lines.ensures

room : (held : After-hold_lines) → length (rows (in_order (held_in held))) ≤ longest_row * capacity
room held = reached_room (classes held) (calls held) (held_in held) (reached held)

pub append_rows-requires : goal.append_rows-requires
append_rows-requires c =
    let header = c.append_text-at.ensures in record { room = omega (arith, room (goal.at.append_rows-requires c).After-hold_lines, header.place, appended_length header) }

pub returns : goal.returns
returns c =
    let args = c.args in
    let input = args.input.now in
    let its = listing_reached (classes (goal.at.returns c).After-hold_lines) input c.if-input-gt-LONGEST_INPUT.false (held_in (goal.at.returns c).After-hold_lines) (reached (goal.at.returns c).After-hold_lines) in
    let put = c.append_rows.ensures in
    previews_done args.table.now input args.out.now c.if-table-ne-TABLE_SIZE.false c.if-out-ne-LENT_SIZE.false its
    (then c.append_text-at.ensures put)
    (omega (arith, put.place, room (goal.at.returns c).After-hold_lines, c.append_text-at.ensures.place))
