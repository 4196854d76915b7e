-- `preview::append_places` meets its contract. Assumes nothing.
use mathlib.Core.Path.{refl, ◌∙◌, sym, ap}
use mathlib.Core.List.{List, ◌++◌}
use Prim.Native.Nat.{ℕ}
use native.Mathlib.Omega.{arith}
use Rattle.decimal.proofs.Stores.{then, appended_as, room_as}
use Rattle.order.specs.InnerPlaces.{places_of, profile_in}
use Rattle.order.proofs.PlacesLaws.{place_at, places_length}
use Rattle.preview.specs.Preview.{row, rows}
use Rattle.preview.proofs.RowLaws.{rows_before, rows_more, row_room, rows_all}
use Rattle.preview.proofs.append_places.Goals as goal

pub loop-slot-init : goal.loop-slot-init
unfolding rows
loop-slot-init c = record { place = omega arith; stored = refl }

pub append_row-next-requires : goal.append_row-next-requires
append_row-next-requires c =
    let a = c.args in
    let i = c.loop-slot.slot-index in
    let at = place_at a.places.now i c.slot-item.result c.loop-slot-test.true c.slot-item.is in
    let read = c.profile_at.ensures ∙ ap (profile_in a.store.bytes.now) (sym at) in
    room_as (sym (ap row read))
    (row_room a.store.bytes.now (places_of a.places.now) i (omega (arith, places_length a.places.now, c.loop-slot-test.true))
    c.requires c.loop-slot.invariant)

pub loop-slot-preserved : goal.loop-slot-preserved
loop-slot-preserved c =
    let a = c.args in
    let i = c.loop-slot.slot-index in
    let image = a.store.bytes.now in
    let places = places_of a.places.now in
    let at = place_at a.places.now i c.slot-item.result c.loop-slot-test.true c.slot-item.is in
    let read = c.profile_at.ensures ∙ ap (profile_in image) (sym at) in
    let next = ap (λ (bytes : List ℕ). rows_before image places i ++ bytes) (ap row read)
    ∙ rows_more image places i (omega (arith, places_length a.places.now, c.loop-slot-test.true)) in
    appended_as next (then c.loop-slot.invariant c.append_row-next.ensures)

pub returns : goal.returns
returns c =
    let a = c.args in
    appended_as
    (rows_all a.store.bytes.now (places_of a.places.now) c.loop-slot.slot-index
    (omega (arith, places_length a.places.now, c.loop-slot-test.false)))
    c.loop-slot.invariant
