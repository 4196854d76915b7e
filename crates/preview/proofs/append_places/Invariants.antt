-- `preview::append_places` meets its contract: after i turns the rows of the slots at the first i places are written.
use Rattle.decimal.specs.Decimal.{Appended}
use Rattle.order.specs.InnerPlaces.{places_of}
use Rattle.preview.proofs.RowLaws.{rows_before}
use Rattle.preview.proofs.append_places.Given as goal

abbrev pub invariant-loop-slot : goal.invariant-loop-slot
invariant-loop-slot l =
    Appended l.initial.out l.at (rows_before l.store.bytes.now (places_of l.places) l.slot-index) l.out l.next
