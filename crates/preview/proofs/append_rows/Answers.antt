-- `preview::append_rows` meets its contract: the slots are put in order, and then their rows are written. Assumes
-- nothing.
use mathlib.Core.Path.{◌∙◌, sym, ap}
use Rattle.decimal.proofs.Stores.{appended_as, room_as}
use Rattle.order.specs.InnerPlaces.{profiles_at}
use Rattle.order.proofs.PlacesLaws.{places_take}
use Rattle.preview.specs.Preview.{rows}
use Rattle.preview.proofs.append_rows.Goals as goal

pub append_places-requires : goal.append_places-requires
append_places-requires c =
    let ordered = c.order_slots-count in
    let cut = places_take ordered.result ordered.new.places in
    let its = ap (profiles_at c.args.store.bytes.now) cut ∙ ordered.ensures.1.profiles in
    room_as (sym (ap rows its)) c.requires

pub returns : goal.returns
returns c =
    let ordered = c.order_slots-count in
    let cut = places_take ordered.result ordered.new.places in
    let its = ap (profiles_at c.args.store.bytes.now) cut ∙ ordered.ensures.1.profiles in
    appended_as (ap rows its) c.append_places.ensures
