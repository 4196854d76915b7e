-- `store::slots::write_slot` meets its contract. Assumes nothing.
use Rattle.store.proofs.PlaceLaws.{slot_written}
use Rattle.store.proofs.slots.write_slot.Goals as goal

pub returns : goal.returns
returns c =
    let a = c.args in
    slot_written a.slot.place a.profile a.store.now _ c.requires.store_len a.slot.in_store c.write_profile.ensures
