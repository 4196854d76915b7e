-- What the search through the slots promises: what is held from slot to slot. No contract of an entry cites it.
-- Assumes nothing.
use Rattle.std.specs.Prelude.{Bool, ◌&&◌, List, ℕ, Option, None, Some}
use Rattle.outcome.specs.Answer.{not_stored, pick}
use Rattle.outcome.specs.Result.{Result, Ok, Err}
use Rattle.profile.specs.declared.Profile.{Profile}
use Rattle.image.specs.Image.{profile_of}
use Rattle.store.specs.declared.slots.Slot.{Slot as Place}
use Rattle.store.specs.Stored.{Slot, slot_bytes}
use Rattle.nearest.specs.declared.Measured.{Measured}
use Rattle.nearest.specs.Nearest.{is_near, is_better}

-- the slot's profile counts
abbrev pub near_slot : Measured → Slot → Bool
near_slot m s = s.used && is_near m s.profile

-- what the slot holds, and nothing where there is none
abbrev pub in_slot : Option Place → List ℕ → Result Profile
in_slot None image = Err not_stored
in_slot (Some s) image = Ok (profile_of (slot_bytes s.place image))

-- the better one of what is held and a profile that counts
abbrev pub better : Measured → Result Profile → Profile → Result Profile
better m (Err r) p = Ok p
better m (Ok q) p = Ok (pick (is_better m p q) p q)

-- what is held after one more slot
unfoldable pub seen : Measured → Result Profile → Slot → Result Profile
seen m held s = pick (near_slot m s) (better m held s.profile) held
