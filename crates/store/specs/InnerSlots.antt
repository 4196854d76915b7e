-- What the methods of a lent image answer. It stands in a file of its own, since it names a type whose file names the
-- others.
-- Assumes nothing.
use Rattle.std.specs.Prelude.{List, [], ◌∷◌, ℕ, zero, suc, Option, None, Some, take, drop}
use Rattle.image.specs.Image.{profile_size}
use Rattle.store.specs.declared.slots.Slot.{Slot}
use Rattle.store.specs.Stored.{capacity}

-- the bytes of so many slots, one slot after the other
unfoldable pub slot_parts : ℕ → List ℕ → List (List ℕ)
slot_parts zero image = []
slot_parts (suc n) image = take profile_size image ∷ slot_parts n (drop profile_size image)

-- the place of the slot that was found, or the number of slots where none was
abbrev pub slot_in : Option Slot → ℕ
slot_in None = capacity
slot_in (Some s) = s.place
