-- What a store holds: its image is sixteen slots, one after the other, and then the image of a class table (document 02,
-- M-108). The used slots hold a list of profiles, looked up by key (document 01, "Profile line, package, shelf"). Every
-- image means a store.
-- Assumes nothing.
use Rattle.std.specs.Prelude.{◌≡◌, Bool, true, false, ◌&&◌, not, List, [], ◌∷◌, ◌++◌, ℕ, zero, suc, ◌+◌, ◌*◌, eqb, get_or, take, drop, set}
use Rattle.outcome.specs.Answer.{not_stored, pick}
use Rattle.outcome.specs.Result.{Result, Ok, Err}
use Rattle.profile.specs.declared.Profile.{Profile}
use Rattle.profile.specs.Rules.{Class}
use Rattle.profile.specs.Table.{table_size, table_of}
use Rattle.image.specs.Image.{profile_size, profile_of, image_of}
use Rattle.store.specs.declared.Key.{Key}
use Rattle.store.specs.Keys.{key_of, same_key}

abbrev pub capacity : ℕ
capacity = 16

abbrev pub slots_size : ℕ
slots_size = capacity * profile_size

abbrev pub store_size : ℕ
store_size = slots_size + table_size

-- the classes that hold in a store; in an image of another size the built-in ones
abbrev pub classes_of : List ℕ → List Class
classes_of image = table_of (drop slots_size image)

-- ---- slots

-- the profile of a slot that is not used means nothing
pub record Slot : Type 0 where
  pub used : Bool
  pub profile : Profile

-- a slot is used where its first byte is not 0
abbrev pub slot_of : List ℕ → Slot
slot_of bytes = record { used = not (eqb (get_or bytes 0 0) 0); profile = profile_of bytes }

-- so many slots, one after the other
unfoldable pub slots_of : ℕ → List ℕ → List Slot
slots_of zero image = []
slots_of (suc n) image = slot_of (take profile_size image) ∷ slots_of n (drop profile_size image)

-- the bytes of slot i
abbrev pub slot_bytes : ℕ → List ℕ → List ℕ
slot_bytes i image = take profile_size (drop (profile_size * i) image)

-- p in slot i, and every other byte as it was
abbrev pub with_profile : ℕ → Profile → List ℕ → List ℕ
with_profile i p image = take (profile_size * i) image ++ (image_of p ++ drop (profile_size * i + profile_size) image)

abbrev pub slot_for : Profile → Slot
slot_for p = record { used = true; profile = p }

-- what writing p into slot i leaves
pub record SlotWritten (i : ℕ) (p : Profile) (old new : List ℕ) : Type 0 where
  pub bytes : new ≡ with_profile i p old
  pub slots : slots_of capacity new ≡ set (slots_of capacity old) i (slot_for p)

abbrev pub is_free : Slot → Bool
is_free s = not s.used

-- the slot holds a profile of the key
abbrev pub holding : Key → Slot → Bool
holding k s = s.used && same_key (key_of s.profile) k

-- the place of the first slot that passes the test, or the number of slots
unfoldable pub first_slot : (Slot → Bool) → List Slot → ℕ
first_slot test [] = 0
first_slot test (s ∷ ss) = pick (test s) 0 (suc (first_slot test ss))

-- the profiles of the slots that are used
unfoldable pub profiles_in : List Slot → List Profile
profiles_in [] = []
profiles_in (s ∷ ss) = pick s.used (s.profile ∷ profiles_in ss) (profiles_in ss)

abbrev pub stored : List ℕ → List Profile
stored image = profiles_in (slots_of capacity image)

-- ---- the profiles as a map

-- the first profile of the key
unfoldable pub find : Key → List Profile → Result Profile
find k [] = Err not_stored
find k (p ∷ ps) = pick (same_key (key_of p) k) (Ok p) (find k ps)

abbrev pub is_done : {A : Type 0} → Result A → Bool
is_done (Ok a) = true
is_done (Err r) = false

abbrev pub is_stored : Key → List Profile → Bool
is_stored k ps = is_done (find k ps)

-- a profile in place of the first of its key, or else at the end
unfoldable pub insert : Profile → List Profile → List Profile
insert p [] = p ∷ []
insert p (q ∷ qs) = pick (same_key (key_of q) (key_of p)) (p ∷ qs) (q ∷ insert p qs)

-- no key twice
abbrev pub Distinct : List Profile → Type 0
Distinct [] = Unit {0}
Distinct (p ∷ ps) = (is_stored (key_of p) ps ≡ false) × Distinct ps
