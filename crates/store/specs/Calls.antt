-- What looking up and storing answer, of every store, reached or not, under a class table (document 01, table
-- "Returned" and the paragraph after it).
-- Assumes nothing.
use Rattle.std.specs.Prelude.{◌≡◌, Bool, true, false, ◌||◌, ℕ, ◌<◌, eqb, ltb, length}
use mathlib.Core.List.{List, [], ◌∷◌, Permᴰ}
use Rattle.outcome.specs.Answer.{
  bad_size,
  bad_profile,
  other_device,
  old_serial,
  store_full,
  not_stored,
  bad_device,
  Check,
  ◌unless◌,
  first_refusal,
  pick,
  AnswersFront,
}
use Rattle.outcome.specs.Result.{Result, Ok, Err}
use Rattle.profile.specs.declared.Profile.{Profile}
use Rattle.profile.specs.Rules.{Class, valid}
use Rattle.profile.specs.Line.{longest, line_of}
use Rattle.image.specs.Image.{has_image}
use Rattle.store.specs.declared.Key.{Key}
use Rattle.store.specs.declared.Device.{Device}
use Rattle.store.specs.Keys.{key_of, device_key, same_key, device_of, device_ok}
use Rattle.store.specs.Stored.{
  capacity,
  store_size,
  classes_of,
  slot_of,
  slots_of,
  slot_bytes,
  SlotWritten,
  is_free,
  holding,
  first_slot,
  stored,
  find,
  is_done,
  is_stored,
  insert,
}

-- ---- looking up

abbrev pub lookup_checks : List Class → Device → List Profile → List Check
lookup_checks table d ps =
    bad_device unless device_ok table d ∷ not_stored unless is_stored (device_key d) ps ∷ []

-- a result, unless a check fails before: the first that fails decides
abbrev pub after : {A : Type 0} → List Check → Result A → Result A
after [] a = a
after (r unless ok ∷ checks) a = pick ok (after checks a) (Err r)

-- what a device finds
unfoldable pub lookup_in : List Class → Device → List Profile → Result Profile
lookup_in table d ps = after (lookup_checks table d ps) (find (device_key d) ps)

-- what a device that is set to this country, class and hertz finds in an image
abbrev pub found_in : List Class → List ℕ → List ℕ → ℕ → ℕ → Result Profile
found_in table image country class hertz = lookup_in table (device_of country class hertz) (stored image)

abbrev pub valid_in : List Class → Result Profile → Bool
valid_in table (Ok p) = valid table p
valid_in table (Err r) = false

abbrev pub found_line : Result Profile → List ℕ
found_line (Ok p) = line_of p
found_line (Err r) = []

-- What is asked for must exist; then come the sizes; then something must be found, and keep the rules: only an image
-- that no run of the library made holds a profile that breaks one (crate package, `NoneBroken`).
abbrev pub found_checks : List Class → List ℕ → List ℕ → Bool → Result Profile → List ℕ → List Check
found_checks table image country exists found old =
    bad_device unless eqb (length country) 2
    ∷ bad_device unless exists
    ∷ bad_size unless eqb (length image) store_size
    ∷ bad_size unless eqb (length old) longest
    ∷ not_stored unless is_done found
    ∷ bad_profile unless valid_in table found
    ∷ []

-- the line of what is found
abbrev pub WritesFound : List Class → List ℕ → List ℕ → Bool → Result Profile → List ℕ → ℕ → ℕ → List ℕ → ℕ → Type 0
WritesFound table image country exists found old =
    AnswersFront (found_checks table image country exists found old) (found_line found) old

abbrev pub lookup_line_checks : List Class → List ℕ → List ℕ → ℕ → ℕ → List ℕ → List Check
lookup_line_checks table image country class hertz =
    found_checks table image country (device_ok table (device_of country class hertz))
    (found_in table image country class hertz)

-- the line of what a device finds
abbrev pub LooksUp : List Class → List ℕ → List ℕ → ℕ → ℕ → List ℕ → ℕ → ℕ → List ℕ → ℕ → Type 0
LooksUp table image country class hertz =
    WritesFound table image country (device_ok table (device_of country class hertz))
    (found_in table image country class hertz)

-- the same under the store's own classes, which is what `lookup` promises (document 02, M-108)
abbrev pub LooksUpByStore : List ℕ → List ℕ → ℕ → ℕ → List ℕ → ℕ → ℕ → List ℕ → ℕ → Type 0
LooksUpByStore image = LooksUp (classes_of image) image

-- ---- storing

-- the serial is greater than that of the profile that is stored, if any
abbrev pub newer : Profile → Result Profile → Bool
newer p (Ok q) = ltb q.serial p.serial
newer p (Err r) = true

-- the profile is for this device; it is newer than the one of its key; its key is stored or there is room
abbrev pub put_checks : Device → Profile → List Profile → List Check
put_checks d p ps =
    other_device unless same_key (key_of p) (device_key d)
    ∷ old_serial unless newer p (find (key_of p) ps)
    ∷ store_full unless (is_stored (key_of p) ps || ltb (length ps) capacity)
    ∷ []

unfoldable pub put_number : Device → Profile → List Profile → ℕ
put_number d p ps = first_refusal (put_checks d p ps)

-- the image's size; whether an image can mean the profile, as it can every valid one; and then these
abbrev pub put_image_checks : Device → Profile → List ℕ → List Check
put_image_checks d p old =
    bad_size unless eqb (length old) store_size
    ∷ bad_profile unless has_image p
    ∷ put_checks d p (stored old)

-- two lists hold the same, each as often, in any order
abbrev pub Perm : List Profile → List Profile → Type 0
Perm = Permᴰ

-- ps became qs by storing p. Where in qs p stands follows from the slot that it takes (`Chosen`). Every choice has in
-- common that p is found under its key, and under any other key what was found before; and that qs is, up to order, ps
-- with p in place of the one of its key, or with p besides.
pub record Stores (p : Profile) (ps qs : List Profile) : Type 0 where
  pub finds : (k : Key) → find k qs ≡ pick (same_key (key_of p) k) (Ok p) (find k ps)
  pub listed : Perm qs (insert p ps)

-- The slot that a profile of this key takes. Where the key is stored it is the slot that a lookup finds, the first of
-- the key; else it is one that is free, and which of these is the program's choice.
pub record Chosen (k : Key) (image : List ℕ) (i : ℕ) : Type 0 where
  pub within : i < capacity
  pub held : is_stored k (stored image) ≡ true → i ≡ first_slot (holding k) (slots_of capacity image)
  pub free : is_stored k (stored image) ≡ false → is_free (slot_of (slot_bytes i image)) ≡ true

-- One slot changed: it holds p now. Every other byte of the image is as it was, and every other slot of the store,
-- used or not (`SlotWritten`).
pub record Taken (p : Profile) (old new : List ℕ) : Type 0 where
  pub slot : ℕ
  pub chosen : Chosen (key_of p) old slot
  pub written : SlotWritten slot p old new
  pub stores : Stores p (stored old) (stored new)

-- the answer of `put`; after a refusal every byte is as it was
pub record Puts (d : Device) (p : Profile) (old : List ℕ) (r : ℕ) (new : List ℕ) : Type 0 where
  pub answer : r ≡ first_refusal (put_image_checks d p old)
  pub taken : r ≡ 0 → Taken p old new
  pub kept : (r ≡ 0 → ⊥) → new ≡ old
