-- What storing answers in each case. Assumes nothing.
use mathlib.Core.Path.{◌≡◌, refl, ◌∙◌, sym, ap}
use mathlib.Core.Bool.{Bool, true, false, ◌||◌}
use mathlib.Core.List.{List, [], ◌∷◌}
use Prim.Native.Nat.{ℕ, suc, ◌≤◌, ◌<◌}
use native.Mathlib.Omega.{arith}
use lib.Dec.{ltb}
use lib.ListN.{length, get_or}
use borrow.Author.Tests.{eq-eqb, lt-ltb, le-ltb}
use Rattle.outcome.specs.Answer.{store_full, not_stored, ◌unless◌, first_refusal, pick}
use Rattle.outcome.specs.Result.{Ok, Err}
use Rattle.profile.specs.declared.Profile.{Profile}
use Rattle.image.specs.Image.{profile_of, has_image}
use Rattle.store.specs.declared.Key.{Key}
use Rattle.store.specs.declared.Device.{Device}
use Rattle.store.specs.Keys.{key_of, device_key, same_key}
use Rattle.store.specs.Stored.{
  capacity,
  store_size,
  slots_of,
  slot_bytes,
  SlotWritten,
  stored,
  find,
  is_done,
  is_stored,
  is_free,
  holding,
  first_slot,
}
use Rattle.store.specs.Calls.{newer, put_checks, put_number, put_image_checks, Stores, Chosen, Taken, Puts}
use Rattle.store.proofs.StoredLaws.{length_insert, perm_length}
use Rattle.store.proofs.KeyLaws.{not_both}
use Rattle.store.proofs.SlotLaws.{unset, first_passes, stores_replaced, stores_added, room, no_room}
use Rattle.store.proofs.PlaceLaws.{slots_length, slot_at, held, held_nowhere, held_none}

-- ---- the number

module _ (d : Device) (p : Profile) (ps : List Profile) where
  pub put_number_lem : put_number d p ps ≡ first_refusal (put_checks d p ps)
  unfolding put_number
  put_number_lem = refl

  pub put_other : same_key (key_of p) (device_key d) ≡ false → put_number d p ps ≡ 6
  unfolding put_number
  put_other e = rw e

  pub put_old : same_key (key_of p) (device_key d) ≡ true → (q : Profile) → find (key_of p) ps ≡ Ok q
      → p.serial ≤ q.serial
      → put_number d p ps ≡ 7
  unfolding put_number
  put_old e q f h = rw (e, f, le-ltb q.serial p.serial h)

  pub put_newer : same_key (key_of p) (device_key d) ≡ true → (q : Profile) → find (key_of p) ps ≡ Ok q
      → q.serial < p.serial
      → put_number d p ps ≡ 0
  unfolding put_number
  put_newer e q f h = rw (e, f, lt-ltb q.serial p.serial h)

  pub put_full : same_key (key_of p) (device_key d) ≡ true → find (key_of p) ps ≡ Err not_stored
      → capacity ≤ length ps
      → put_number d p ps ≡ 8
  unfolding put_number
  put_full e f h = rw (e, f, le-ltb (length ps) capacity h)

  pub put_room : same_key (key_of p) (device_key d) ≡ true → find (key_of p) ps ≡ Err not_stored
      → length ps < capacity
      → put_number d p ps ≡ 0
  unfolding put_number
  put_room e f h = rw (e, f, lt-ltb (length ps) capacity h)

  -- answered 0 where every test holds, and only there
  pub put_accepts : same_key (key_of p) (device_key d) ≡ true → newer p (find (key_of p) ps) ≡ true
      → (is_stored (key_of p) ps || ltb (length ps) capacity) ≡ true → put_number d p ps ≡ 0
  unfolding put_number
  put_accepts its new place =
      let fits = is_stored (key_of p) ps || ltb (length ps) capacity in
      rw its
      (ap (λ (b : Bool). pick b (first_refusal (store_full unless fits ∷ [])) 7) new
      ∙ ap (λ (b : Bool). pick b 0 8) place)

  pub put_passed : put_number d p ps ≡ 0
      → (same_key (key_of p) (device_key d) ≡ true)
      × (newer p (find (key_of p) ps) ≡ true)
      × ((is_stored (key_of p) ps || ltb (length ps) capacity) ≡ true)
  unfolding put_number
  put_passed e =
      go (same_key (key_of p) (device_key d)) (newer p (find (key_of p) ps))
      (is_stored (key_of p) ps || ltb (length ps) capacity) e
    where
      go : (a b c : Bool) → ◌≡◌ {A = ℕ} (pick a (pick b (pick c 0 8) 7) 6) 0 → (a ≡ true) × (b ≡ true) × (c ≡ true)
      go true true true e = (refl, refl, refl)
      go true true false e = let z : ◌≡◌ {A = ℕ} 8 0 = e in absurd (omega arith)
      go true false c e = let z : ◌≡◌ {A = ℕ} 7 0 = e in absurd (omega arith)
      go false b c e = let z : ◌≡◌ {A = ℕ} 6 0 = e in absurd (omega arith)

-- how many are stored afterwards
pub stores_length : {p : Profile} {ps qs : List Profile} → Stores p ps qs
    → length qs ≡ pick (is_stored (key_of p) ps) (length ps) (suc (length ps))
stores_length {p} {ps} new = perm_length new.listed ∙ length_insert p ps

-- the number depends on what is found under the key and on how many are stored
pub put_same : (d : Device) (p : Profile) (ps qs : List Profile) → find (key_of p) ps ≡ find (key_of p) qs
    → length ps ≡ length qs
    → put_number d p ps ≡ put_number d p qs
unfolding put_number
put_same d p ps qs e l = rw (e, l)

-- over an image of the right size, of a profile that has an image, the number is that of the stored profiles
pub put_sized : (d : Device) (p : Profile) (old : List ℕ) → length old ≡ store_size → has_image p ≡ true
    → first_refusal (put_image_checks d p old) ≡ put_number d p (stored old)
unfolding put_number
put_sized d p old size kinds = rw (eq-eqb (length old) store_size size, kinds)

-- ---- the slot that is chosen

module _ (k : Key) (image : List ℕ) (i : ℕ) (first : i ≡ first_slot (holding k) (slots_of capacity image)) where
  chosen_held : i < capacity → Chosen k image i
  chosen_held h =
      let there : is_stored k (stored image) ≡ true = ap is_done (held k image i first h) in
      record { within = h; held = λ _. first; free = λ none. absurd (not_both (is_stored k (stored image)) there none) }

  chosen_free : capacity ≤ i → (j : ℕ) → j ≡ first_slot is_free (slots_of capacity image) → j < capacity → Chosen k image j
  chosen_free none j free h =
      let slots = slots_of capacity image in
      let size = slots_length capacity image in
      let passes : is_free (get_or slots j unset) ≡ true = rw free (first_passes is_free slots unset (omega arith)) in
      record {
        within = h;
        held = λ some. absurd (not_both (is_stored k (stored image)) some (held_nowhere k image i first none));
        free = λ _. sym (ap is_free (slot_at capacity j image h)) ∙ passes;
      }

-- ---- what `put` answers

-- an answer that refuses and leaves the store, and one that stores
module _ {d : Device} {p : Profile} {old : List ℕ} (size : length old ≡ store_size) (kinds : has_image p ≡ true) where
  pub refuses : (n : ℕ) → put_number d p (stored old) ≡ suc n → Puts d p old (suc n) old
  refuses n e =
      record { answer = sym (put_sized d p old size kinds ∙ e); taken = λ z. absurd (omega arith); kept = λ z. refl }

  pub takes : {new : List ℕ} → put_number d p (stored old) ≡ 0 → Taken p old new → Puts d p old 0 new
  takes e new =
      record { answer = sym (put_sized d p old size kinds ∙ e); taken = λ z. new; kept = λ z. absurd (z refl) }

-- after its search
module _ {d : Device} {p : Profile} {old : List ℕ} {i : ℕ} (size : length old ≡ store_size) (kinds : has_image p ≡ true)
    (its : same_key (key_of p) (device_key d) ≡ true)
    (first : i ≡ first_slot (holding (key_of p)) (slots_of capacity old)) where
  pub answers_old : i < capacity → p.serial ≤ (profile_of (slot_bytes i old)).serial → Puts d p old 7 old
  answers_old h serial = refuses size kinds 6 (put_old d p (stored old) its _ (held (key_of p) old i first h) serial)

  pub answers_replaced : {new : List ℕ} → i < capacity → (profile_of (slot_bytes i old)).serial < p.serial
      → SlotWritten i p old new → Puts d p old 0 new
  answers_replaced {new} h serial w =
      let count = slots_length capacity old in
      let stores = stores_replaced p (slots_of capacity old) (slots_of capacity new) i first (omega arith) w.slots in
      takes size kinds (put_newer d p (stored old) its _ (held (key_of p) old i first h) serial)
      (record { slot = i; chosen = chosen_held (key_of p) old i first h; written = w; stores = stores })

  module _ (none : capacity ≤ i) (j : ℕ) (free : j ≡ first_slot is_free (slots_of capacity old)) where
    pub answers_full : capacity ≤ j → Puts d p old 8 old
    answers_full h =
        let count = slots_length capacity old in
        let all = no_room (slots_of capacity old) (omega arith) in
        refuses size kinds 7 (put_full d p (stored old) its (held_none (key_of p) old i first none) (omega arith))

    pub answers_added : {new : List ℕ} → j < capacity → SlotWritten j p old new → Puts d p old 0 new
    answers_added {new} h w =
        let count = slots_length capacity old in
        let less = room (slots_of capacity old) (omega arith) in
        let new_key = held_nowhere (key_of p) old i first none in
        let stores =
        stores_added p (slots_of capacity old) (slots_of capacity new) j free (omega arith) new_key w.slots in
        takes size kinds (put_room d p (stored old) its (held_none (key_of p) old i first none) (omega arith))
        (record { slot = j; chosen = chosen_free (key_of p) old i first none j free h; written = w; stores = stores })
