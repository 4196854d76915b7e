-- What looking up answers in each case, under every class table. Assumes nothing.
use mathlib.Core.Path.{◌≡◌, refl, ◌∙◌, sym, ap}
use mathlib.Core.Bool.{Bool, true, false}
use mathlib.Core.List.{List, []}
use Prim.Native.Nat.{ℕ, ◌≤◌, ◌<◌}
use native.Mathlib.Omega.{arith}
use Rattle.outcome.specs.Answer.{not_stored, bad_device, first_refusal, pick}
use Rattle.outcome.specs.Result.{Result, Ok, Err, number_in}
use Rattle.profile.specs.declared.Profile.{Profile}
use Rattle.profile.specs.Rules.{Class}
use Rattle.image.specs.Image.{profile_of}
use Rattle.store.specs.declared.Device.{Device}
use Rattle.store.specs.Keys.{key_of, device_key, same_key, device_ok}
use Rattle.store.specs.Stored.{capacity, slots_of, slot_bytes, stored, find, is_done, holding, first_slot}
use Rattle.store.specs.Calls.{lookup_checks, lookup_in, Stores}
use Rattle.store.proofs.StoredLaws.{find_none}
use Rattle.store.proofs.PlaceLaws.{held, held_none}

-- ---- what is found

module _ (table : List Class) (d : Device) (ps : List Profile) where
  pub lookup_bad : device_ok table d ≡ false → lookup_in table d ps ≡ Err bad_device
  unfolding lookup_in
  lookup_bad e = rw e

  pub lookup_found : device_ok table d ≡ true → (p : Profile) → find (device_key d) ps ≡ Ok p
      → lookup_in table d ps ≡ Ok p
  unfolding lookup_in
  lookup_found e p f = rw (e, f)

  pub lookup_nothing : device_ok table d ≡ true → find (device_key d) ps ≡ Err not_stored
      → lookup_in table d ps ≡ Err not_stored
  unfolding lookup_in
  lookup_nothing e f = rw (e, f)

  -- the number is that of the first check that fails
  pub lookup_number : number_in (lookup_in table d ps) ≡ first_refusal (lookup_checks table d ps)
  unfolding lookup_in
  lookup_number = go (device_ok table d) (find (device_key d) ps)
    where
      go : (ok : Bool) (r : Result Profile)
          → number_in (pick ok (pick (is_done r) r (Err not_stored)) (Err bad_device))
          ≡ pick ok (pick (is_done r) 0 9) 10
      go true (Ok p) = refl
      go true (Err r) = refl
      go false r = refl

-- after p is stored: what a lookup under its key gives, and under any other
module _ (table : List Class) (d : Device) (p : Profile) (ps qs : List Profile) (new : Stores p ps qs) where
  pub lookup_stored : device_ok table d ≡ true → same_key (key_of p) (device_key d) ≡ true → lookup_in table d qs ≡ Ok p
  lookup_stored e s = lookup_found table d qs e p (new.finds (device_key d) ∙ rw s)

  pub lookup_other : same_key (key_of p) (device_key d) ≡ false → lookup_in table d qs ≡ lookup_in table d ps
  unfolding lookup_in
  lookup_other s =
      let same : find (device_key d) qs ≡ find (device_key d) ps = new.finds (device_key d) ∙ rw s in
      rw same

-- a sound setting finds what is stored under it
pub lookup_sound : (table : List Class) (d : Device) (ps : List Profile) → device_ok table d ≡ true
    → lookup_in table d ps ≡ find (device_key d) ps
lookup_sound table d ps ok = go (find (device_key d) ps) refl
  where
    go : (r : Result Profile) → find (device_key d) ps ≡ r → lookup_in table d ps ≡ find (device_key d) ps
    go (Ok p) e = lookup_found table d ps ok p e ∙ sym e
    go (Err r) e =
        let none = find_none (device_key d) ps (ap is_done e) in
        lookup_nothing table d ps ok none ∙ sym none

-- nothing is found in the empty store
pub lookup_empty : (table : List Class) (d : Device) → device_ok table d ≡ true
    → lookup_in table d [] ≡ Err not_stored
unfolding find
lookup_empty table d e = lookup_nothing table d [] e refl

-- what a lookup gives is what is found
pub lookup_find : (table : List Class) (d : Device) (ps : List Profile) (p : Profile) → lookup_in table d ps ≡ Ok p
    → find (device_key d) ps ≡ Ok p
unfolding lookup_in
lookup_find table d ps p e = go (device_ok table d) (find (device_key d) ps) e
  where
    go : (ok : Bool) (r : Result Profile)
        → pick ok (pick (is_done r) r (Err not_stored)) (Err bad_device) ≡ Ok p → r ≡ Ok p
    go true (Ok q) e = e
    go true (Err r) e = let z : ◌≡◌ {A = ℕ} 0 1 = cc in absurd (omega arith)
    go false r e = let z : ◌≡◌ {A = ℕ} 0 1 = cc in absurd (omega arith)

-- the slot that was found holds what a device finds in the image
module _ (table : List Class) (image : List ℕ) (d : Device) (i : ℕ) (ok : device_ok table d ≡ true)
    (first : i ≡ first_slot (holding (device_key d)) (slots_of capacity image)) where
  pub found_here : i < capacity → Ok (profile_of (slot_bytes i image)) ≡ lookup_in table d (stored image)
  found_here h = sym (lookup_found table d (stored image) ok _ (held (device_key d) image i first h))

  pub found_none : capacity ≤ i → Err not_stored ≡ lookup_in table d (stored image)
  found_none h = sym (lookup_nothing table d (stored image) ok (held_none (device_key d) image i first h))
