-- Where the slots of an image stand: reading one, searching them, and writing one. Assumes nothing.
use mathlib.Core.Path.{◌≡◌, refl, ◌∙◌, sym, ap}
use mathlib.Core.Bool.{Bool, true, false}
use mathlib.Core.List.{List, [], ◌∷◌, ◌++◌, append_assoc}
use Prim.Native.Nat.{ℕ, zero, suc, ◌+◌, ◌*◌, ◌-◌, ◌≤◌, ◌<◌}
use native.Mathlib.Numerals.{add-one}
use native.Mathlib.Omega.{arith}
use borrow.Rule.Slice.PartMut.{put_mid}
use lib.ListN.{length, get_or, take, drop, set, length-drop, drop_of_length-le}
use lib.Seq.{length-take-le, drop-cons, take_at, drop_at, drop-drop, take-add}
use Rattle.std.specs.Simd.{first_chunks}
use Rattle.std.specs.List.{position_or_len}
use Rattle.std.specs.Prelude.{Option, Some, None, unwrap_or, map, cond, not}
use borrow.Author.Tests.{ltb-false}
use lib.Dec.{ltb}
use Rattle.std.proofs.lemmas.List.{take-take, drop-take}
use Rattle.std.proofs.lemmas.List.Sums.{prefix_len-le-length}
use Rattle.outcome.specs.Answer.{not_stored, pick}
use Rattle.outcome.specs.Result.{Ok, Err}
use Rattle.profile.specs.declared.Profile.{Profile}
use Rattle.image.specs.Image.{profile_size, profile_of, image_of, ProfileWritten}
use Rattle.image.proofs.ImageLaws.{image_size}
use Rattle.store.specs.declared.Key.{Key}
use Rattle.store.specs.Stored.{
  capacity,
  store_size,
  Slot,
  slot_of,
  slots_of,
  slot_bytes,
  with_profile,
  SlotWritten,
  stored,
  find,
  is_stored,
  holding,
  first_slot,
}
use Rattle.store.specs.InnerSlots.{slot_parts}
use Rattle.store.proofs.StoredLaws.{find_none}
use Rattle.store.proofs.SlotLaws.{unset, found_at, found_nowhere}

pub slots_length : (n : ℕ) (image : List ℕ) → length (slots_of n image) ≡ n
unfolding slots_of
slots_length zero image = refl
slots_length (suc n) image = ap suc (slots_length n (drop profile_size image))

-- ---- reading

-- slot i is what its bytes mean
pub slot_at : (n i : ℕ) (image : List ℕ) → i < n → get_or (slots_of n image) i unset ≡ slot_of (slot_bytes i image)
unfolding slots_of
slot_at zero i image h = absurd (omega arith)
slot_at (suc n) zero image h = refl
slot_at (suc n) (suc i) image h =
    let place : profile_size + profile_size * i ≡ profile_size * suc i = omega arith in
    slot_at n i (drop profile_size image) (omega arith)
    ∙ ap (λ (l : List ℕ). slot_of (take profile_size l))
    (drop-drop (profile_size * i) profile_size image ∙ ap (λ (k : ℕ). drop k image) place)

-- the slots from i on are slot i and those behind it, and past the last there are none
module _ (image : List ℕ) (i : ℕ) where
  pub slots_next : i < capacity
      → drop i (slots_of capacity image) ≡ slot_of (slot_bytes i image) ∷ drop (i + 1) (slots_of capacity image)
  slots_next h =
      let ss : List Slot = slots_of capacity image in
      let size = slots_length capacity image in
      drop-cons ss i unset (omega arith)
      ∙ ap (λ (k : ℕ). get_or ss i unset ∷ drop k ss) (sym (add-one i))
      ∙ ap (λ (s : Slot). s ∷ drop (i + 1) ss) (slot_at capacity i image h)

  pub slots_past : capacity ≤ i → drop i (slots_of capacity image) ≡ []
  slots_past h =
      let size = slots_length capacity image in
      let past : length (slots_of capacity image) ≤ i = omega arith in
      drop_of_length-le (slots_of capacity image) past

-- ---- the slots' bytes

-- as many as are asked for, and each those of its slot
pub parts_length : (n : ℕ) (image : List ℕ) → length (slot_parts n image) ≡ n
unfolding slot_parts
parts_length zero image = refl
parts_length (suc n) image = ap suc (parts_length n (drop profile_size image))

pub part_at : (n i : ℕ) (image : List ℕ) → i < n → get_or (slot_parts n image) i [] ≡ slot_bytes i image
unfolding slot_parts
part_at zero i image h = absurd (omega arith)
part_at (suc n) zero image h = refl
part_at (suc n) (suc i) image h =
    let place : profile_size + profile_size * i ≡ profile_size * suc i = omega arith in
    part_at n i (drop profile_size image) (omega arith)
    ∙ ap (take profile_size) (drop-drop (profile_size * i) profile_size image ∙ ap (λ (k : ℕ). drop k image) place)

pub parts_mean : (n : ℕ) (image : List ℕ) → map slot_of (slot_parts n image) ≡ slots_of n image
unfolding slot_parts slots_of
parts_mean zero image = refl
parts_mean (suc n) image = ap (λ (ss : List Slot). slot_of (take profile_size image) ∷ ss) (parts_mean n (drop profile_size image))

-- the front of an image cut into so many parts
pub parts_cut : (n : ℕ) (image : List ℕ) → first_chunks profile_size n (take (n * profile_size) image) ≡ slot_parts n image
unfolding slot_parts
parts_cut zero image = refl
parts_cut (suc n) image =
    let more : suc n * profile_size ≡ profile_size + n * profile_size = omega arith in
    let front = take-take profile_size (profile_size + n * profile_size) image (omega arith) in
    ap (λ (k : ℕ). first_chunks profile_size (suc n) (take k image)) more
    ∙ (λ j. front j ∷ first_chunks profile_size n (drop-take profile_size (n * profile_size) image j))
    ∙ ap (λ (ps : List (List ℕ)). take profile_size image ∷ ps) (parts_cut n (drop profile_size image))

-- ---- searching

first_or : (test : Slot → Bool) (parts : List (List ℕ)) → position_or_len (λ b. test (slot_of b)) parts ≡ first_slot test (map slot_of parts)
unfolding first_slot
first_or test [] = refl
first_or test (b ∷ parts) = go (test (slot_of b)) (first_or test parts)
  where
    go : (t : Bool) → position_or_len (λ b. test (slot_of b)) parts ≡ first_slot test (map slot_of parts)
        → cond (not t) (1 + position_or_len (λ b. test (slot_of b)) parts) 0 ≡ pick t 0 (suc (first_slot test (map slot_of parts)))
    go true e = refl
    go false e = omega (arith, e)

-- the place that a search of the slots' bytes gives is that of the first slot that passes the test
pub place_first : (test : Slot → Bool) (image : List ℕ) {parts : List (List ℕ)} {o : Option ℕ}
    → o
    ≡ cond (ltb (position_or_len (λ b. test (slot_of b)) parts) (length parts))
    (Some (position_or_len (λ b. test (slot_of b)) parts)) None
    → parts ≡ slot_parts capacity image → unwrap_or o capacity ≡ first_slot test (slots_of capacity image)
place_first test image {parts} {o} found whole =
    let place : ℕ = position_or_len (λ b. test (slot_of b)) parts in
    ap (λ (p : Option ℕ). unwrap_or p capacity) found
    ∙ at place (ltb place (length parts)) refl (prefix_len-le-length (λ b. not (test (slot_of b))) parts)
    ∙ first_or test parts
    ∙ ap (λ (ps : List (List ℕ)). first_slot test (map slot_of ps)) whole
    ∙ ap (first_slot test) (parts_mean capacity image)
  where
    at : (p : ℕ) (b : Bool) → ltb p (length parts) ≡ b → p ≤ length parts
        → unwrap_or (cond b (Some p) None) capacity ≡ p
    at p true e h = refl
    at p false e h =
        omega (arith, ltb-false p (length parts) e, h, ap length whole, parts_length capacity image)

-- what is found under a key, once the first slot that holds it is known
module _ (k : Key) (image : List ℕ) (i : ℕ) (first : i ≡ first_slot (holding k) (slots_of capacity image)) where
  pub held : i < capacity → find k (stored image) ≡ Ok (profile_of (slot_bytes i image))
  held h =
      let size = slots_length capacity image in
      found_at k (slots_of capacity image) unset (omega arith)
      ∙ ap (λ (n : ℕ). Ok (get_or (slots_of capacity image) n unset).profile) (sym first)
      ∙ ap (λ (s : Slot). Ok s.profile) (slot_at capacity i image h)

  pub held_nowhere : capacity ≤ i → is_stored k (stored image) ≡ false
  held_nowhere h = let size = slots_length capacity image in found_nowhere k (slots_of capacity image) (omega arith)

  pub held_none : capacity ≤ i → find k (stored image) ≡ Err not_stored
  held_none h = find_none k (stored image) (held_nowhere h)

-- ---- writing

-- bytes in the place of slot i make its slot, and no other
slots_with : (n i : ℕ) (bytes image : List ℕ) → length bytes ≡ profile_size → i < n → profile_size * n ≤ length image
    → slots_of n (take (profile_size * i) image ++ (bytes ++ drop (profile_size * i + profile_size) image))
    ≡ set (slots_of n image) i (slot_of bytes)
unfolding slots_of
slots_with zero i bytes image size h fits = absurd (omega arith)
slots_with (suc n) zero bytes image size h fits =
    let rest : List ℕ = drop profile_size image in
    λ j. slot_of (take_at bytes rest profile_size size j) ∷ slots_of n (drop_at bytes rest profile_size size j)
slots_with (suc n) (suc i) bytes image size h fits =
    let at : ℕ = profile_size * i in
    let next : ℕ = profile_size * suc i in
    let first : List ℕ = take profile_size image in
    let rest : List ℕ = drop profile_size image in
    let others : List ℕ = take at rest ++ (bytes ++ drop (at + profile_size) rest) in
    let place : next ≡ profile_size + at = omega arith in
    let past : next + profile_size ≡ profile_size + (at + profile_size) = omega arith in
    let before : take next image ≡ first ++ take at rest =
    ap (λ (k : ℕ). take k image) place ∙ take-add profile_size at image in
    let behind : drop (next + profile_size) image ≡ drop (at + profile_size) rest =
    ap (λ (k : ℕ). drop k image) past ∙ sym (drop-drop (at + profile_size) profile_size image) in
    let whole : take next image ++ (bytes ++ drop (next + profile_size) image) ≡ first ++ others =
    (λ j. before j ++ (bytes ++ behind j)) ∙ append_assoc first (take at rest) _ in
    let width : length first ≡ profile_size = length-take-le profile_size image (omega arith) in
    ap (slots_of (suc n)) whole
    ∙ (λ j. slot_of (take_at first others profile_size width j) ∷ slots_of n (drop_at first others profile_size width j))
    ∙ ap (λ (ss : List Slot). slot_of first ∷ ss)
    (slots_with n i bytes rest size (omega arith) (omega (arith, length-drop profile_size image)))

-- the image of p in the place of slot i, where it means p
pub slot_written : (i : ℕ) (p : Profile) (old bytes : List ℕ) → length old ≡ store_size → i < capacity
    → ProfileWritten p bytes
    → SlotWritten i p old (put_mid (profile_size * i) (profile_size * i + profile_size - profile_size * i) old bytes)
unfolding image_of
slot_written i p old bytes size h wrote =
    let at : ℕ = profile_size * i in
    let width : at + profile_size - at ≡ profile_size = omega arith in
    let past : drop (at + profile_size - at) (drop at old) ≡ drop (at + profile_size) old =
    ap (λ (n : ℕ). drop n (drop at old)) width ∙ drop-drop profile_size at old in
    let written : put_mid at (at + profile_size - at) old bytes ≡ with_profile i p old =
    λ j. take at old ++ (wrote.bytes j ++ past j) in
    let means : profile_of (image_of p) ≡ p = ap profile_of (sym wrote.bytes) ∙ wrote.means in
    record {
      bytes = written;
      slots =
          ap (slots_of capacity) written
          ∙ slots_with capacity i (image_of p) old (image_size p) h (omega arith)
          ∙ (λ j. set (slots_of capacity old) i (record { used = true; profile = means j }));
    }
