-- An accepted call changes the bytes of one slot, and none of the table. Assumes nothing.
use mathlib.Core.Path.{◌≡◌, refl, ◌∙◌, sym, ap}
use mathlib.Core.Bool.{Bool, true, false}
use mathlib.Core.List.{List, ◌++◌, append_assoc}
use Prim.Native.Nat.{ℕ, ◌+◌, ◌*◌, ◌-◌, ◌≤◌, ◌<◌}
use native.Mathlib.Omega.{arith}
use lib.Dec.{ltb}
use lib.ListN.{length, take, drop, length-append, length-drop, take-append-drop}
use lib.Seq.{length-take-le, take-append-le, drop-append-le, drop-append-add, drop-drop, take_at, drop_at}
use borrow.Author.Tests.{ltb-true, ltb-false}
use Rattle.profile.specs.declared.Profile.{Profile}
use Rattle.image.specs.Image.{profile_size, image_of}
use Rattle.image.proofs.ImageLaws.{image_size}
use Rattle.store.specs.Stored.{capacity, slots_size, store_size, slot_bytes, with_profile}
use Rattle.store.specs.Calls.{Taken}
use Rattle.store.specs.Reached.{OneSlot, TableKept}

-- a part of two lists that lies within the first, and one that lies within the front of a list
part_first : (n m : ℕ) (xs ys : List ℕ) → n + m ≤ length xs → take m (drop n (xs ++ ys)) ≡ take m (drop n xs)
part_first n m xs ys h =
    ap (take m) (drop-append-le n xs ys (omega arith))
    ∙ take-append-le m (drop n xs) ys (omega (arith, length-drop n xs))

part_front : (n m k : ℕ) (l : List ℕ) → n + m ≤ k → k ≤ length l → take m (drop n (take k l)) ≡ take m (drop n l)
part_front n m k l h within =
    sym (part_first n m (take k l) (drop k l) (omega (arith, length-take-le k l within)))
    ∙ ap (λ (xs : List ℕ). take m (drop n xs)) (take-append-drop k l)

module _ (p : Profile) (old : List ℕ) (size : length old ≡ store_size) (i : ℕ) (h : i < capacity) where
  abbrev at : ℕ
  at = profile_size * i

  front_size : length (take at old) ≡ at
  front_size = length-take-le at old (omega arith)

  own : slot_bytes i (with_profile i p old) ≡ image_of p
  own =
      let rest : List ℕ = drop (at + profile_size) old in
      ap (take profile_size) (drop_at (take at old) (image_of p ++ rest) at front_size)
      ∙ take_at (image_of p) rest profile_size (image_size p)

  before : (j : ℕ) → j < i → slot_bytes j (with_profile i p old) ≡ slot_bytes j old
  before j less =
      let rest : List ℕ = image_of p ++ drop (at + profile_size) old in
      part_first (profile_size * j) profile_size (take at old) rest (omega (arith, front_size))
      ∙ part_front (profile_size * j) profile_size at old (omega arith) (omega arith)

  -- all that stands from a later slot on
  behind : (j : ℕ) → i < j → drop (profile_size * j) (with_profile i p old) ≡ drop (profile_size * j) old
  behind j less =
      let rest : List ℕ = drop (at + profile_size) old in
      let both : List ℕ = take at old ++ image_of p in
      let k : ℕ = profile_size * j - (at + profile_size) in
      let width : length both ≡ at + profile_size =
      length-append (take at old) (image_of p) ∙ (λ s. front_size s + image_size p s) in
      let place : profile_size * j ≡ length both + k = omega (arith, width) in
      let again : at + profile_size + k ≡ profile_size * j = omega arith in
      let whole : with_profile i p old ≡ both ++ rest = sym (append_assoc (take at old) (image_of p) rest) in
      (λ s. drop (place s) (whole s))
      ∙ (drop-append-add both rest k
      ∙ (drop-drop k (at + profile_size) old ∙ ap (λ (n : ℕ). drop n old) again))

  -- the image keeps its size
  size_kept : length (with_profile i p old) ≡ store_size
  size_kept =
      let rest : List ℕ = drop (at + profile_size) old in
      length-append (take at old) (image_of p ++ rest)
      ∙ omega (arith, front_size, length-append (image_of p) rest, image_size p, length-drop (at + profile_size) old)

pub taken_size : {p : Profile} {old new : List ℕ} → length old ≡ store_size → Taken p old new → length new ≡ store_size
taken_size {p} {old} size t = ap length t.written.bytes ∙ size_kept p old size t.slot t.chosen.within

pub one_slot : OneSlot
one_slot p old new size t = (
  ap (slot_bytes t.slot) t.written.bytes ∙ own p old size t.slot t.chosen.within,
  λ j h other. ap (slot_bytes j) t.written.bytes ∙ go j other (ltb j t.slot) refl,
)
  where
    go : (j : ℕ) → (j ≡ t.slot → ⊥) → (b : Bool) → ltb j t.slot ≡ b
        → slot_bytes j (with_profile t.slot p old) ≡ slot_bytes j old
    go j other true e = before p old size t.slot t.chosen.within j (ltb-true j t.slot e)
    go j other false e =
        let least = ltb-false j t.slot e in
        ap (take profile_size) (behind p old size t.slot t.chosen.within j (omega (arith, least, other)))

pub table_kept : TableKept
table_kept p old new size t =
    ap (drop slots_size) t.written.bytes
    ∙ behind p old size t.slot t.chosen.within capacity t.chosen.within
