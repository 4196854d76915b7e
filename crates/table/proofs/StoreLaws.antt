-- A store in which nothing is stored, and a table behind its slots. Assumes nothing.
use mathlib.Core.Path.{◌≡◌, refl, ◌∙◌, sym, ap}
use mathlib.Core.Bool.{Bool, true, false, false≢true, not, ◌&&◌}
use mathlib.Core.List.{List, [], ◌∷◌, ◌++◌, append-nil}
use Prim.Native.Nat.{ℕ, zero, suc, ◌+◌, ◌-◌, ◌*◌, ◌≤◌}
use native.Mathlib.Omega.{arith}
use borrow.Rule.Slice.PartMut.{put_mid}
use lib.ListN.{length, take, drop, length-append, length-drop, drop_of_length-le}
use lib.Seq.{take_at, drop_at, take-add, length-take-le}
use Rattle.profile.specs.declared.Profile.{Profile}
use Rattle.image.specs.Image.{profile_size}
use Rattle.store.specs.Stored.{capacity, slots_size, store_size, Slot, slot_of, slots_of, profiles_in, stored}
use Rattle.store.specs.InnerSlots.{slot_parts}
use Rattle.store.proofs.PlaceLaws.{parts_mean}
use Rattle.std.specs.List.{list_all}
use Rattle.std.specs.Prelude.{map}
use Rattle.outcome.specs.Answer.{pick}
use Rattle.table.specs.File.{is_empty, with_table}

pub none : (ps : List Profile) → is_empty ps ≡ true → ps ≡ []
none [] e = refl
none (p ∷ ps) e = absurd (false≢true e)

-- no slot is used
all_unused : (parts : List (List ℕ)) → list_all (λ b. not (slot_of b).used) parts ≡ is_empty (profiles_in (map slot_of parts))
unfolding profiles_in
all_unused [] = refl
all_unused (b ∷ parts) = go (slot_of b).used (all_unused parts)
  where
    go : (u : Bool) → list_all (λ b. not (slot_of b).used) parts ≡ is_empty (profiles_in (map slot_of parts))
        → (not u && list_all (λ b. not (slot_of b).used) parts)
        ≡ is_empty (pick u ((slot_of b).profile ∷ profiles_in (map slot_of parts)) (profiles_in (map slot_of parts)))
    go true e = refl
    go false e = e

pub none_used : (image : List ℕ) {parts : List (List ℕ)} → parts ≡ slot_parts capacity image
    → list_all (λ b. not (slot_of b).used) parts ≡ is_empty (stored image)
none_used image whole =
    ap (list_all (λ b. not (slot_of b).used)) whole
    ∙ all_unused (slot_parts capacity image)
    ∙ ap (λ (ss : List Slot). is_empty (profiles_in ss)) (parts_mean capacity image)

-- ---- what stands behind the slots is no part of them

slots_taken : (n : ℕ) (image : List ℕ) → profile_size * n ≤ length image
    → slots_of n (take (profile_size * n) image) ≡ slots_of n image
unfolding slots_of
slots_taken zero image h = refl
slots_taken (suc n) image h =
    let first : List ℕ = take profile_size image in
    let rest : List ℕ = take (profile_size * n) (drop profile_size image) in
    let place : profile_size * suc n ≡ profile_size + profile_size * n = omega arith in
    let parted : take (profile_size * suc n) image ≡ first ++ rest =
    ap (λ (k : ℕ). take k image) place ∙ take-add profile_size (profile_size * n) image in
    let width : length first ≡ profile_size = length-take-le profile_size image (omega arith) in
    ap (slots_of (suc n)) parted
    ∙ (λ j. slot_of (take_at first rest profile_size width j) ∷ slots_of n (drop_at first rest profile_size width j))
    ∙ ap (λ (ss : List Slot). slot_of first ∷ ss)
    (slots_taken n (drop profile_size image) (omega (arith, length-drop profile_size image)))

module _ (image old : List ℕ) (size : length old ≡ store_size) where
  front : length (take slots_size old) ≡ slots_size
  front = length-take-le slots_size old (omega arith)

  pub slots_kept : take slots_size (with_table image old) ≡ take slots_size old
  slots_kept = take_at (take slots_size old) image slots_size front

  pub table_behind : drop slots_size (with_table image old) ≡ image
  table_behind = drop_at (take slots_size old) image slots_size front

  pub stored_kept : stored (with_table image old) ≡ stored old
  stored_kept =
      let long = length-append (take slots_size old) image in
      ap profiles_in
      (sym (slots_taken capacity (with_table image old) (omega (arith, long, front)))
      ∙ ap (slots_of capacity) slots_kept
      ∙ slots_taken capacity old (omega arith))

-- a copy of an image into what lies behind the slots
pub put_behind : (old bytes image : List ℕ) → bytes ≡ image
    → put_mid slots_size (length old - slots_size) old bytes ≡ with_table image old
put_behind old bytes image e =
    let beyond : length (drop slots_size old) ≤ length old - slots_size = omega (arith, length-drop slots_size old) in
    let nothing : drop (length old - slots_size) (drop slots_size old) ≡ [] = drop_of_length-le (drop slots_size old) beyond in
    (λ i. take slots_size old ++ (e i ++ nothing i)) ∙ ap (λ (l : List ℕ). take slots_size old ++ l) (append-nil image)
