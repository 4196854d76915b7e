-- A run of stores, cut in two. Assumes nothing.
use mathlib.Core.Path.{◌≡◌, refl, ◌∙◌, sym, ap, subst}
use mathlib.Core.List.{List, [], ◌∷◌, ◌++◌, append_assoc}
use Prim.Native.Nat.{ℕ, suc, ◌+◌, ◌-◌, ◌≤◌, ◌<◌}
use native.Mathlib.Nat.{add-zero, zero-add, add-suc, suc-add}
use native.Mathlib.Omega.{arith}
use lib.ListN.{length, set, take, drop, length-append}
use lib.Seq.{sets, sets-eq, length-sets, set_comm, take_at, drop-drop}
use Rattle.decimal.specs.Decimal.{Room, Appended}

module _ {A : Type 0} where
  -- one run after the other
  pub sets_append : (l : List A) (i : ℕ) (xs ys : List A) → sets l i (xs ++ ys) ≡ sets (sets l i xs) (i + length xs) ys
  sets_append l i [] ys = rw add-zero
  sets_append l i (x ∷ xs) ys = rw (add-suc, ← suc-add) (sets_append (set l i x) (suc i) xs ys)

  -- the last of a run may be stored first
  pub sets_last_first : (l : List A) (i : ℕ) (xs : List A) (y : A) → sets l i (xs ++ y ∷ []) ≡ sets (set l (i + length xs) y) i xs
  sets_last_first l i [] y = rw add-zero
  sets_last_first l i (x ∷ xs) y =
      sets_last_first (set l i x) (suc i) xs y
      ∙ ap (λ (m : List A). sets m (suc i) xs)
      (set_comm l i (suc i + length xs) x y (omega arith) ∙ rw (add-suc, ← suc-add))

  -- a run from the front
  pub sets_front : (l xs : List A) → length xs ≤ length l → sets l 0 xs ≡ xs ++ drop (length xs) l
  sets_front l xs h = sets-eq xs l 0 (rw zero-add h) ∙ rw zero-add

-- ---- bytes appended one after the other

-- one byte
pub one_byte : (l : List ℕ) (i b j : ℕ) → j ≡ i + 1 → Appended l i (b ∷ []) (set l i b) j
one_byte l i b j e = record { place = e; stored = refl }

pub then : {l m n xs ys : List ℕ} {i j k : ℕ} → Appended l i xs m j → Appended m j ys n k → Appended l i (xs ++ ys) n k
then {l} {m} {n} {xs} {ys} {i} {j} {k} a b =
    record {
      place = omega (arith, a.place, b.place, length-append xs ys);
      stored = b.stored ∙ rw (a.place, a.stored) (sym (sets_append l i xs ys));
    }

-- bytes copied into a part of the buffer
pub put_part : (l m ys : List ℕ) (at end : ℕ) → m ≡ ys → end ≡ at + length ys → end ≤ length l
    → Appended l at ys (take at l ++ (m ++ drop (end - at) (drop at l))) end
put_part l m ys at end same place room =
    let behind : at + (end - at) ≡ at + length ys = omega arith in
    record {
      place = place;
      stored =
          ap (λ (t : List ℕ). take at l ++ (t ++ drop (end - at) (drop at l))) same
          ∙ ap (λ (t : List ℕ). take at l ++ (ys ++ t)) (drop-drop (end - at) at l ∙ ap (λ (k : ℕ). drop k l) behind)
          ∙ sym (append_assoc (take at l) ys (drop (at + length ys) l))
          ∙ sym (sets-eq ys l at (omega arith));
    }

pub appended_as : {l m xs ys : List ℕ} {i j : ℕ} → xs ≡ ys → Appended l i xs m j → Appended l i ys m j
appended_as {l} {m} {xs} {ys} {i} {j} e a = subst (λ (zs : List ℕ). Appended l i zs m j) e a

pub appended_length : {l m xs : List ℕ} {i j : ℕ} → Appended l i xs m j → length m ≡ length l
appended_length {l} {m} {xs} {i} {j} a = ap length a.stored ∙ length-sets l i xs

-- ---- room for them

pub room_as : {l xs ys : List ℕ} {i : ℕ} → xs ≡ ys → Room l i xs → Room l i ys
room_as {l} {xs} {ys} {i} e r = subst (λ (zs : List ℕ). Room l i zs) e r

pub room_byte : (l : List ℕ) (i b : ℕ) (bs : List ℕ) → Room l i (b ∷ bs) → i < length l
room_byte l i b bs r = omega (arith, r.room)

-- for the first of two, and then for the second
pub room_first : {l xs : List ℕ} {i : ℕ} (ys : List ℕ) → Room l i (xs ++ ys) → Room l i xs
room_first {l} {xs} {i} ys r = record { room = omega (arith, r.room, length-append xs ys) }

pub room_after : {l m xs : List ℕ} {i j : ℕ} (ys : List ℕ) → Appended l i xs m j → Room l i (xs ++ ys) → Room m j ys
room_after {l} {m} {xs} {i} {j} ys a r =
    record { room = omega (arith, r.room, length-append xs ys, appended_length a, a.place) }

-- ---- bytes at the front

module _ {l m xs : List ℕ} {j : ℕ} (a : Appended l 0 xs m j) (r : Room l 0 xs) where
  fits : length xs ≤ length l
  fits = omega (arith, r.room)

  pub front_length : j ≡ length xs
  front_length = a.place ∙ zero-add (length xs)

  pub front : m ≡ xs ++ drop (length xs) l
  front = a.stored ∙ sets_front l xs fits

  pub front_taken : take j m ≡ xs
  front_taken = ap (take j) front ∙ take_at xs (drop (length xs) l) j (sym front_length)
