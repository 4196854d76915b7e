-- Laws of the rows and of the bytes that are written. Assumes nothing.
use mathlib.Core.Path.{◌≡◌, refl, ◌∙◌, sym, ap}
use mathlib.Core.Bool.{true}
use mathlib.Core.List.{List, [], ◌∷◌, ◌++◌, append_assoc, append-nil, map-append}
use Prim.Native.Nat.{ℕ, ◌+◌, ◌≤◌, ◌<◌}
use native.Mathlib.Numerals.{add-one}
use native.Mathlib.Omega.{arith}
use lib.Dec.{T}
use lib.ListN.{length, get_or, set, take, drop, take-append-drop, length-append}
use lib.Seq.{take-suc, take_all}
use Rattle.decimal.specs.Decimal.{decimal, last_digits, Room, Appended}
use Rattle.decimal.proofs.Stores.{sets_front, one_byte, then, room_as, room_first, room_after}
use Rattle.profile.specs.declared.Profile.{Profile}
use Rattle.profile.specs.Rules.{
  Range,
  ◌to◌,
  in_one_of,
  plain,
  number,
  fields_of,
  one,
  nominal_hertz,
  fits,
  obeys,
  Class,
  valid,
}
use Rattle.profile.specs.Line.{comma, line_feed}
use Rattle.profile.proofs.RuleLaws.{and_first, parts, valid_hertz, most, range_bounds}
use Rattle.order.specs.InnerPlaces.{profile_in, profiles_at}
use Rattle.preview.specs.Preview.{key_bytes, row, rows, longest_row, RowsFit}

-- ---- bytes copied to the front

pub put_front : (l m ys : List ℕ) → m ≡ ys → length ys ≤ length l
    → Appended l 0 ys (m ++ drop (length ys) l) (length ys)
put_front l m ys same room =
    record {
      place = omega arith;
      stored = ap (λ (t : List ℕ). t ++ drop (length ys) l) same ∙ sym (sets_front l ys room);
    }

-- ---- a row

module _ (p : Profile) where
  -- what stands before the hertz
  abbrev pub letters : List ℕ
  letters = p.country.first ∷ p.country.second ∷ comma ∷ p.class ∷ comma ∷ []

  pub key_length : length (key_bytes p) ≡ 6 + length (decimal p.hertz)
  key_length = omega (arith, length-append (decimal p.hertz) (comma ∷ []))

  pub row_length : length (row p) ≡ length (key_bytes p) + (length (decimal p.serial) + 1)
  unfolding row
  row_length =
      omega (
        arith,
        length-append (key_bytes p) (decimal p.serial ++ (line_feed ∷ [])),
        length-append
            (decimal p.serial) (line_feed ∷ []),
      )

  pub key_put : {l m n : List ℕ} {at i j : ℕ} → Appended l at letters m i → Appended m i (decimal p.hertz) n j
      → Appended l at (key_bytes p) (set n j comma) (j + 1)
  key_put {l} {m} {n} {at} {i} {j} key hertz = then key (then hertz (one_byte n j comma (j + 1) refl))

  pub row_put : {l m n : List ℕ} {at i j : ℕ} → Appended l at (key_bytes p) m i → Appended m i (decimal p.serial) n j
      → Appended l at (row p) (set n j line_feed) (j + 1)
  unfolding row
  row_put {l} {m} {n} {at} {i} {j} key serial = then key (then serial (one_byte n j line_feed (j + 1) refl))

-- ---- how long rows of valid profiles are

digits_of : (rs : List Range) (n : ℕ) → in_one_of rs n ≡ true → length (decimal n) ≤ most rs
digits_of rs n e = (range_bounds rs n e).1

two_digits : most nominal_hertz ≡ 2
unfolding decimal last_digits
two_digits = refl

ten_digits : most (1 to 4294967295 ∷ []) ≡ 10
unfolding decimal last_digits
ten_digits = refl

row_short : (table : List Class) (p : Profile) → T (valid table p) → length (row p) ≤ longest_row
unfolding obeys fields_of
row_short table p ok =
    let serial = and_first (fits (one plain (1 to 4294967295)) (number p.serial)) _ (parts table p ok).fields in
    omega (
      arith,
      row_length p,
      key_length p,
      digits_of nominal_hertz p.hertz (valid_hertz table p ok),
      two_digits,
      digits_of
          (1 to 4294967295 ∷ []) p.serial serial,
      ten_digits,
    )

pub rows_fit : (table : List Class) → RowsFit table
unfolding rows
rows_fit table [] all = omega arith
rows_fit table (p ∷ ps) all =
    omega (arith, length-append (row p) (rows ps), row_short table p all.0, rows_fit table ps all.1)

-- ---- the rows of slots

rows_append : (ps qs : List Profile) → rows (ps ++ qs) ≡ rows ps ++ rows qs
unfolding rows
rows_append [] qs = refl
rows_append (p ∷ ps) qs =
    ap (λ (l : List ℕ). row p ++ l) (rows_append ps qs) ∙ sym (append_assoc (row p) (rows ps) (rows qs))

module _ (image places : List ℕ) where
  -- the rows of the slots at the first places
  abbrev pub rows_before : ℕ → List ℕ
  rows_before i = rows (profiles_at image (take i places))

  -- the rows of all begin with them
  rows_begin : (i : ℕ) → rows_before i ++ rows (profiles_at image (drop i places)) ≡ rows (profiles_at image places)
  rows_begin i =
      sym
      (ap (λ (l : List ℕ). rows (profiles_at image l)) (sym (take-append-drop i places))
      ∙ (ap rows (map-append (profile_in image) (take i places) (drop i places))
      ∙ rows_append (profiles_at image (take i places)) (profiles_at image (drop i places))))

  -- a slot's row is written behind those before it
  pub rows_more : (i : ℕ) → i < length places
      → rows_before i ++ row (profile_in image (get_or places i 0)) ≡ rows_before (i + 1)
  unfolding rows
  rows_more i h =
      let slot : ℕ = get_or places i 0 in
      let next : take (i + 1) places ≡ take i places ++ (slot ∷ []) = rw (add-one i) (take-suc places i 0 h) in
      sym
      (ap (λ (l : List ℕ). rows (profiles_at image l)) next
      ∙ (ap rows (map-append (profile_in image) (take i places) (slot ∷ []))
      ∙ rows_append (profiles_at image (take i places)) (profile_in image slot ∷ [])
      ∙ ap (λ (l : List ℕ). rows_before i ++ l) (append-nil (row (profile_in image slot)))))

  -- so that where all have room, it has room
  pub row_room : {l m : List ℕ} {at next : ℕ} (i : ℕ) → i < length places → Room l at (rows (profiles_at image places))
      → Appended l at (rows_before i) m next → Room m next (row (profile_in image (get_or places i 0)))
  row_room i h room written =
      room_after (row (profile_in image (get_or places i 0))) written
      (room_as (sym (rows_more i h)) (room_first _ (room_as (sym (rows_begin (i + 1))) room)))

  pub rows_all : (i : ℕ) → length places ≤ i → rows_before i ≡ rows (profiles_at image places)
  rows_all i h = ap (λ (l : List ℕ). rows (profiles_at image l)) (take_all i places h)
