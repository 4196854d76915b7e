-- The image of a table, whole and while its rows are written, and what it means. Assumes nothing.
use mathlib.Core.Path.{◌≡◌, refl, ◌∙◌, sym, ap, subst}
use mathlib.Core.Bool.{true}
use mathlib.Core.List.{List, [], ◌∷◌, ◌++◌, append_assoc}
use Prim.Native.Nat.{ℕ, zero, suc, ◌+◌, ◌-◌, ◌*◌, ◌≤◌, ◌<◌}
use native.Mathlib.Nat.{add_assoc, add-zero}
use native.Mathlib.Decide.{ℕ_discrete}
use native.Mathlib.Omega.{arith}
use lib.ListN.{length, drop, get_or, replicate, length-append, length-replicate, replicate-append-replicate}
use lib.Seq.{sets, sets-eq, take_at, drop_at, drop-drop, get_or-append-add}
use Rattle.words.specs.Words.{number, word_at, word, Small}
use Rattle.words.proofs.WordLaws.{word_again, word_small}
use Rattle.decimal.specs.Decimal.{Appended}
use Rattle.profile.specs.Rules.{◌to◌, Class, class, classes, low, high}
use Rattle.profile.specs.Table.{most_rows, row_size, table_size, rows_used, row_at, rows_from, table_of}
use Rattle.profile.proofs.TableLaws.{right_size, few_used, no_rows, some_rows}
use Rattle.table.specs.File.{sound_rows, rows_image, table_image}
use Rattle.table.specs.Theorems.{RowsFit, Fits}
use Rattle.table.proofs.RowLaws.{bounds, first_sound}
use Rattle.table.proofs.TextLaws.{row_parts, rest_sound}

-- the bytes of a row
abbrev pub row_bytes : Class → List ℕ
row_bytes c = word c.letter ++ (word (low c.volts) ++ word (high c.volts))

-- zeros for the rows behind n
abbrev pub unused : ℕ → List ℕ
unused n = replicate (row_size * (most_rows - n)) 0

-- ---- sizes

pub length_rows : (rows : List Class) → length (rows_image rows) ≡ row_size * length rows
unfolding rows_image
length_rows [] = refl
length_rows (c ∷ cs) = omega (arith, length_rows cs)

-- behind any number
size_behind : (number : List ℕ) (rows : List Class) → length number ≡ 4 → length rows ≤ most_rows
    → length (number ++ (rows_image rows ++ unused (length rows))) ≡ table_size
size_behind number rows four h =
    let left : ℕ = row_size * (most_rows - length rows) in
    let zeros : length (unused (length rows)) ≡ left = length-replicate left 0 in
    let rest = length-append (rows_image rows) (unused (length rows)) in
    omega (arith, length-append number (rows_image rows ++ unused (length rows)), rest, zeros, length_rows rows)

pub image_size : (rows : List Class) → length rows ≤ most_rows → length (table_image rows) ≡ table_size
unfolding table_image
image_size rows h = size_behind (word (length rows)) rows refl h

-- ---- what an image means

-- a number behind other bytes
word_behind : (front bytes : List ℕ) (k : ℕ) → word_at (front ++ bytes) (length front + k) ≡ word_at bytes k
unfolding word_at
word_behind front bytes k =
    let at : (j : ℕ) → get_or (front ++ bytes) (length front + k + j) 0 ≡ get_or bytes (k + j) 0 =
    λ j. ap (λ (n : ℕ). get_or (front ++ bytes) n 0) (add_assoc (length front) k j) ∙ get_or-append-add front bytes (k + j) 0 in
    λ i. number (get_or-append-add front bytes k 0 i) (at 1 i) (at 2 i) (at 3 i)

-- a row behind other bytes
row_behind : (front rest : List ℕ) (c : Class) → Small c.letter × Small (low c.volts) × Small (high c.volts)
    → row_at (front ++ (row_bytes c ++ rest)) (length front) ≡ c
unfolding word_at
row_behind front rest c small =
    let bytes : List ℕ = row_bytes c ++ rest in
    let letter : word_at (front ++ bytes) (length front) ≡ c.letter =
    ap (word_at (front ++ bytes)) (sym (add-zero (length front)))
    ∙ word_behind front bytes 0
    ∙ word_again c.letter small.0 in
    let from : word_at (front ++ bytes) (length front + 4) ≡ low c.volts =
    word_behind front bytes 4 ∙ word_again (low c.volts) small.1 in
    let upto : word_at (front ++ bytes) (length front + 8) ≡ high c.volts =
    word_behind front bytes 8 ∙ word_again (high c.volts) small.2 in
    (λ i. class (letter i) (from i to upto i)) ∙ row_parts c

-- the rows behind other bytes, the first of which is row i
rows_behind : (front : List ℕ) (i : ℕ) (rows : List Class) (rest : List ℕ) → length front ≡ 4 + row_size * i
    → RowsFit rows → rows_from (front ++ (rows_image rows ++ rest)) i (length rows) ≡ rows
unfolding rows_from rows_image
rows_behind front i [] rest h e = refl
rows_behind front i (c ∷ cs) rest h e =
    let others : List ℕ = rows_image cs ++ rest in
    let here : row_at (front ++ (row_bytes c ++ others)) (4 + row_size * i) ≡ c =
    ap (row_at (front ++ (row_bytes c ++ others))) (sym h) ∙ row_behind front others c e.0 in
    let later : rows_from (front ++ (row_bytes c ++ others)) (suc i) (length cs) ≡ cs =
    ap (λ (l : List ℕ). rows_from l (suc i) (length cs)) (sym (append_assoc front (row_bytes c) others))
    ∙ rows_behind (front ++ row_bytes c) (suc i) cs rest (omega (arith, length-append front (row_bytes c))) e.1 in
    λ j. here j ∷ later j

module _ (rows : List Class) (few : length rows ≤ most_rows) where
  used_again : rows_used (table_image rows) ≡ length rows
  unfolding table_image word_at
  used_again =
      let count : word_at (table_image rows) 0 ≡ length rows = word_again (length rows) (omega arith) in
      omega (arith, right_size (table_image rows) (image_size rows few), count)

  pub table_again : 1 ≤ length rows → RowsFit rows → table_of (table_image rows) ≡ rows
  unfolding table_image
  table_again some e =
      some_rows (table_image rows) (λ z. omega (arith, used_again))
      ∙ ap (rows_from (table_image rows) 0) used_again
      ∙ rows_behind (word (length rows)) 0 rows (unused (length rows)) refl e

-- ---- which tables an image can mean

-- sound rows have small numbers
pub sound_small : (rows : List Class) → sound_rows rows ≡ true → RowsFit rows
sound_small [] e = tt
sound_small (c ∷ cs) e =
    let own = bounds c (first_sound c cs e) in
    ((omega (arith, own), omega (arith, own), omega (arith, own)), sound_small cs (rest_sound c cs e))

built_in : sound_rows classes ≡ true
unfolding sound_rows
built_in = refl

module _ (image : List ℕ) (bytes : (i : ℕ) → get_or image i 0 < 256) where
  -- and so have those of an image of bytes
  read_small : (i n : ℕ) → RowsFit (rows_from image i n)
  unfolding rows_from
  read_small i zero = tt
  read_small i (suc n) =
      let at : ℕ = 4 + row_size * i in
      let small = word_small image bytes in
      ((small at, small (at + 4), small (at + 8)), read_small (suc i) n)

  read_length : (i n : ℕ) → length (rows_from image i n) ≡ n
  unfolding rows_from
  read_length i zero = refl
  read_length i (suc n) = ap suc (read_length (suc i) n)

  pub read_fits : Fits (table_of image)
  read_fits = go (ℕ_discrete (rows_used image) 0)
    where
      go : Dec (rows_used image ≡ 0) → Fits (table_of image)
      go (yes none) =
          subst Fits (sym (no_rows image none))
          (record { some = omega arith; few = omega arith; numbers = sound_small classes built_in })
      go (no some) =
          subst Fits (sym (some_rows image some))
          (record {
            some = omega (arith, read_length 0 (rows_used image));
            few = omega (arith, read_length 0 (rows_used image), few_used image);
            numbers = read_small 0 (rows_used image);
          })

-- ---- writing the rows, one after the other

-- bytes over others of the same length
over : (front old rest bytes : List ℕ) (at : ℕ) → length front ≡ at → length bytes ≡ length old
    → sets (front ++ (old ++ rest)) at bytes ≡ front ++ (bytes ++ rest)
over front old rest bytes at h size =
    let whole : List ℕ = front ++ (old ++ rest) in
    let long : length whole ≡ length front + (length old + length rest) =
    length-append front (old ++ rest) ∙ ap (λ (n : ℕ). length front + n) (length-append old rest) in
    let behind : drop (at + length bytes) whole ≡ rest =
    sym (drop-drop (length bytes) at whole)
    ∙ ap (drop (length bytes)) (drop_at front (old ++ rest) at h)
    ∙ drop_at old rest (length bytes) (sym size) in
    sets-eq bytes whole at (omega arith)
    ∙ (λ i. take_at front (old ++ rest) at h i ++ bytes ++ behind i)
    ∙ append_assoc front bytes rest

-- the image while its rows are written: the number is not there yet
abbrev pub begun_image : List Class → List ℕ
begun_image rows = replicate 4 0 ++ (rows_image rows ++ unused (length rows))

pub begun_size : (rows : List Class) → length rows ≤ most_rows → length (begun_image rows) ≡ table_size
begun_size rows h = size_behind (replicate 4 0) rows refl h

rows_snoc : (rows : List Class) (c : Class) (rest : List ℕ)
    → rows_image (rows ++ (c ∷ [])) ++ rest ≡ rows_image rows ++ (row_bytes c ++ rest)
unfolding rows_image
rows_snoc [] c rest = refl
rows_snoc (d ∷ ds) c rest = ap (λ (l : List ℕ). row_bytes d ++ l) (rows_snoc ds c rest)

-- room for one row more, and the image with it
one_left : (n : ℕ) → n < most_rows → unused n ≡ replicate row_size 0 ++ unused (suc n)
one_left n h =
    let left : row_size * (most_rows - n) ≡ row_size + row_size * (most_rows - suc n) = omega arith in
    ap (λ (k : ℕ). replicate k 0) left ∙ sym (replicate-append-replicate row_size (row_size * (most_rows - suc n)) 0)

begun_parted : (rows : List Class) → length rows < most_rows
    → begun_image rows ≡ (replicate 4 0 ++ rows_image rows) ++ (replicate row_size 0 ++ unused (suc (length rows)))
begun_parted rows h =
    sym (append_assoc (replicate 4 0) (rows_image rows) (unused (length rows)))
    ∙ ap (λ (l : List ℕ). (replicate 4 0 ++ rows_image rows) ++ l) (one_left (length rows) h)

begun_joined : (rows : List Class) (c : Class)
    → (replicate 4 0 ++ rows_image rows) ++ (row_bytes c ++ unused (suc (length rows))) ≡ begun_image (rows ++ (c ∷ []))
begun_joined rows c =
    let one_more : suc (length rows) ≡ length (rows ++ (c ∷ [])) = omega (arith, length-append rows (c ∷ [])) in
    append_assoc (replicate 4 0) (rows_image rows) (row_bytes c ++ unused (suc (length rows)))
    ∙ ap (λ (l : List ℕ). replicate 4 0 ++ l) (sym (rows_snoc rows c (unused (suc (length rows)))))
    ∙ ap (λ (k : ℕ). replicate 4 0 ++ (rows_image (rows ++ (c ∷ [])) ++ unused k)) one_more

pub row_stored : {image new : List ℕ} {end : ℕ} (rows : List Class) (c : Class) → length rows < most_rows
    → image ≡ begun_image rows → Appended image (4 + row_size * length rows) (row_bytes c) new end
    → new ≡ begun_image (rows ++ (c ∷ []))
row_stored rows c h e put =
    let place : length (replicate 4 0 ++ rows_image rows) ≡ 4 + row_size * length rows = omega (arith, length_rows rows) in
    put.stored
    ∙ ap (λ (l : List ℕ). sets l (4 + row_size * length rows) (row_bytes c)) (e ∙ begun_parted rows h)
    ∙ over (replicate 4 0 ++ rows_image rows) (replicate row_size 0) (unused (suc (length rows))) (row_bytes c) _ place refl
    ∙ begun_joined rows c

pub count_stored : {image new : List ℕ} {end : ℕ} (rows : List Class) → image ≡ begun_image rows
    → Appended image 0 (word (length rows)) new end → new ≡ table_image rows
unfolding table_image
count_stored rows e put =
    put.stored
    ∙ ap (λ (l : List ℕ). sets l 0 (word (length rows))) e
    ∙ over [] (replicate 4 0) (rows_image rows ++ unused (length rows)) (word (length rows)) 0 refl refl
