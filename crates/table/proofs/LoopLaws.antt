-- Reading the rows of a file, one after the other. Assumes nothing.
use mathlib.Core.Path.{◌≡◌, refl, ◌∙◌, sym, ap}
use mathlib.Core.Bool.{true, false, ◌&&◌, and-false}
use mathlib.Core.List.{List, [], ◌∷◌, ◌++◌}
use Prim.Native.Nat.{ℕ, zero, suc, ◌+◌, ◌-◌, ◌*◌, ◌≤◌, ◌<◌}
use native.Mathlib.Omega.{arith}
use lib.ListN.{length, drop, replicate, length-append, length-drop}
use Rattle.outcome.specs.declared.refusal.Refusal.{Refusal}
use Rattle.outcome.specs.Answer.{bad_table, pick}
use Rattle.outcome.specs.Result.{Result, Ok, Err, number_in}
use Rattle.words.specs.Words.{word}
use Rattle.decimal.specs.Decimal.{Appended}
use Rattle.profile.specs.Rules.{Class}
use Rattle.profile.specs.Table.{most_rows, row_size, table_size}
use Rattle.table.specs.File.{row_text, row_in, rows_image, read_table, table_image}
use Rattle.table.specs.InnerRows.{before_all, fits_after, begins, and_then, rows_after, RowsRead}
use Rattle.table.proofs.RowLaws.{whole_file, empty_file}
use Rattle.table.proofs.ImageLaws.{row_bytes, begun_image, begun_size, row_stored, count_stored}

-- rows in front of those that are read later
abbrev prepend : List Class → Result (List Class) → Result (List Class)
prepend [] r = r
prepend (c ∷ cs) r = and_then c (prepend cs r)

prepend_snoc : (cs : List Class) (c : Class) (r : Result (List Class)) → prepend (cs ++ (c ∷ [])) r ≡ prepend cs (and_then c r)
prepend_snoc [] c r = refl
prepend_snoc (d ∷ cs) c r = ap (and_then d) (prepend_snoc cs c r)

prepend_refused : (cs : List Class) (k : Refusal) → prepend cs (Err k) ≡ Err k
prepend_refused [] k = refl
prepend_refused (c ∷ cs) k = ap (and_then c) (prepend_refused cs k)

prepend_none : (cs : List Class) → prepend cs (Ok []) ≡ Ok cs
prepend_none [] = refl
prepend_none (c ∷ cs) = ap (and_then c) (prepend_none cs)

-- ---- one step of `rows_after`

none_left : (n : ℕ) (before : Class) → rows_after n before [] ≡ Ok []
unfolding rows_after
none_left zero before = refl
none_left (suc n) before = refl

no_room : (before : Class) (rest : List ℕ) → 0 < length rest → rows_after zero before rest ≡ Err bad_table
unfolding rows_after
no_room before [] h = absurd (omega arith)
no_room before (b ∷ bytes) h = refl

one_row : (n : ℕ) (before : Class) (rest : List ℕ) (c : Class) → 0 < length rest → c ≡ row_in rest
    → rows_after (suc n) before rest
    ≡ pick (fits_after before c && begins c rest) (and_then c (rows_after n c (drop (length (row_text c)) rest))) (Err bad_table)
unfolding rows_after
one_row n before [] c h e = absurd (omega arith)
one_row n before (b ∷ bytes) c h e = rw e

-- ---- so many rows are read, and are in the image

pub record SoFar (file : List ℕ) (before : Class) (rest : List ℕ) (rows : ℕ) (image : List ℕ) : Type 0 where
  pub read : List Class
  pub count : length read ≡ rows
  pub few : rows ≤ most_rows
  pub within : length rest ≤ length file
  pub begun : rows ≡ 0 → length rest ≡ length file
  pub left : prepend read (rows_after (most_rows - rows) before rest) ≡ rows_after most_rows before_all file
  pub content : image ≡ begun_image read

pub so_far_none : (file image : List ℕ) → image ≡ replicate table_size 0 → SoFar file before_all file 0 image
unfolding rows_image
so_far_none file image e =
    record { read = []; count = refl; few = omega arith; within = omega arith; begun = λ z. refl; left = refl; content = e }

-- a file with a byte is read as its rows are
byte_file : (file : List ℕ) → 0 < length file → read_table file ≡ rows_after most_rows before_all file
byte_file [] h = absurd (omega arith)
byte_file (b ∷ bytes) h = whole_file b bytes

-- a file that is refused was not read
not_read : {file image : List ℕ} → read_table file ≡ Err bad_table → RowsRead file 13 image
not_read e = record { answer = sym (ap number_in e); content = λ rows f. absurd (apart (sym e ∙ f)) }
  where
    apart : {rows : List Class} → ◌≡◌ {A = Result (List Class)} (Err bad_table) (Ok rows) → ⊥
    apart f = cc

module _ {file rest image : List ℕ} {before : Class} {rows : ℕ} (so_far : SoFar file before rest rows image) where
  -- the image keeps its size
  pub size_kept : length image ≡ table_size
  size_kept = ap length so_far.content ∙ begun_size so_far.read (omega (arith, so_far.count, so_far.few))

  module _ (more : 0 < length rest) where
    -- where the rest refuses, the file is refused
    refuses : {new : List ℕ} → rows_after (most_rows - rows) before rest ≡ Err bad_table → RowsRead file 13 new
    refuses e =
        not_read
        (byte_file file (omega (arith, so_far.within))
        ∙ sym so_far.left
        ∙ ap (prepend so_far.read) e
        ∙ prepend_refused so_far.read bad_table)

    pub too_many : {new : List ℕ} → rows ≡ most_rows → RowsRead file 13 new
    too_many e =
        let full : most_rows - rows ≡ 0 = omega arith in
        refuses (ap (λ (n : ℕ). rows_after n before rest) full ∙ no_room before rest more)

    module _ (room : rows < most_rows) {c : Class} (found : c ≡ row_in rest) where
      step : rows_after (most_rows - rows) before rest
          ≡ pick (fits_after before c && begins c rest)
          (and_then c (rows_after (most_rows - suc rows) c (drop (length (row_text c)) rest))) (Err bad_table)
      step =
          let left : most_rows - rows ≡ suc (most_rows - suc rows) = omega arith in
          ap (λ (n : ℕ). rows_after n before rest) left ∙ one_row (most_rows - suc rows) before rest c more found

      pub misfit : {new : List ℕ} → fits_after before c ≡ false → RowsRead file 13 new
      misfit e = refuses (step ∙ rw e)

      pub misspelt : {new : List ℕ} → begins c rest ≡ false → RowsRead file 13 new
      misspelt e = refuses (step ∙ rw e (rw (and-false (fits_after before c))))

      pub so_far_more : {new next : List ℕ} {end : ℕ} → fits_after before c ≡ true → begins c rest ≡ true
          → next ≡ drop (length (row_text c)) rest → Appended image (4 + row_size * rows) (row_bytes c) new end
          → SoFar file c next (rows + 1) new
      so_far_more {new} {next} {end} fits stands behind put =
          let cs : List Class = so_far.read in
          let one_more : most_rows - suc rows ≡ most_rows - (rows + 1) = omega arith in
          let taken : rows_after (most_rows - rows) before rest
          ≡ and_then c (rows_after (most_rows - (rows + 1)) c next) =
          step ∙ rw (fits, stands) (λ i. and_then c (rows_after (one_more i) c (sym behind i))) in
          record {
            read = cs ++ (c ∷ []);
            count = omega (arith, length-append cs (c ∷ []), so_far.count);
            few = omega arith;
            within = omega (arith, ap length behind, length-drop (length (row_text c)) rest, so_far.within);
            begun = λ z. absurd (omega arith);
            left =
                prepend_snoc cs c (rows_after (most_rows - (rows + 1)) c next)
                ∙ ap (prepend cs) (sym taken)
                ∙ so_far.left;
            content = row_stored {end = end} cs c (omega (arith, so_far.count)) so_far.content (rw so_far.count put);
          }

  -- ---- the end of the file

  module _ (ended : length rest ≡ 0) where
    nothing : (l : List ℕ) → length l ≡ 0 → l ≡ []
    nothing [] h = refl
    nothing (b ∷ l) h = absurd (omega arith)

    pub no_rows : {new : List ℕ} → rows ≡ 0 → RowsRead file 13 new
    no_rows z = not_read (ap read_table (nothing file (omega (arith, so_far.begun z))) ∙ empty_file)

    all_read : rows_after most_rows before_all file ≡ Ok so_far.read
    all_read =
        sym so_far.left
        ∙ ap (λ (l : List ℕ). prepend so_far.read (rows_after (most_rows - rows) before l)) (nothing rest ended)
        ∙ ap (prepend so_far.read) (none_left (most_rows - rows) before)
        ∙ prepend_none so_far.read

    table_read : (rows ≡ 0 → ⊥) → read_table file ≡ Ok so_far.read
    table_read some = at_file file all_read
      where
        at_file : (l : List ℕ) → rows_after most_rows before_all l ≡ Ok so_far.read → read_table l ≡ Ok so_far.read
        at_file [] e =
            let none : so_far.read ≡ [] = cc (none_left most_rows before_all) in
            absurd (some (sym so_far.count ∙ ap length none))
        at_file (b ∷ l) e = whole_file b l ∙ e

    pub rows_read : {new : List ℕ} {end : ℕ} → (rows ≡ 0 → ⊥) → Appended image 0 (word rows) new end → RowsRead file 0 new
    rows_read {new} {end} some put =
        let all = table_read some in
        record {
          answer = sym (ap number_in all);
          content =
              λ rows e.
              let same : so_far.read ≡ rows = cc in
              count_stored {end = end} so_far.read so_far.content (rw so_far.count put) ∙ ap table_image same;
        }
