-- The text of sound rows is read as these rows. Assumes nothing.
use mathlib.Core.Path.{◌≡◌, refl, ◌∙◌, ap}
use mathlib.Core.Bool.{true}
use mathlib.Core.List.{List, [], ◌∷◌, ◌++◌, append_assoc}
use Prim.Native.Nat.{ℕ, zero, suc, ◌≤◌}
use native.Mathlib.Omega.{arith}
use lib.ListN.{length, drop}
use lib.Seq.{drop-append_seam}
use Rattle.decimal.specs.Decimal.{decimal, leading_number, after_number}
use Rattle.decimal.proofs.Decimal.{number_before, after_before}
use Rattle.profile.specs.Rules.{Range, ◌to◌, Class, class, low, high}
use Rattle.profile.specs.Line.{comma, line_feed}
use Rattle.profile.proofs.RuleLaws.{and_rest}
use Rattle.table.specs.File.{sound_row, follows, sound_rows, row_text, table_text, row_in, rows_in}
use Rattle.table.proofs.RowLaws.{bounds, first_sound}

-- a row is its letter and its numbers
range_parts : (r : Range) → (low r to high r) ≡ r
range_parts (l to h) = refl

pub row_parts : (c : Class) → class c.letter (low c.volts to high c.volts) ≡ c
row_parts c = λ i. class c.letter (range_parts c.volts i)

-- the row that stands before any bytes is read
pub row_again : (c : Class) (rest : List ℕ) → sound_row c ≡ true → row_in (row_text c ++ rest) ≡ c
unfolding row_in row_text
row_again c rest e =
    let b = bounds c e in
    let from : ℕ = low c.volts in
    let upto : ℕ = high c.volts in
    let ends : List ℕ = decimal upto ++ (line_feed ∷ []) in
    let behind : List ℕ = comma ∷ (decimal upto ++ (line_feed ∷ rest)) in
    let numbers : (decimal from ++ (comma ∷ ends)) ++ rest ≡ decimal from ++ behind =
    append_assoc (decimal from) (comma ∷ ends) rest
    ∙ ap (λ (l : List ℕ). decimal from ++ (comma ∷ l)) (append_assoc (decimal upto) (line_feed ∷ []) rest) in
    let first : leading_number ((decimal from ++ (comma ∷ ends)) ++ rest) ≡ from =
    ap leading_number numbers ∙ number_before from comma (drop 1 behind) refl (omega arith) in
    let after : after_number ((decimal from ++ (comma ∷ ends)) ++ rest) ≡ behind =
    ap after_number numbers ∙ after_before from comma (drop 1 behind) refl in
    let second : leading_number (drop 1 (after_number ((decimal from ++ (comma ∷ ends)) ++ rest))) ≡ upto =
    ap (λ (l : List ℕ). leading_number (drop 1 l)) after ∙ number_before upto line_feed rest refl (omega arith) in
    (λ i. class c.letter (first i to second i)) ∙ row_parts c

pub rest_sound : (c : Class) (cs : List Class) → sound_rows (c ∷ cs) ≡ true → sound_rows cs ≡ true
unfolding sound_rows
rest_sound c [] e = refl
rest_sound c (d ∷ cs) e = and_rest (follows c d) _ (and_rest (sound_row c) _ e)

-- rows that are sound are found in their text, where there are no more than are looked for
pub rows_again : (n : ℕ) (rows : List Class) → length rows ≤ n → sound_rows rows ≡ true → rows_in n (table_text rows) ≡ rows
unfolding rows_in table_text row_text
rows_again zero [] h e = refl
rows_again zero (c ∷ cs) h e = absurd (omega arith)
rows_again (suc n) [] h e = refl
rows_again (suc n) (c ∷ cs) h e =
    let found : row_in (row_text c ++ table_text cs) ≡ c = row_again c (table_text cs) (first_sound c cs e) in
    let others : rows_in n (drop (length (row_text (row_in (row_text c ++ table_text cs)))) (row_text c ++ table_text cs)) ≡ cs =
    ap (λ (d : Class). rows_in n (drop (length (row_text d)) (row_text c ++ table_text cs))) found
    ∙ ap (rows_in n) (drop-append_seam (row_text c) (table_text cs))
    ∙ rows_again n cs (omega arith) (rest_sound c cs e) in
    λ i. found i ∷ others i
