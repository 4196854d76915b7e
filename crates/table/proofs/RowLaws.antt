-- A file is read row after row as it is read whole. Assumes nothing.
use mathlib.Core.Path.{◌≡◌, refl, ◌∙◌, sym, ap}
use mathlib.Core.Bool.{Bool, true, false, false≢true, ◌&&◌, and_assoc, and-true, and-false}
use mathlib.Core.List.{List, [], ◌∷◌, ◌++◌}
use Prim.Native.Nat.{ℕ, zero, suc, ◌≤◌}
use native.Mathlib.Omega.{arith}
use lib.Dec.{leb, ltb, eqb}
use lib.ListN.{length, take, drop}
use borrow.Author.Tests.{le-leb, leb-true, lt-ltb, ltb-true}
use Rattle.outcome.specs.Answer.{bad_table, pick}
use Rattle.outcome.specs.Lists.{same}
use Rattle.outcome.specs.Result.{Result, Ok, Err}
use Rattle.profile.specs.Rules.{◌to◌, contains, letters, Class, low, high}
use Rattle.profile.specs.Table.{most_rows}
use Rattle.profile.proofs.RuleLaws.{and_first, and_rest, inside}
use Rattle.table.specs.File.{sound_row, follows, sound_rows, sound_table, row_text, table_text, row_in, rows_in, read_table}
use Rattle.table.specs.InnerRows.{before_all, fits_after, begins, and_then, rows_after}

-- ---- the rules, row after row

-- each row fits behind the one before it
unfoldable pub following : Class → List Class → Bool
following before [] = true
following before (c ∷ cs) = fits_after before c && following c cs

-- what a row must be for the rows behind it to be sound
abbrev Begun : Class → Type 0
Begun c = (64 ≤ c.letter) × (99 ≤ high c.volts)

-- what the place of a row gives
placed : (before c : Class) → Begun before → follows before c ≡ true → (65 ≤ c.letter) × (100 ≤ low c.volts)
placed before c begun e =
    let rises = ltb before.letter c.letter in
    let letter = ltb-true before.letter c.letter (and_first rises _ e) in
    let above = ltb-true (high before.volts) (low c.volts) (and_rest rises _ e) in
    (omega arith, omega arith)

-- so that the other rules are all that is left
row_fits : (before c : Class) → Begun before → (follows before c && sound_row c) ≡ fits_after before c
row_fits before c begun = go (follows before c) refl
  where
    go : (b : Bool) → follows before c ≡ b → (b && sound_row c)
        ≡ (b && (leb c.letter 90 && (leb (low c.volts) (high c.volts) && leb (high c.volts) 1000)))
    go false e = refl
    go true e =
        let p = placed before c begun e in
        rw (le-leb 65 c.letter p.0, le-leb 100 (low c.volts) p.1)

-- the bounds of a sound row
pub record Bounds (c : Class) : Type 0 where
  pub first : 65 ≤ c.letter
  pub last : c.letter ≤ 90
  pub least : 100 ≤ low c.volts
  pub ordered : low c.volts ≤ high c.volts
  pub most : high c.volts ≤ 1000

pub bounds : (c : Class) → sound_row c ≡ true → Bounds c
bounds c e =
    let letter = and_first (contains letters c.letter) _ e in
    let volts = and_rest (contains letters c.letter) _ e in
    let range = and_rest (leb 100 (low c.volts)) _ volts in
    record {
      first = leb-true 65 c.letter (and_first (leb 65 c.letter) _ letter);
      last = leb-true c.letter 90 (and_rest (leb 65 c.letter) _ letter);
      least = leb-true 100 (low c.volts) (and_first (leb 100 (low c.volts)) _ volts);
      ordered = leb-true (low c.volts) (high c.volts) (and_first (leb (low c.volts) (high c.volts)) _ range);
      most = leb-true (high c.volts) 1000 (and_rest (leb (low c.volts) (high c.volts)) _ range);
    }

begun_row : (c : Class) → sound_row c ≡ true → Begun c
begun_row c e = let b = bounds c e in (omega arith, omega arith)

only : (a x y : Bool) → (a ≡ true → x ≡ y) → (a && x) ≡ (a && y)
only true x y h = h refl
only false x y h = refl

implied : (a x : Bool) → (x ≡ true → a ≡ true) → x ≡ (a && x)
implied a true h = sym (h refl) ∙ sym (and-true a)
implied a false h = sym (and-false a)

-- rows are sound where each fits behind the one before it
sound_after : (before : Class) → Begun before → (c : Class) (cs : List Class)
    → (follows before c && sound_rows (c ∷ cs)) ≡ following before (c ∷ cs)
unfolding sound_rows following
sound_after before begun c [] = row_fits before c begun ∙ sym (and-true (fits_after before c))
sound_after before begun c (d ∷ cs) =
    let fits = row_fits before c begun in
    let rest = follows c d && sound_rows (d ∷ cs) in
    sym (and_assoc (follows before c) (sound_row c) rest)
    ∙ ap (λ (b : Bool). b && rest) fits
    ∙ only (fits_after before c) rest (following c (d ∷ cs))
    (λ e. sound_after c (begun_row c (and_rest (follows before c) (sound_row c) (fits ∙ e))) d cs)

pub first_sound : (c : Class) (cs : List Class) → sound_rows (c ∷ cs) ≡ true → sound_row c ≡ true
unfolding sound_rows
first_sound c [] e = e
first_sound c (d ∷ cs) e = and_first (sound_row c) _ e

first_follows : (c : Class) → sound_row c ≡ true → follows before_all c ≡ true
first_follows c e =
    let b = bounds c e in
    rw (lt-ltb 64 c.letter (omega arith)) (lt-ltb 99 (low c.volts) (omega arith))

sound_rows_lem : (rows : List Class) → sound_rows rows ≡ following before_all rows
unfolding sound_rows following
sound_rows_lem [] = refl
sound_rows_lem (c ∷ cs) =
    implied (follows before_all c) (sound_rows (c ∷ cs)) (λ e. first_follows c (first_sound c cs e))
    ∙ sound_after before_all (omega arith, omega arith) c cs

-- how many rows a sound table has, and that they are sound
pub sized : (rows : List Class) → sound_table rows ≡ true → (1 ≤ length rows) × (length rows ≤ most_rows)
sized rows e =
    let count = and_first (contains (1 to most_rows) (length rows)) _ e in (
      leb-true 1 (length rows) (and_first (leb 1 (length rows)) _ count),
      leb-true (length rows) most_rows (and_rest (leb 1 (length rows)) _ count),
    )

pub rows_sound : (rows : List Class) → sound_table rows ≡ true → sound_rows rows ≡ true
rows_sound rows e = and_rest (contains (1 to most_rows) (length rows)) _ e

-- ---- the text, row after row

same_append : (xs ys zs : List ℕ) → same (xs ++ ys) zs ≡ (same xs (take (length xs) zs) && same ys (drop (length xs) zs))
unfolding same
same_append [] ys zs = refl
same_append (x ∷ xs) ys [] = refl
same_append (x ∷ xs) ys (z ∷ zs) =
    first (eqb x z) _ (same xs (take (length xs) zs)) (same ys (drop (length xs) zs)) (same_append xs ys zs)
  where
    first : (b p q r : Bool) → p ≡ (q && r) → pick b p false ≡ (pick b q false && r)
    first true p q r e = e
    first false p q r e = refl

-- the tests of a row and those of the rows behind it
together : (fit text fits texts : Bool) (c : Class) (cs : List Class)
    → pick (fit && text) (and_then c (pick (fits && texts) (Ok cs) (Err bad_table))) (Err bad_table)
    ≡ pick ((fit && fits) && (text && texts)) (Ok (c ∷ cs)) (Err bad_table)
together false text fits texts c cs = refl
together true false true texts c cs = refl
together true false false texts c cs = refl
together true true true true c cs = refl
together true true true false c cs = refl
together true true false texts c cs = refl

row_after_row : (n : ℕ) (before : Class) (bytes : List ℕ)
    → rows_after n before bytes
    ≡ pick (following before (rows_in n bytes) && same (table_text (rows_in n bytes)) bytes) (Ok (rows_in n bytes))
    (Err bad_table)
unfolding rows_after following rows_in table_text same begins
row_after_row zero before [] = refl
row_after_row zero before (b ∷ bytes) = refl
row_after_row (suc n) before [] = refl
row_after_row (suc n) before (b ∷ bytes) =
    let here : List ℕ = b ∷ bytes in
    let c : Class = row_in here in
    let text : List ℕ = row_text c in
    let later : List ℕ = drop (length text) here in
    let cs : List Class = rows_in n later in
    let fit = fits_after before c in
    let fits = following c cs in
    let first = same text (take (length text) here) in
    ap (λ (r : Result (List Class)). pick (fit && first) (and_then c r) (Err bad_table)) (row_after_row n c later)
    ∙ together fit first fits (same (table_text cs) later) c cs
    ∙ ap (λ (b : Bool). pick ((fit && fits) && b) (Ok (c ∷ cs)) (Err bad_table))
    (sym (same_append text (table_text cs) here))

few_rows : (n : ℕ) (bytes : List ℕ) → length (rows_in n bytes) ≤ n
unfolding rows_in
few_rows zero bytes = omega arith
few_rows (suc n) [] = omega arith
few_rows (suc n) (b ∷ bytes) =
    let here : List ℕ = b ∷ bytes in
    omega (arith, few_rows n (drop (length (row_text (row_in here))) here))

some_row : (n b : ℕ) (bytes : List ℕ) → 1 ≤ length (rows_in (suc n) (b ∷ bytes))
unfolding rows_in
some_row n b bytes = omega arith

-- ---- a file with a byte

one_test : {A : Type 0} (sized sound again : Bool) (a b : A) → sized ≡ true
    → pick (sized && sound) (pick again a b) b ≡ pick (sound && again) a b
one_test true true again a b e = refl
one_test true false again a b e = refl
one_test false sound again a b e = absurd (false≢true e)

pub whole_file : (b : ℕ) (bytes : List ℕ) → read_table (b ∷ bytes) ≡ rows_after most_rows before_all (b ∷ bytes)
unfolding read_table
whole_file b bytes =
    let file : List ℕ = b ∷ bytes in
    let rows : List Class = rows_in most_rows file in
    let again = same (table_text rows) file in
    one_test (contains (1 to most_rows) (length rows)) (sound_rows rows) again (Ok rows) (Err bad_table)
    (inside 1 most_rows (length rows) (some_row 25 b bytes) (few_rows most_rows file))
    ∙ ap (λ (s : Bool). pick (s && again) (Ok rows) (Err bad_table)) (sound_rows_lem rows)
    ∙ sym (row_after_row most_rows before_all file)

pub empty_file : read_table [] ≡ Err bad_table
unfolding read_table rows_in
empty_file = refl
