-- The customer's own class table (document 02, M-108): its file, its image, and loading it into a store.
-- A file is read as a line is: `rows_in` takes the rows from where a file has them, and they are accepted only where they
-- are sound and the file is their very text.
-- Assumes nothing.
use Rattle.std.specs.Prelude.{Bool, true, false, ◌&&◌, List, [], ◌∷◌, ◌++◌, ℕ, zero, suc, ◌-◌, ◌*◌, eqb, leb, ltb, length, get_or, take, drop, replicate}
use Rattle.outcome.specs.Answer.{bad_size, bad_table, store_in_use, Check, ◌unless◌, Answers}
use Rattle.outcome.specs.Lists.{same}
use Rattle.outcome.specs.Result.{Result, Ok, Err, answer, refusal_in}
use Rattle.decimal.specs.Decimal.{decimal, leading_number, after_number}
use Rattle.words.specs.Words.{word}
use Rattle.profile.specs.declared.Profile.{Profile}
use Rattle.profile.specs.Rules.{◌to◌, contains, low, high, letters, Class, class}
use Rattle.profile.specs.Table.{most_rows, row_size, table_size}
use Rattle.profile.specs.Line.{comma, line_feed}
use Rattle.store.specs.Stored.{slots_size, store_size, stored}

-- ---- the rules

-- a row by itself: a letter A to Z; low at most high, both within 100 to 1000
abbrev pub sound_row : Class → Bool
sound_row c =
    contains letters c.letter
    && (leb 100 (low c.volts) && (leb (low c.volts) (high c.volts) && leb (high c.volts) 1000))

-- a row after another: the letter rises, and low is above the high before it
abbrev pub follows : Class → Class → Bool
follows before c = ltb before.letter c.letter && ltb (high before.volts) (low c.volts)

unfoldable pub sound_rows : List Class → Bool
sound_rows [] = true
sound_rows (c ∷ []) = sound_row c
sound_rows (c ∷ d ∷ cs) = sound_row c && (follows c d && sound_rows (d ∷ cs))

-- 1 to 26 rows
abbrev pub sound_table : List Class → Bool
sound_table rows = contains (1 to most_rows) (length rows) && sound_rows rows

-- ---- the file

-- letter, low and high, parted by commas and ended by LF
unfoldable pub row_text : Class → List ℕ
row_text c =
    c.letter ∷ comma ∷ (decimal (low c.volts) ++ (comma ∷ (decimal (high c.volts) ++ (line_feed ∷ []))))

unfoldable pub table_text : List Class → List ℕ
table_text [] = []
table_text (c ∷ cs) = row_text c ++ table_text cs

-- the row that stands where some bytes begin; whether it is one is not looked at
unfoldable pub row_in : List ℕ → Class
row_in bytes =
    class (get_or bytes 0 0)
    (leading_number (drop 2 bytes) to leading_number (drop 1 (after_number (drop 2 bytes))))

-- at most n rows, each behind the text of the one before it
unfoldable pub rows_in : ℕ → List ℕ → List Class
rows_in zero bytes = []
rows_in (suc n) [] = []
rows_in (suc n) (b ∷ bytes) =
    row_in (b ∷ bytes) ∷ rows_in n (drop (length (row_text (row_in (b ∷ bytes)))) (b ∷ bytes))

-- the rules, for what was found; and the file is the text of what was found
abbrev pub read_table_checks : List ℕ → List Check
read_table_checks file =
    bad_table unless sound_table (rows_in most_rows file)
    ∷ bad_table unless same (table_text (rows_in most_rows file)) file
    ∷ []

unfoldable pub read_table : List ℕ → Result (List Class)
read_table file = answer (read_table_checks file) (rows_in most_rows file)

-- ---- the image

unfoldable pub rows_image : List Class → List ℕ
rows_image [] = []
rows_image (c ∷ cs) = word c.letter ++ (word (low c.volts) ++ (word (high c.volts) ++ rows_image cs))

-- how many rows, the rows, and zeros for those that are not used
unfoldable pub table_image : List Class → List ℕ
table_image rows =
    word (length rows) ++ (rows_image rows ++ replicate (row_size * (most_rows - length rows)) 0)

-- of what was read, where something was
abbrev pub image_in : Result (List Class) → List ℕ
image_in (Ok rows) = table_image rows
image_in (Err r) = []

-- ---- the entries

-- reading a file into an image
abbrev pub read_image_checks : List ℕ → List ℕ → List Check
read_image_checks file image = bad_size unless eqb (length image) table_size ∷ refusal_in (read_table file)

abbrev pub ReadsTable : List ℕ → List ℕ → ℕ → List ℕ → Type 0
ReadsTable file old = Answers (read_image_checks file old) (image_in (read_table file)) old

abbrev pub is_empty : List Profile → Bool
is_empty [] = true
is_empty (p ∷ ps) = false

-- loading a file into a store: the size of the store's image; the file; and nothing may be stored
abbrev pub load_table_checks : List ℕ → List ℕ → List Check
load_table_checks file old =
    bad_size unless eqb (length old) store_size
    ∷ (refusal_in (read_table file) ++ (store_in_use unless is_empty (stored old) ∷ []))

-- another table behind the slots, which are as they were
abbrev pub with_table : List ℕ → List ℕ → List ℕ
with_table image old = take slots_size old ++ image

abbrev pub LoadsTable : List ℕ → List ℕ → ℕ → List ℕ → Type 0
LoadsTable file old = Answers (load_table_checks file old) (with_table (image_in (read_table file)) old) old
