-- The image of a class table (document 02, M-108): a number, how many rows are used, then 26 rows of three numbers: letter, low
-- and high volts. Every image means a table: without rows the built-in classes; more than 26 rows count as 26; and an image of
-- another size as one of zeros.
-- Assumes nothing.
use Rattle.std.specs.Prelude.{List, [], ◌∷◌, ℕ, zero, suc, ◌+◌, ◌*◌, min, eqb, length}
use Rattle.outcome.specs.Answer.{pick}
use Rattle.words.specs.Words.{word_at}
use Rattle.profile.specs.Rules.{◌to◌, Class, class, classes}

abbrev pub most_rows : ℕ
most_rows = 26

abbrev pub row_size : ℕ
row_size = 12

-- a number, and the rows
abbrev pub table_size : ℕ
table_size = 4 + row_size * most_rows

-- how many rows are used
unfoldable pub rows_used : List ℕ → ℕ
rows_used image = pick (eqb (length image) table_size) (min (word_at image 0) most_rows) 0

-- the row at a place
abbrev pub row_at : List ℕ → ℕ → Class
row_at image at = class (word_at image at) (word_at image (at + 4) to word_at image (at + 8))

-- so many rows, from row i on
unfoldable pub rows_from : List ℕ → ℕ → ℕ → List Class
rows_from image i zero = []
rows_from image i (suc n) = row_at image (4 + row_size * i) ∷ rows_from image (suc i) n

-- the classes that an image means
unfoldable pub table_of : List ℕ → List Class
table_of image = pick (eqb (rows_used image) 0) classes (rows_from image 0 (rows_used image))
