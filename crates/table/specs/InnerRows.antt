-- What the functions promise that read a table's file row after row. No contract of an entry cites it.
-- Assumes nothing.
use Rattle.std.specs.Prelude.{◌≡◌, Bool, ◌&&◌, List, [], ◌∷◌, ℕ, zero, suc, leb, length, take, drop}
use Rattle.outcome.specs.Answer.{bad_table, pick}
use Rattle.outcome.specs.Lists.{same}
use Rattle.outcome.specs.Result.{Result, Ok, Err, number_in}
use Rattle.profile.specs.Rules.{◌to◌, low, high, Class, class}
use Rattle.table.specs.declared.file.Row.{Row}
use Rattle.table.specs.File.{follows, row_text, row_in, read_table, table_image}

-- the class that a row of the code means
abbrev pub row_of : Row → Class
row_of r = class r.letter (r.low to r.high)

-- what stands before the first row: every sound row follows it
abbrev pub before_all : Class
before_all = class 64 (0 to 99)

-- a row is sound and may stand here: the rules that its place does not give
abbrev pub fits_after : Class → Class → Bool
fits_after before c =
    follows before c
    && (leb c.letter 90 && (leb (low c.volts) (high c.volts) && leb (high c.volts) 1000))

-- some bytes begin with the text of the row
unfoldable pub begins : Class → List ℕ → Bool
begins c bytes = same (row_text c) (take (length (row_text c)) bytes)

abbrev pub and_then : Class → Result (List Class) → Result (List Class)
and_then c (Ok cs) = Ok (c ∷ cs)
and_then c (Err r) = Err r

-- the rows of a file from here on, where n more have room
unfoldable pub rows_after : ℕ → Class → List ℕ → Result (List Class)
rows_after zero before [] = Ok []
rows_after zero before (b ∷ bytes) = Err bad_table
rows_after (suc n) before [] = Ok []
rows_after (suc n) before (b ∷ bytes) =
    let c : Class = row_in (b ∷ bytes) in
    pick (fits_after before c && begins c (b ∷ bytes))
    (and_then c (rows_after n c (drop (length (row_text c)) (b ∷ bytes))))
    (Err bad_table)

-- what `read_rows` answers: the refusal of a file that is not read, and else the image of its rows
pub record RowsRead (file : List ℕ) (number : ℕ) (image : List ℕ) : Type 0 where
  pub answer : number ≡ number_in (read_table file)
  pub content : (rows : List Class) → read_table file ≡ Ok rows → image ≡ table_image rows
