-- What the functions over images answer, under the class table that an image means: the checks in the order in which they
-- refuse, and the final content of what was lent (document 01, table "Returned" and the paragraph after it; document 02,
-- M-108, for the table).
-- Assumes nothing.
use Rattle.std.specs.Prelude.{List, [], ◌∷◌, ℕ, eqb, length}
use Rattle.outcome.specs.Answer.{bad_size, Check, ◌unless◌, Answers, AnswersFront}
use Rattle.profile.specs.declared.Profile.{Profile}
use Rattle.outcome.specs.Result.{Result, Ok, Err, refusal_in}
use Rattle.profile.specs.Rules.{Class}
use Rattle.profile.specs.Table.{table_size, table_of}
use Rattle.profile.specs.Line.{line_of, read_line, write_checks}
use Rattle.image.specs.Image.{profile_size, profile_of, image_of}

-- ---- reading a line

-- the images' sizes; then the line's size and rules, as `read_line` has them
abbrev pub read_image_checks : List ℕ → List ℕ → List ℕ → List Check
read_image_checks table line image =
    bad_size unless eqb (length table) table_size
    ∷ bad_size unless eqb (length image) profile_size
    ∷ refusal_in (read_line (table_of table) line)

-- the image of what was read, where something was
abbrev pub image_in : Result Profile → List ℕ
image_in (Ok p) = image_of p
image_in (Err r) = []

pub record ReadsImage (table line old : List ℕ) (answer : ℕ) (image : List ℕ) : Type 0 where
  pub answers : Answers (read_image_checks table line old) (image_in (read_line (table_of table) line)) old answer image

-- ---- writing a line

-- the line of a profile
abbrev pub WritesProfileLine : List Class → Profile → List ℕ → ℕ → ℕ → List ℕ → ℕ → Type 0
WritesProfileLine table p old = AnswersFront (write_checks table p old) (line_of p) old

-- the line of the profile that an image means; its first byte is not looked at
abbrev pub write_image_checks : List ℕ → List ℕ → List ℕ → List Check
write_image_checks table image old =
    bad_size unless eqb (length table) table_size
    ∷ bad_size unless eqb (length image) profile_size
    ∷ write_checks (table_of table) (profile_of image) old

abbrev pub WritesImage : List ℕ → List ℕ → List ℕ → ℕ → ℕ → List ℕ → ℕ → Type 0
WritesImage table image old = AnswersFront (write_image_checks table image old) (line_of (profile_of image)) old
