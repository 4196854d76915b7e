-- Evaluating a line (document 02, M-107): a line whose limits are formulas gives the plain line. Under the class table that
-- an image means (M-108).
-- Assumes nothing.
use Rattle.std.specs.Prelude.{Bool, true, false, List, [], ◌∷◌, ◌++◌, ℕ, suc, eqb, leb, length, ℤ, pos, negsuc}
use Rattle.outcome.specs.Answer.{bad_size, bad_profile, Check, ◌unless◌, pick, AnswersFront}
use Rattle.outcome.specs.Result.{Result, Ok, Err, refusal_in}
use Rattle.decimal.specs.Decimal.{decimal}
use Rattle.formula.specs.Reader.{value_of}
use Rattle.profile.specs.declared.Profile.{Profile}
use Rattle.profile.specs.Rules.{Class, ◌to◌, in_one_of}
use Rattle.profile.specs.Table.{table_size, table_of}
use Rattle.profile.specs.Line.{comma, minus, line_feed, longest, read_line}

-- the greatest length of an input
abbrev pub longest_input : ℕ
longest_input = 400

-- the first LF is the last byte
unfoldable pub is_closed : List ℕ → Bool
is_closed [] = false
is_closed (b ∷ bytes) = pick (eqb b line_feed) (eqb (length bytes) 0) (is_closed bytes)

-- ---- fields

-- a byte more at the front of the first field
abbrev pub longer : ℕ → List (List ℕ) → List (List ℕ)
longer b [] = (b ∷ []) ∷ []
longer b (f ∷ fs) = (b ∷ f) ∷ fs

-- cut at the commas; the LF stays with the last field
unfoldable pub fields : List ℕ → List (List ℕ)
fields [] = [] ∷ []
fields (b ∷ bytes) = pick (eqb b comma) ([] ∷ fields bytes) (longer b (fields bytes))

-- over-voltage, under-voltage, over-frequency, under-frequency and rate, of the fields counted from 0
abbrev pub is_limit : ℕ → Bool
is_limit k = in_one_of (6 to 6 ∷ 8 to 8 ∷ 10 to 10 ∷ 12 to 12 ∷ 14 to 14 ∷ []) k

-- ---- numbers in place of the limits

-- a whole number in decimal
abbrev pub numeral : ℤ → List ℕ
numeral (pos n) = decimal n
numeral (negsuc n) = minus ∷ decimal (suc n)

abbrev pub numeral_in : Result ℤ → Result (List ℕ)
numeral_in (Ok z) = Ok (numeral z)
numeral_in (Err r) = Err r

-- in the place of field k: of a limit the number that `value` has for it, of any other field what it is
abbrev pub field_text : (ℕ → List ℕ → Result ℤ) → ℕ → List ℕ → Result (List ℕ)
field_text value k f = pick (is_limit k) (numeral_in (value k f)) (Ok f)

-- two texts with a comma between; the first refusal decides
abbrev pub joined : Result (List ℕ) → Result (List ℕ) → Result (List ℕ)
joined (Ok x) (Ok y) = Ok (x ++ (comma ∷ y))
joined (Ok x) (Err r) = Err r
joined (Err r) y = Err r

-- the fields from number k on, with a number in place of each limit
unfoldable pub text_from : (ℕ → List ℕ → Result ℤ) → ℕ → List (List ℕ) → Result (List ℕ)
text_from value k [] = Ok []
text_from value k (f ∷ []) = field_text value k f
text_from value k (f ∷ g ∷ fs) = joined (field_text value k f) (text_from value (suc k) (g ∷ fs))

-- a limit that every line may have as its field k
abbrev pub sound_limit : ℕ → ℤ
sound_limit k =
    pick (eqb k 6) (pos 1001) (pick (eqb k 8) (pos 1) (pick (eqb k 10) (pos 1) (pick (eqb k 12) (negsuc 0) (pos 100))))

-- the line with sound limits: it reads exactly where all that is not a limit is right
unfoldable pub sound_text : List ℕ → Result (List ℕ)
sound_text input = text_from (λ k f. Ok (sound_limit k)) 0 (fields input)

-- the line with each limit worked out at these nominal volts, or the first refusal of a formula from the left
unfoldable pub plain_text : ℕ → List ℕ → Result (List ℕ)
plain_text volts input = text_from (λ k f. value_of volts f) 0 (fields input)

-- ---- the entry

abbrev pub text_in : Result (List ℕ) → List ℕ
text_in (Ok text) = text
text_in (Err r) = []

abbrev pub is_read : Result Profile → Bool
is_read (Ok p) = true
is_read (Err r) = false

abbrev pub volts_in : Result Profile → ℕ
volts_in (Ok p) = p.volts
volts_in (Err r) = 0

-- what is read of the line with sound limits
abbrev pub frame : List Class → List ℕ → Result Profile
frame table input = read_line table (text_in (sound_text input))

-- the plain line, at the nominal volts of the line
abbrev pub plain_line : List Class → List ℕ → Result (List ℕ)
plain_line table input = plain_text (volts_in (frame table input)) input

-- the finished text must be a line
abbrev pub finished_checks : List Class → List ℕ → List Check
finished_checks table text = bad_profile unless is_read (read_line table text) ∷ []

-- the formulas from the left, then the finished text
abbrev pub plain_checks : List Class → Result (List ℕ) → List Check
plain_checks table plain = refusal_in plain ++ finished_checks table (text_in plain)

-- the sizes; the closing LF; all that is not a limit; the formulas; the finished line
abbrev pub evaluate_checks : List ℕ → List ℕ → List ℕ → List Check
evaluate_checks table input lent =
    bad_size unless eqb (length table) table_size
    ∷ bad_size unless leb (length input) longest_input
    ∷ bad_size unless eqb (length lent) longest
    ∷ bad_profile unless is_closed input
    ∷ bad_profile unless is_read (frame (table_of table) input)
    ∷ plain_checks (table_of table) (plain_line (table_of table) input)

-- what `evaluate_line` promises: the plain line at the front of the lent bytes
abbrev pub EvaluatesLine : List ℕ → List ℕ → List ℕ → ℕ → ℕ → List ℕ → ℕ → Type 0
EvaluatesLine table input old before number lent after =
    AnswersFront (evaluate_checks table input old) (text_in (plain_line (table_of table) input)) old before number lent after
