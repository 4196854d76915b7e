-- What a device would hold, listed before anything is signed (document 01, "Profile line, package, shelf", the preview
-- program; document 02, M-104, for the hertz, M-106, for the order of the rows, and M-108, for the class table).
-- Assumes nothing.
use Rattle.std.specs.Prelude.{◌≡◌, Option, None, Some, List, [], ◌∷◌, ◌++◌, ℕ, ◌-◌, ◌*◌, ◌≤◌, ◌<◌, eqb, ltb, length, take, drop}
use Rattle.outcome.specs.Answer.{bad_size, Check, ◌unless◌, pick, AnswersFront}
use Rattle.decimal.specs.Decimal.{decimal}
use Rattle.profile.specs.declared.Profile.{Profile}
use Rattle.outcome.specs.Result.{Result, Ok, Err, answer, number_in}
use Rattle.profile.specs.Rules.{Class}
use Rattle.profile.specs.Table.{table_size, table_of}
use Rattle.profile.specs.Line.{comma, line_feed, read_line}
use Rattle.store.specs.declared.Device.{Device}
use Rattle.store.specs.Stored.{capacity, Distinct}
use Rattle.store.specs.Calls.{Perm}
use Rattle.store.specs.Reached.{Call, AllValid, model}
use Rattle.order.specs.Order.{in_order, Ascending}

-- ---- the input

-- the length of the longest input that is looked at
abbrev pub longest_input : ℕ
longest_input = 65536

-- some bytes cut after each LF, `line` being what stands before them since the last one; what no LF ends is dropped
unfoldable pub cut_after : List ℕ → List ℕ → List (List ℕ)
cut_after line [] = []
cut_after line (b ∷ bs) =
    let longer : List ℕ = line ++ (b ∷ []) in
    pick (eqb b line_feed) (longer ∷ cut_after [] bs) (cut_after longer bs)

abbrev pub cut : List ℕ → List (List ℕ)
cut bytes = cut_after [] bytes

-- the line that starts at a place of the input ends just before `end`
pub record LineAt (input : List ℕ) (at end : ℕ) : Type 0 where
  pub start : at < end
  pub within : end ≤ length input
  pub line : cut (drop at input) ≡ take (end - at) (drop at input) ∷ cut (drop end input)

-- there it ends, or no LF ends it
abbrev pub LineFound : List ℕ → ℕ → Option ℕ → Type 0
LineFound input at (Some end) = LineAt input at end
LineFound input at None = cut (drop at input) ≡ []

-- ---- what is stored

-- a device that is set to a profile's own country, class and hertz
abbrev pub own_device : Profile → Device
own_device p = record { country = p.country; class = p.class; hertz = p.hertz }

-- a line that is read as a profile is stored, as if signed, on such a device; a refused one is not
abbrev pub calls_of : Result Profile → List Call
calls_of (Ok p) = record { device = own_device p; profile = p } ∷ []
calls_of (Err r) = []

unfoldable pub calls_in : List Class → List (List ℕ) → List Call
calls_in table [] = []
calls_in table (line ∷ lines) = calls_of (read_line table line) ++ calls_in table lines

-- the profiles that the lines of the input, stored in their order, leave in a store that was empty: `model` of crate
-- store goes from line to line and takes in what `put` answers with 0
abbrev pub shown : List Class → List ℕ → List Profile
shown table input = model [] (calls_in table (cut input))

-- no key twice, and no more profiles than a store holds (the proof stands in proofs/EntryLaws.antt)
abbrev pub ShownOnce : List Class → Type 0
ShownOnce table = (input : List ℕ) → Distinct (shown table input) × (length (shown table input) ≤ capacity)

-- ---- the listing

-- `COUNTRY,CLASS,HERTZ,SERIAL` and LF
abbrev pub header : List ℕ
header =
    67 ∷ 79 ∷ 85 ∷ 78 ∷ 84 ∷ 82 ∷ 89 ∷ 44
    ∷ 67 ∷ 76 ∷ 65 ∷ 83 ∷ 83 ∷ 44
    ∷ 72 ∷ 69 ∷ 82 ∷ 84 ∷ 90 ∷ 44
    ∷ 83 ∷ 69 ∷ 82 ∷ 73 ∷ 65 ∷ 76 ∷ 10 ∷ []

-- `too long` and LF
abbrev pub too_long : List ℕ
too_long = 116 ∷ 111 ∷ 111 ∷ 32 ∷ 108 ∷ 111 ∷ 110 ∷ 103 ∷ 10 ∷ []

-- country, class and hertz, with a comma after each
abbrev pub key_bytes : Profile → List ℕ
key_bytes p =
    p.country.first ∷ p.country.second ∷ comma
    ∷ p.class ∷ comma
    ∷ (decimal p.hertz ++ (comma ∷ []))

-- then the serial and LF
unfoldable pub row : Profile → List ℕ
row p = key_bytes p ++ (decimal p.serial ++ (line_feed ∷ []))

unfoldable pub rows : List Profile → List ℕ
rows [] = []
rows (p ∷ ps) = row p ++ rows ps

-- no row of a valid profile is longer: its hertz have two digits, and a serial has at most ten
abbrev pub longest_row : ℕ
longest_row = 19

-- so that the rows of a store that calls reach have room (the proof stands in proofs/RowLaws.antt)
abbrev pub RowsFit : List Class → Type 0
RowsFit table = (ps : List Profile) → AllValid table ps → length (rows ps) ≤ longest_row * length ps

-- The text that shows an input: the header and a row for each profile, by country, class and hertz (crate order); or
-- that the input is too long.
unfoldable pub listing : List Class → List ℕ → List ℕ
listing table input = pick (ltb longest_input (length input)) too_long (header ++ rows (in_order (shown table input)))

-- the rows are those of the stored profiles, each once and each before all later ones (the proofs of this and of the
-- next stand in proofs/EntryLaws.antt)
abbrev pub RowsAscend : List Class → Type 0
RowsAscend table =
    (input : List ℕ) → Perm (in_order (shown table input)) (shown table input) × Ascending (in_order (shown table input))

-- the same paper: inputs that store the same profiles, in whatever order their lines come, have the same listing
abbrev pub SameListing : List Class → Type 0
SameListing table =
    (a b : List ℕ) → length a ≤ longest_input → length b ≤ longest_input → Perm (shown table a) (shown table b)
    → listing table a ≡ listing table b

-- ---- the answer

-- how many bytes are lent: the header and as many rows as a store has slots have room
abbrev pub lent_size : ℕ
lent_size = 331

-- the sizes of the table's image and of what is lent
abbrev pub preview_checks : List ℕ → List ℕ → List Check
preview_checks table lent = bad_size unless eqb (length table) table_size ∷ bad_size unless eqb (length lent) lent_size ∷ []

-- The answer is the length of the listing, which stands at the front of the lent bytes. Past it they are as they were,
-- and after a refusal all of them are.
pub record Previews (table input old : List ℕ) (r : Result ℕ) (lent : List ℕ) : Type 0 where
  pub answered : r ≡ answer (preview_checks table old) (length (listing (table_of table) input))
  pub content : lent
      ≡ pick (eqb (number_in r) 0)
      (listing (table_of table) input ++ drop (length (listing (table_of table) input)) old) old

-- the same with a number for an answer, and the length in a number that is lent
abbrev pub PreviewsTo : List ℕ → List ℕ → List ℕ → ℕ → ℕ → List ℕ → ℕ → Type 0
PreviewsTo table input old = AnswersFront (preview_checks table old) (listing (table_of table) input) old
