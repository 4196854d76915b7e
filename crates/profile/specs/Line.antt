-- The line of a profile, and reading it back (document 01, "Profile line, package, shelf"; document 02, M-101, for the second
-- kind of line).
-- `line_of` says what a line is. `read_line` takes the numbers from where a line has them, and accepts them only where the line
-- of what it found is the very line that it was given: nothing but the one spelling of a profile is read.
-- Assumes nothing.
use Rattle.std.specs.Prelude.{◌≡◌, List, [], ◌∷◌, ◌++◌, ℕ, suc, eqb, length, get_or, take, drop}
use Rattle.outcome.specs.Answer.{bad_size, bad_profile, Check, ◌unless◌, pick}
use Rattle.outcome.specs.Lists.{same}
use Rattle.decimal.specs.Decimal.{decimal, leading_number, after_number}
use Rattle.profile.specs.declared.Limit.{Limit}
use Rattle.profile.specs.declared.Limit.TheVariants.{Share, Offset, Rate}
use Rattle.profile.specs.declared.Trip.{Trip}
use Rattle.profile.specs.Rules.{RatePoint}
use Rattle.std.specs.Prelude.{None, Some}
use Rattle.profile.specs.declared.Profile.{Profile}
use Rattle.outcome.specs.Result.{Result, answer, number_in}
use Rattle.profile.specs.declared.rules.Kind.{Kind}
use Rattle.profile.specs.Table.{table_of}
use Rattle.profile.specs.Rules.{◌to◌, contains, share, above, below, rate, same_kind, Field, fields_of, LineKind, GP1, GP2, line_kind, Rule, rules, Class, valid}

-- ---- the line of a profile

-- `GP1,` or `GP2,`
abbrev pub digit : LineKind → ℕ
digit GP1 = 49
digit GP2 = 50

abbrev pub tag : LineKind → List ℕ
tag kind = 71 ∷ 80 ∷ digit kind ∷ 44 ∷ []

abbrev pub comma : ℕ
comma = 44

abbrev pub minus : ℕ
minus = 45

abbrev pub line_feed : ℕ
line_feed = 10

-- the lengths of lines, of either kind
abbrev pub shortest : ℕ
shortest = 42

abbrev pub longest : ℕ
longest = 84

-- what stands before a field's digits: a comma, and a minus only where the number is negative
abbrev pub lead : Kind → List ℕ
lead kind = comma ∷ pick (same_kind kind below) (minus ∷ []) []

-- a field of this kind with this number; several, one after the other
unfoldable pub field_bytes : Kind → ℕ → List ℕ
field_bytes kind size = lead kind ++ decimal size

unfoldable pub written : List Field → List ℕ
written [] = []
written (f ∷ fs) = field_bytes f.kind f.size ++ written fs

-- tag, country, class
abbrev pub head_of : Profile → List ℕ
head_of p = tag (line_kind p) ++ (p.country.first ∷ p.country.second ∷ comma ∷ p.class ∷ [])

-- then the fields, and LF
unfoldable pub line_of : Profile → List ℕ
line_of p = head_of p ++ (written (fields_of p) ++ (line_feed ∷ []))

-- ---- reading

-- the number of a field of this kind with which some bytes begin (0 where there is none), and what follows it
unfoldable pub field_number : Kind → List ℕ → ℕ
field_number kind bytes = leading_number (drop (length (lead kind)) bytes)

unfoldable pub after_field : Kind → List ℕ → List ℕ
after_field kind bytes = after_number (drop (length (lead kind)) bytes)

-- the numbers of the fields that some rules speak of, one after the other
unfoldable pub numbers_in : List Rule → List ℕ → List ℕ
numbers_in [] bytes = []
numbers_in (r ∷ rs) bytes = field_number r.kind bytes ∷ numbers_in rs (after_field r.kind bytes)

-- the limit that a field of this kind means
abbrev pub limit_of : Kind → ℕ → Limit
limit_of kind n =
    pick (same_kind kind share) (Share n) (pick (same_kind kind rate) (Rate n) (Offset (same_kind kind below) n))

-- a trip point from two numbers, the first of them at place i
abbrev pub trip_from : Kind → List ℕ → ℕ → Trip
trip_from kind ns i = record { limit = limit_of kind (get_or ns i 0); delay = get_or ns (suc i) 0 }

abbrev pub rate_from : LineKind → List ℕ → ℕ → RatePoint
rate_from GP1 ns i = None
rate_from GP2 ns i = Some (trip_from rate ns i)

-- a profile from a line's kind, from its country and class and from the numbers of its fields
abbrev pub profile_from : LineKind → List ℕ → List ℕ → Profile
profile_from kind head ns =
    record {
      country = record { first = get_or head 4 0; second = get_or head 5 0 };
      class = get_or head 7 0;
      serial = get_or ns 0 0;
      volts = get_or ns 1 0;
      hertz = get_or ns 2 0;
      over_voltage = trip_from share ns 3;
      under_voltage = trip_from share ns 5;
      over_frequency = trip_from above ns 7;
      under_frequency = trip_from below ns 9;
      rate_of_change = rate_from kind ns 11;
    }

-- the kind that a line is taken for
abbrev pub kind_in : List ℕ → LineKind
kind_in line = pick (same (take 4 line) (tag GP2)) GP2 GP1

-- what stands at the places where a line of this kind has its fields; whether it is a line is not looked at
unfoldable pub scanned : List ℕ → Profile
scanned line = profile_from (kind_in line) line (numbers_in (rules (kind_in line)) (drop 8 line))

-- the size; the tag; the rules, for what was found; and the line is the line of what was found
abbrev pub read_checks : List Class → List ℕ → List Check
read_checks table line =
    bad_size unless contains (shortest to longest) (length line)
    ∷ bad_profile unless same (take 4 line) (tag (kind_in line))
    ∷ bad_profile unless valid table (scanned line)
    ∷ bad_profile unless same (line_of (scanned line)) line
    ∷ []

unfoldable pub read_line : List Class → List ℕ → Result Profile
read_line table line = answer (read_checks table line) (scanned line)

-- an answer is the reading of the line
abbrev pub Reads : (table : List Class) (line : List ℕ) (r : Result Profile) → Type 0
Reads table line r = r ≡ read_line table line

-- what `read_line` promises: the reading under the table that an image means (document 02, M-108)
abbrev pub ReadsUnder : (table line : List ℕ) (r : Result Profile) → Type 0
ReadsUnder table = Reads (table_of table)

-- ---- writing

abbrev pub write_checks : List Class → Profile → List ℕ → List Check
write_checks table p lent = bad_size unless eqb (length lent) longest ∷ bad_profile unless valid table p ∷ []

-- the length of the line
unfoldable pub write_line : List Class → Profile → List ℕ → Result ℕ
write_line table p lent = answer (write_checks table p lent) (length (line_of p))

-- the lent bytes hold the line and past it what they held; after a refusal all is as it was
pub record Writes (table : List Class) (p : Profile) (old : List ℕ) (r : Result ℕ) (lent : List ℕ) : Type 0 where
  pub answered : r ≡ write_line table p old
  pub content : lent ≡ pick (eqb (number_in (write_line table p old)) 0) (line_of p ++ drop (length (line_of p)) old) old

-- what `write_line` promises: the same under the table that an image means (document 02, M-108)
abbrev pub WritesUnder : (table : List ℕ) (p : Profile) (old : List ℕ) (r : Result ℕ) (lent : List ℕ) → Type 0
WritesUnder table = Writes (table_of table)
