-- When a profile is valid: the field rules and the class table, as data (document 01, "Profile line, package, shelf"; document
-- 02, M-101, for the rate point, and M-108, for other tables).
-- Assumes nothing.
use Rattle.std.specs.Prelude.{◌≡◌, Bool, true, false, ◌&&◌, ◌||◌, List, [], ◌∷◌, ◌++◌, ℕ, leb, eqb}
use Rattle.outcome.specs.Answer.{bad_profile, pick}
use Rattle.profile.specs.declared.Limit.{Limit}
use Rattle.profile.specs.declared.Limit.TheVariants.{Share, Offset, Rate}
use Rattle.profile.specs.declared.Trip.{Trip}
use Rattle.std.specs.Prelude.{Option, None, Some}
use Rattle.profile.specs.declared.Profile.{Profile}
use Rattle.profile.specs.declared.rules.Kind.{Kind}
use Rattle.profile.specs.declared.rules.Kind.TheVariants as kinds
use Rattle.outcome.specs.Result.{Result, Ok, Err}

-- ---- numbers and ranges, both ends included

infix 90 ◌to◌
pub data Range : Type 0 where
  ◌to◌ : ℕ → ℕ → Range

abbrev pub contains : Range → ℕ → Bool
contains (low to high) n = leb low n && leb n high

-- the ends
abbrev pub low : Range → ℕ
low (l to h) = l

abbrev pub high : Range → ℕ
high (l to h) = h

abbrev pub in_one_of : List Range → ℕ → Bool
in_one_of [] n = false
in_one_of (r ∷ rs) n = contains r n || in_one_of rs n

-- ---- the fields after the class, in the order of the line

-- what a field's number is: a share of the nominal voltage, an offset above or below the nominal frequency, plain, or a rate of
-- change of frequency
abbrev pub share : Kind
share = kinds.Share

abbrev pub above : Kind
above = kinds.Above

abbrev pub below : Kind
below = kinds.Below

abbrev pub plain : Kind
plain = kinds.Plain

abbrev pub rate : Kind
rate = kinds.Rate

-- the number of a kind, by which images have it
abbrev pub kind_number : Kind → ℕ
kind_number kinds.Share = 0
kind_number kinds.Above = 1
kind_number kinds.Below = 2
kind_number kinds.Plain = 3
kind_number kinds.Rate = 4

-- two kinds are the same
abbrev pub same_kind : Kind → Kind → Bool
same_kind a b = eqb (kind_number a) (kind_number b)

-- a field of a profile: its kind, and its number without a sign
pub record Field : Type 0 where
  pub kind : Kind
  pub size : ℕ

abbrev pub kind_of : Limit → Kind
kind_of (Share n) = share
kind_of (Offset under n) = pick under below above
kind_of (Rate n) = rate

abbrev pub size_of : Limit → ℕ
size_of (Share n) = n
size_of (Offset under n) = n
size_of (Rate n) = n

abbrev pub number : ℕ → Field
number n = record { kind = plain; size = n }

-- a trip point is two fields, its limit and its delay
abbrev pub trip_fields : Trip → List Field
trip_fields t = record { kind = kind_of t.limit; size = size_of t.limit } ∷ number t.delay ∷ []

-- the trip point that not every profile has
abbrev pub RatePoint : Type 0
RatePoint = Option Trip

-- the rate point has them only where it is present
abbrev pub rate_fields : RatePoint → List Field
rate_fields None = []
rate_fields (Some t) = trip_fields t

unfoldable pub fields_of : Profile → List Field
fields_of p =
    number p.serial
    ∷ number p.volts
    ∷ number p.hertz
    ∷ (trip_fields p.over_voltage
    ++ (trip_fields p.under_voltage
    ++ (trip_fields p.over_frequency
    ++ (trip_fields p.under_frequency
    ++ rate_fields p.rate_of_change))))

-- ---- the rules

-- the kinds of line: without and with a rate point
pub data LineKind : Type 0 where
  GP1 : LineKind
  GP2 : LineKind

abbrev pub kind_for : RatePoint → LineKind
kind_for None = GP1
kind_for (Some t) = GP2

-- the kind of a profile's line
abbrev pub line_kind : Profile → LineKind
line_kind p = kind_for p.rate_of_change

-- a field's kind, and the ranges of its number; an offset below nominal is given by its size, 1 to 5000 for −5000 to −1
pub record Rule : Type 0 where
  pub kind : Kind
  pub ranges : List Range

-- a rule with one range
abbrev pub one : Kind → Range → Rule
one kind range = record { kind = kind; ranges = range ∷ [] }

abbrev pub delays : Range
delays = 20 to 60000

abbrev pub trip_rules : Kind → Range → List Rule
trip_rules kind limits = one kind limits ∷ one plain delays ∷ []

abbrev pub rate_rules : LineKind → List Rule
rate_rules GP1 = []
rate_rules GP2 = trip_rules rate (100 to 10000)

-- nominal hertz: of a line's field, and of a device's setting
abbrev pub nominal_hertz : List Range
nominal_hertz = 50 to 50 ∷ 60 to 60 ∷ []

-- serial, nominal volts, hertz; then over-voltage, under-voltage, over-frequency and under-frequency, each with its delay; and
-- the rate of change of frequency with its delay, in the kind of line that has it
abbrev pub rules : LineKind → List Rule
rules kind =
    one plain (1 to 4294967295)
    ∷ one plain (100 to 1000)
    ∷ record { kind = plain; ranges = nominal_hertz }
    ∷ (trip_rules share (1001 to 1500)
    ++ (trip_rules share (1 to 999)
    ++ (trip_rules above (1 to 5000)
    ++ (trip_rules below (1 to 5000)
    ++ rate_rules kind))))

abbrev pub fits : Rule → Field → Bool
fits r f = same_kind f.kind r.kind && in_one_of r.ranges f.size

-- each field fits its rule, and there are as many fields as rules
unfoldable pub obeys : List Rule → List Field → Bool
obeys [] [] = true
obeys [] (f ∷ fs) = false
obeys (r ∷ rs) [] = false
obeys (r ∷ rs) (f ∷ fs) = fits r f && obeys rs fs

-- ---- the class

pub record Class : Type 0 where
  pub volts : Range
  pub letter : ℕ

abbrev pub class : ℕ → Range → Class
class letter volts = record { volts = volts; letter = letter }

-- A, B, C and D by nominal volts
abbrev pub classes : List Class
classes = class 65 (100 to 139) ∷ class 66 (140 to 259) ∷ class 67 (260 to 519) ∷ class 68 (520 to 1000) ∷ []

-- the class of nominal volts under a table, or the refusal that a broken field rule gives
abbrev pub class_in : List Class → ℕ → Result ℕ
class_in [] n = Err bad_profile
class_in (c ∷ cs) n = pick (contains c.volts n) (Ok c.letter) (class_in cs n)

-- a class that may be found
abbrev pub ClassFound : Type 0
ClassFound = Option ℕ

-- what each case of `class_of`'s answer means
abbrev pub class_answer : ClassFound → Result ℕ
class_answer (Some c) = Ok c
class_answer None = Err bad_profile

-- what `class_of` promises: its answer is the class of the volts
abbrev pub Classifies : (table : List Class) (volts : ℕ) (r : ClassFound) → Type 0
Classifies table volts r = class_answer r ≡ class_in table volts

-- a class was found, and is this letter
abbrev pub is_class : Result ℕ → ℕ → Bool
is_class (Ok c) letter = eqb letter c
is_class (Err r) letter = false

-- ---- a valid profile, under a class table

-- A to Z
abbrev pub letters : Range
letters = 65 to 90

-- two letters, fields that obey the rules of its kind of line, and a letter that is the class of the volts: an image of any bytes
-- may hold a table whose class is a comma or LF, and lines must stay lines
unfoldable pub valid : List Class → Profile → Bool
valid table p =
    contains letters p.country.first
    && (contains letters p.country.second
    && (obeys (rules (line_kind p)) (fields_of p)
    && (contains letters p.class && is_class (class_in table p.volts) p.class)))
