-- What lines and profiles are to each other, under any class table. The proofs stand in proofs/Theorems.antt.
-- Assumes nothing.
use Rattle.std.specs.Prelude.{◌≡◌, List, ℕ, ◌+◌, ◌≤◌, T, length, take}
use Rattle.profile.specs.declared.Profile.{Profile}
use Rattle.outcome.specs.Result.{Ok}
use Rattle.profile.specs.Rules.{LineKind, GP1, GP2, line_kind, rules, Class, classes, valid}
use Rattle.profile.specs.Line.{tag, shortest, longest, line_of, read_line}

-- reading a written line returns the profile
abbrev pub ReadsWritten : Type 0
ReadsWritten = (table : List Class) (p : Profile) → T (valid table p) → read_line table (line_of p) ≡ Ok p

-- writing a read line returns its bytes; only valid profiles are read
abbrev pub WritesRead : Type 0
WritesRead =
    (table : List Class) (line : List ℕ) (p : Profile) → read_line table line ≡ Ok p → (line_of p ≡ line) × T (valid table p)

-- two lines that read to the same profile are equal
abbrev pub OneLine : Type 0
OneLine =
    (table : List Class) (line line' : List ℕ) (p : Profile) → read_line table line ≡ Ok p → read_line table line' ≡ Ok p
    → line ≡ line'

-- a line that is read begins as the kind of its profile does: with `GP2,` exactly where the rate point is present
abbrev pub ReadsKind : Type 0
ReadsKind =
    (table : List Class) (line : List ℕ) (p : Profile) → read_line table line ≡ Ok p → take 4 line ≡ tag (line_kind p)

-- tag, country, class and the fields that have rules: 14 in one kind of line, 16 in the other
abbrev pub FieldCounts : Type 0
FieldCounts = (3 + length (rules GP1) ≡ 14) × (3 + length (rules GP2) ≡ 16)

-- lines of valid profiles have 42 to 84 bytes
abbrev pub LineLengths : Type 0
LineLengths =
    (table : List Class) (p : Profile) → T (valid table p) → (shortest ≤ length (line_of p)) × (length (line_of p) ≤ longest)

-- without a rate point they have 42 to 72, with one 49 to 84
abbrev pub least : LineKind → ℕ
least GP1 = shortest
least GP2 = 49

abbrev pub greatest : LineKind → ℕ
greatest GP1 = 72
greatest GP2 = longest

abbrev pub KindLengths : Type 0
KindLengths =
    (table : List Class) (p : Profile) → T (valid table p)
    → (least (line_kind p) ≤ length (line_of p)) × (length (line_of p) ≤ greatest (line_kind p))

-- and some valid profile has a line of this kind and length
abbrev pub Reached : LineKind → ℕ → Type 0
Reached kind n = (p : Profile) × T (valid classes p) × (line_kind p ≡ kind) × (length (line_of p) ≡ n)
