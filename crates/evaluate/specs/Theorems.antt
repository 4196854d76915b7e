-- What an evaluated line is (document 02, M-107), of every program that meets the contract, under any class table. The proofs
-- stand in proofs/Theorems.antt.
-- Assumes nothing.
use Rattle.std.specs.Prelude.{◌≡◌, List, ◌++◌, ℕ, T, length, drop, ℤ}
use Rattle.outcome.specs.Result.{Result, Ok}
use Rattle.formula.specs.Meaning.{Means}
use Rattle.profile.specs.declared.Profile.{Profile}
use Rattle.profile.specs.Rules.{valid}
use Rattle.profile.specs.Table.{table_size, table_of}
use Rattle.profile.specs.Line.{longest, line_of, read_line}
use Rattle.evaluate.specs.Evaluate.{fields, text_from, plain_text, plain_line, EvaluatesLine}

-- the plain text rests on what the formulas mean, and on nothing else: whoever has for each field what it means has this text
abbrev pub TextAsMeant : Type 0
TextAsMeant =
    (meant : ℕ → List ℕ → Result ℤ) → ((volts : ℕ) (field : List ℕ) → Means volts field (meant volts field))
    → (volts : ℕ) (input : List ℕ) → text_from (λ k f. meant volts f) 0 (fields input) ≡ plain_text volts input

module _ (table : List ℕ) where
  -- what comes out is the line of a valid profile, which reading takes
  abbrev pub ComesOutRead : Type 0
  ComesOutRead =
      (input old : List ℕ) (before answer : ℕ) (lent : List ℕ) (after : ℕ)
      → EvaluatesLine table input old before answer lent after → answer ≡ 0
      → (p : Profile) × T (valid (table_of table) p) × (plain_line (table_of table) input ≡ Ok (line_of p))
      × (read_line (table_of table) (line_of p) ≡ Ok p)
      × (lent ≡ line_of p ++ drop (length (line_of p)) old) × (after ≡ length (line_of p))

  -- a plain line comes out as it is
  abbrev pub PlainStays : Type 0
  PlainStays =
      (line : List ℕ) (p : Profile) → length table ≡ table_size → read_line (table_of table) line ≡ Ok p
      → (old : List ℕ) (before answer : ℕ) (lent : List ℕ) (after : ℕ) → length old ≡ longest
      → EvaluatesLine table line old before answer lent after
      → (answer ≡ 0) × (lent ≡ line ++ drop (length line) old) × (after ≡ length line)
