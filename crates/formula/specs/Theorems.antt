-- What reading owes to the grammar (document 02, M-107). The proofs stand in proofs/Theorems.antt.
-- Assumes nothing.
use Rattle.std.specs.Prelude.{◌≡◌, List, ℕ, ℤ}
use Rattle.outcome.specs.Result.{Result, Ok}
use Rattle.formula.specs.Grammar.{Formula, Derived}
use Rattle.formula.specs.Reader.{read_formula, value_of}
use Rattle.formula.specs.Meaning.{Means}

-- exactly what the grammar derives is read
abbrev pub ReadsDerived : Type 0
ReadsDerived =
    (field : List ℕ) (f : Formula)
    → (Derived field f → read_formula field ≡ Ok f) × (read_formula field ≡ Ok f → Derived field f)

-- each field has one reading
abbrev pub OneReading : Type 0
OneReading = (field : List ℕ) (f g : Formula) → Derived field f → Derived field g → f ≡ g

-- what a field is worth is what it means
abbrev pub WorthIsMeant : Type 0
WorthIsMeant = (volts : ℕ) (field : List ℕ) → Means volts field (value_of volts field)

-- and the meaning is one
abbrev pub OneMeaning : Type 0
OneMeaning = (volts : ℕ) (field : List ℕ) (r q : Result ℤ) → Means volts field r → Means volts field q → r ≡ q
