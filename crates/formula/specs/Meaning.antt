-- What a field means (document 02, M-107), said by the grammar alone; and what `evaluate` promises.
-- Assumes nothing.
use Rattle.std.specs.Prelude.{◌≡◌, List, ℕ, ◌≤◌, ℤ, nat_abs}
use Rattle.outcome.specs.Answer.{bad_formula}
use Rattle.outcome.specs.Result.{Result, Ok, Err}
use Rattle.formula.specs.Grammar.{Formula, Derived, most_step, formula_value}
use Rattle.formula.specs.Reader.{value_of}

-- the result for a field at these nominal volts: the value of every tree that derives it, and 11 where none does
pub record Means (volts : ℕ) (field : List ℕ) (result : Result ℤ) : Type 0 where
  pub derived : (f : Formula) → Derived field f → result ≡ formula_value f volts
  pub underived : ((f : Formula) → Derived field f → ⊥) → result ≡ Err bad_formula

-- a number that is answered lies within what a step may have
abbrev pub Small : Result ℤ → Type 0
Small (Ok z) = nat_abs z ≤ most_step
Small (Err r) = Unit {0}

pub record Answered (result r : Result ℤ) : Type 0 where
  pub worth : r ≡ result
  pub small : Small r

-- what `evaluate` promises: its answer is what the field is worth, which is what it means (Theorems)
abbrev pub Evaluates : (volts : ℕ) (field : List ℕ) (r : Result ℤ) → Type 0
Evaluates volts field = Answered (value_of volts field)
