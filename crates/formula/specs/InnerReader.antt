-- What the readers of the code promise: their part is the front that the definition finds, with its worth. No contract of an
-- entry cites it.
-- Assumes nothing.
use Rattle.std.specs.Prelude.{◌≡◌, Bool, List, [], ◌∷◌, ℕ, ◌≤◌, ◌<◌, length, drop, Option, Some, None, ℤ}
use Rattle.outcome.specs.Answer.{bad_step, pick}
use Rattle.outcome.specs.Result.{Result, Ok, Err}
use Rattle.decimal.specs.declared.Number.{Number}
use Rattle.formula.specs.declared.amount.Amount.{Amount}
use Rattle.formula.specs.declared.reader.Part.{Part}
use Rattle.formula.specs.Grammar.{deepest, sum_value, product_value, atom_value}
use Rattle.formula.specs.Reader.{
  Front,
  found,
  none,
  read_number,
  whole_negative,
  read_atom,
  read_product,
  read_sum,
  whole_sum,
  value_in,
}
use Rattle.formula.specs.Meaning.{Answered}

-- the operator that some bytes begin with, if they begin with one
abbrev pub operator_in : {O : Type 0} → (ℕ → Bool) → (ℕ → O) → List ℕ → Option O
operator_in is_operator operator [] = None
operator_in is_operator operator (b ∷ bytes) = pick (is_operator b) (Some (operator b)) None

abbrev pub worth_of : Option Amount → Result ℤ
worth_of (Some a) = Ok a.value
worth_of None = Err bad_step

-- what was read up to a place as a front with its worth
abbrev pub seen : {A : Type 0} → List ℕ → Option (A × ℕ) → Front A
seen s (Some p) = found p.0 (drop p.1 s)
seen s None = none

-- a front with the worth of what was found
abbrev pub worths : {A B : Type 0} → (A → B) → Front A → Front B
worths value (found a rest) = found (value a) rest
worths value none = none

-- a part ends behind its beginning and within the bytes
abbrev pub Ends : {A : Type 0} → List ℕ → ℕ → Option (A × ℕ) → Type 0
Ends s at (Some p) = (at < p.1) × (p.1 ≤ length s)
Ends s at None = Unit {0}

pub record PartAt {A B : Type 0} (value : A → B) (front : Front A) (s : List ℕ) (at : ℕ) (r : Option (B × ℕ)) : Type 0 where
  pub read : seen s r ≡ worths value front
  pub ends : Ends s at r

-- a part's worth, or the number that was read, and the place behind it
abbrev pub part_of : Option Part → Option (Result ℤ × ℕ)
part_of (Some p) = Some (worth_of p.worth, p.end)
part_of None = None

abbrev pub number_of : Option Number → Option (ℕ × ℕ)
number_of (Some n) = Some (n.value, n.end)
number_of None = None

abbrev pub NumberPart : List ℕ → ℕ → Option (ℕ × ℕ) → Type 0
NumberPart s at = PartAt (λ n. n) (read_number (drop at s)) s at

abbrev pub AtomAt : ℕ → ℕ → List ℕ → ℕ → Option (Result ℤ × ℕ) → Type 0
AtomAt volts pairs s at = PartAt (λ a. atom_value a volts) (read_atom pairs (drop at s)) s at

abbrev pub ProductAt : ℕ → ℕ → List ℕ → ℕ → Option (Result ℤ × ℕ) → Type 0
ProductAt volts pairs s at = PartAt (λ p. product_value p volts) (read_product pairs (drop at s)) s at

abbrev pub SumAt : ℕ → ℕ → List ℕ → ℕ → Option (Result ℤ × ℕ) → Type 0
SumAt volts pairs s at = PartAt (λ x. sum_value x volts) (read_sum pairs (drop at s)) s at

-- the two halves of `evaluate`: what stands behind a minus, and a sum
abbrev pub NegativeOf : (digits : List ℕ) (r : Result ℤ) → Type 0
NegativeOf digits = Answered (value_in 0 (whole_negative (read_number digits)))

abbrev pub SumOf : (volts : ℕ) (field : List ℕ) (r : Result ℤ) → Type 0
SumOf volts field = Answered (value_in volts (whole_sum (read_sum deepest field)))
