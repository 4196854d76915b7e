-- Formulas as on paper (document 02, M-107): parse trees with their text, the limits, and what a tree is worth. Left to right
-- and precedence are the shape of the trees.
-- Assumes nothing.
use Rattle.std.specs.Prelude.{Bool, ◌||◌, List, [], ◌∷◌, ◌++◌, ℕ, zero, suc, ◌≤◌, ◌≡◌, eqb, leb, length, ℤ, pos, neg_ℤ, nat_abs, ◌+ℤ◌, ◌-ℤ◌, ◌*ℤ◌}
use Rattle.std.specs.Int.Signed.{quot_z}
use Rattle.outcome.specs.Answer.{bad_step, pick}
use Rattle.outcome.specs.Result.{Result, Ok, Err}
use Rattle.decimal.specs.Decimal.{decimal}
pub use Rattle.formula.specs.declared.operator.Additive.{Additive}
pub use Rattle.formula.specs.declared.operator.Additive.TheVariants.{Plus, Minus}
pub use Rattle.formula.specs.declared.operator.Multiplicative.{Multiplicative}
pub use Rattle.formula.specs.declared.operator.Multiplicative.TheVariants.{Times, Over}

-- ---- parse trees

-- a sum is a product, or a sum, an operator and a product; a product is an atom, or a product, an operator and an atom; an atom
-- is a number, N for the nominal volts, or a whole sum in parentheses
mutual
  pub data Sum : Type 0 where
    only : Product → Sum
    add : Sum → Additive → Product → Sum

  pub data Product : Type 0 where
    single : Atom → Product
    scale : Product → Multiplicative → Atom → Product

  pub data Atom : Type 0 where
    number : ℕ → Atom
    nominal : Atom
    group : Sum → Atom

-- a field is a sum, or a plain negative number
pub data Formula : Type 0 where
  sum : Sum → Formula
  negative : ℕ → Formula

-- ---- their text

abbrev pub opening : ℕ
opening = 40

abbrev pub closing : ℕ
closing = 41

abbrev pub letter_n : ℕ
letter_n = 78

abbrev pub dash : ℕ
dash = 45

-- `+` and `-`
abbrev pub additive_byte : Additive → ℕ
additive_byte Plus = 43
additive_byte Minus = dash

-- `*` and `/`
abbrev pub multiplicative_byte : Multiplicative → ℕ
multiplicative_byte Times = 42
multiplicative_byte Over = 47

unfoldable mutual
  pub sum_text : Sum → List ℕ
  sum_text (only p) = product_text p
  sum_text (add s o p) = sum_text s ++ (additive_byte o ∷ product_text p)

  pub product_text : Product → List ℕ
  product_text (single a) = atom_text a
  product_text (scale p o a) = product_text p ++ (multiplicative_byte o ∷ atom_text a)

  pub atom_text : Atom → List ℕ
  atom_text (number n) = decimal n
  atom_text nominal = letter_n ∷ []
  atom_text (group s) = opening ∷ (sum_text s ++ (closing ∷ []))

abbrev pub formula_text : Formula → List ℕ
formula_text (sum s) = sum_text s
formula_text (negative n) = dash ∷ decimal n

-- ---- the limits

-- the greatest number
abbrev pub most_number : ℕ
most_number = 1000000

-- how many pairs of parentheses may stand around each other
abbrev pub deepest : ℕ
deepest = 8

-- the greatest length
abbrev pub longest_formula : ℕ
longest_formula = 64

-- numbers are small enough, and no more than so many pairs of parentheses stand around each other
unfoldable mutual
  pub sum_within : Sum → ℕ → Type 0
  sum_within (only p) pairs = product_within p pairs
  sum_within (add s o p) pairs = sum_within s pairs × product_within p pairs

  pub product_within : Product → ℕ → Type 0
  product_within (single a) pairs = atom_within a pairs
  product_within (scale p o a) pairs = product_within p pairs × atom_within a pairs

  pub atom_within : Atom → ℕ → Type 0
  atom_within (number n) pairs = n ≤ most_number
  atom_within nominal pairs = Unit {0}
  atom_within (group s) zero = ⊥
  atom_within (group s) (suc pairs) = sum_within s pairs

abbrev pub formula_within : Formula → Type 0
formula_within (sum s) = sum_within s deepest
formula_within (negative n) = (1 ≤ n) × (n ≤ most_number)

-- the grammar derives the field from this tree, within the limits
pub record Derived (field : List ℕ) (f : Formula) : Type 0 where
  pub text : formula_text f ≡ field
  pub within : formula_within f
  pub short : length field ≤ longest_formula

-- ---- what a tree is worth

-- nominal volts are at most this many (the rule of a line's field)
abbrev pub most_volts : ℕ
most_volts = 1000

-- every step lies within this on both sides
abbrev pub most_step : ℕ
most_step = 2000000000

abbrev pub in_range : ℤ → Bool
in_range z = leb (nat_abs z) most_step

abbrev pub step : ℤ → Result ℤ
step z = pick (in_range z) (Ok z) (Err bad_step)

-- one step; a quotient drops the remainder towards zero, and has no zero divisor
abbrev pub sum_step : Additive → ℤ → ℤ → Result ℤ
sum_step Plus a b = step (a +ℤ b)
sum_step Minus a b = step (a -ℤ b)

abbrev pub product_step : Multiplicative → ℤ → ℤ → Result ℤ
product_step Times a b = step (a *ℤ b)
product_step Over a b = pick (eqb (nat_abs b) 0) (Err bad_step) (step (quot_z a b))

-- a step is taken where both sides have a number
abbrev pub both : (ℤ → ℤ → Result ℤ) → Result ℤ → Result ℤ → Result ℤ
both f (Ok a) (Ok b) = f a b
both f (Ok a) (Err r) = Err bad_step
both f (Err r) right = Err bad_step

abbrev pub summed : Additive → Result ℤ → Result ℤ → Result ℤ
summed o = both (sum_step o)

abbrev pub scaled : Multiplicative → Result ℤ → Result ℤ → Result ℤ
scaled o = both (product_step o)

-- at these nominal volts: a number, or that a step cannot be taken
unfoldable mutual
  pub sum_value : Sum → ℕ → Result ℤ
  sum_value (only p) volts = product_value p volts
  sum_value (add s o p) volts = summed o (sum_value s volts) (product_value p volts)

  pub product_value : Product → ℕ → Result ℤ
  product_value (single a) volts = atom_value a volts
  product_value (scale p o a) volts = scaled o (product_value p volts) (atom_value a volts)

  pub atom_value : Atom → ℕ → Result ℤ
  atom_value (number n) volts = Ok (pos n)
  atom_value nominal volts = Ok (pos volts)
  atom_value (group s) volts = sum_value s volts

abbrev pub formula_value : Formula → ℕ → Result ℤ
formula_value (sum s) volts = sum_value s volts
formula_value (negative n) volts = Ok (neg_ℤ (pos n))

-- ---- operators by their byte

abbrev pub is_additive : ℕ → Bool
is_additive b = eqb b 43 || eqb b dash

abbrev pub is_multiplicative : ℕ → Bool
is_multiplicative b = eqb b 42 || eqb b 47

-- the operator of a byte that is one
abbrev pub additive : ℕ → Additive
additive b = pick (eqb b 43) Plus Minus

abbrev pub multiplicative : ℕ → Multiplicative
multiplicative b = pick (eqb b 42) Times Over
