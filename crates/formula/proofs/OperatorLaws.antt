-- Operators and their bytes: each is the operator of its byte, and a byte that is one is the byte of its operator.
-- Assumes nothing.
use mathlib.Core.Path.{◌≡◌, refl, sym}
use mathlib.Core.Bool.{Bool, true, false, false≢true, ◌||◌}
use Prim.Native.Nat.{ℕ}
use lib.Dec.{eqb}
use borrow.Author.Tests.{eqb-true}
use Rattle.outcome.specs.Answer.{pick}
use Rattle.decimal.specs.Decimal.{is_digit}
use Rattle.formula.specs.Grammar.{
  Additive,
  Plus,
  Minus,
  Multiplicative,
  Times,
  Over,
  dash,
  additive_byte,
  multiplicative_byte,
  is_additive,
  is_multiplicative,
  additive,
  multiplicative,
}

-- ---- `+` and `-`

-- the operator of an operator's byte is that operator
pub of_additive : (o : Additive) → additive (additive_byte o) ≡ o
of_additive Plus = refl
of_additive Minus = refl

-- its byte is a byte of its level
pub is_additive_lem : (o : Additive) → is_additive (additive_byte o) ≡ true
is_additive_lem Plus = refl
is_additive_lem Minus = refl

-- and neither a digit nor of the other level
pub additive_digit : (o : Additive) → is_digit (additive_byte o) ≡ false
additive_digit Plus = refl
additive_digit Minus = refl

pub additive_other : (o : Additive) → is_multiplicative (additive_byte o) ≡ false
additive_other Plus = refl
additive_other Minus = refl

-- a byte of the level is the byte of its operator
pub byte_additive : (b : ℕ) → is_additive b ≡ true → additive_byte (additive b) ≡ b
byte_additive b = by_tests (eqb b 43) (eqb b dash) refl refl
  where
    by_tests : (t u : Bool) → eqb b 43 ≡ t → eqb b dash ≡ u → (t || u) ≡ true → additive_byte (pick t Plus Minus) ≡ b
    by_tests true u e f h = sym (eqb-true b 43 e)
    by_tests false true e f h = sym (eqb-true b dash f)
    by_tests false false e f h = absurd (false≢true h)

-- ---- `*` and `/`, alike

pub of_multiplicative : (o : Multiplicative) → multiplicative (multiplicative_byte o) ≡ o
of_multiplicative Times = refl
of_multiplicative Over = refl

pub is_multiplicative_lem : (o : Multiplicative) → is_multiplicative (multiplicative_byte o) ≡ true
is_multiplicative_lem Times = refl
is_multiplicative_lem Over = refl

pub multiplicative_digit : (o : Multiplicative) → is_digit (multiplicative_byte o) ≡ false
multiplicative_digit Times = refl
multiplicative_digit Over = refl

pub byte_multiplicative : (b : ℕ) → is_multiplicative b ≡ true → multiplicative_byte (multiplicative b) ≡ b
byte_multiplicative b = by_tests (eqb b 42) (eqb b 47) refl refl
  where
    by_tests : (t u : Bool) → eqb b 42 ≡ t → eqb b 47 ≡ u → (t || u) ≡ true → multiplicative_byte (pick t Times Over) ≡ b
    by_tests true u e f h = sym (eqb-true b 42 e)
    by_tests false true e f h = sym (eqb-true b 47 f)
    by_tests false false e f h = absurd (false≢true h)
