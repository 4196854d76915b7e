-- Laws on lists of checks and on what an entry answers. Assumes nothing.
use mathlib.Core.Path.{◌≡◌, refl, ◌∙◌, sym}
use mathlib.Core.Bool.{Bool, true, false}
use mathlib.Core.List.{List, [], ◌∷◌, ◌++◌}
use Prim.Native.Nat.{ℕ, suc}
use native.Mathlib.Omega.{arith}
use borrow.Author.Tests.{ne_eqb}
use Rattle.outcome.specs.Answer.{
  Check,
  ◌unless◌,
  Refusal,
  BadSize,
  ShortDraw,
  BadField,
  Mismatch,
  BadProfile,
  OtherDevice,
  OldSerial,
  StoreFull,
  NotStored,
  BadDevice,
  BadFormula,
  BadStep,
  BadTable,
  StoreInUse,
  first_refusal,
  Passed,
  number_of,
  Answers,
}

-- the number of a refusal is above 0
pub number_suc : (r : Refusal) → (k : ℕ) × (number_of r ≡ suc k)
number_suc BadSize = (0, refl)
number_suc ShortDraw = (1, refl)
number_suc BadField = (2, refl)
number_suc Mismatch = (3, refl)
number_suc BadProfile = (4, refl)
number_suc OtherDevice = (5, refl)
number_suc OldSerial = (6, refl)
number_suc StoreFull = (7, refl)
number_suc NotStored = (8, refl)
number_suc BadDevice = (9, refl)
number_suc BadFormula = (10, refl)
number_suc BadStep = (11, refl)
number_suc BadTable = (12, refl)
number_suc StoreInUse = (13, refl)

pub number_positive : (r : Refusal) → number_of r ≡ 0 → ⊥
number_positive r e = let h : ◌≡◌ {A = ℕ} (suc (number_suc r).0) 0 = sym (number_suc r).1 ∙ e in omega arith

-- a test that fails decides, and one that holds drops away
pub fails : (r : Refusal) (ok : Bool) (cs : List Check) → ok ≡ false → first_refusal (r unless ok ∷ cs) ≡ number_of r
fails r ok cs e = rw e

pub holds : (r : Refusal) (ok : Bool) (cs : List Check) → ok ≡ true → first_refusal (r unless ok ∷ cs) ≡ first_refusal cs
holds r ok cs e = rw e

-- answered 0, hence every test held; and the converse
pub passed : (cs : List Check) → first_refusal cs ≡ 0 → Passed cs
passed [] e = tt
passed (r unless true ∷ cs) e = (tt, passed cs e)
passed (r unless false ∷ cs) e = absurd (number_positive r e)

pub answered : (cs : List Check) → Passed cs → first_refusal cs ≡ 0
answered [] h = refl
answered (r unless true ∷ cs) h = answered cs h.1
answered (r unless false ∷ cs) h = absurd h.0

-- tests that pass drop away from the front
pub passed_front : (xs ys : List Check) → first_refusal xs ≡ 0 → first_refusal (xs ++ ys) ≡ first_refusal ys
passed_front [] ys e = refl
passed_front (r unless true ∷ xs) ys e = passed_front xs ys e
passed_front (r unless false ∷ xs) ys e = absurd (number_positive r e)

-- tests that refuse decide, whatever stands behind them
pub refused_front : (xs ys : List Check) (k : ℕ) → first_refusal xs ≡ suc k → first_refusal (xs ++ ys) ≡ suc k
refused_front [] ys k e = let h : ◌≡◌ {A = ℕ} 0 (suc k) = e in absurd (omega arith)
refused_front (r unless true ∷ xs) ys k e = refused_front xs ys k e
refused_front (r unless false ∷ xs) ys k e = e

-- answered 0 by two lists in a row: by each
pub both_passed : (xs ys : List Check) → first_refusal (xs ++ ys) ≡ 0 → (first_refusal xs ≡ 0) × (first_refusal ys ≡ 0)
both_passed [] ys e = (refl, e)
both_passed (r unless true ∷ xs) ys e = both_passed xs ys e
both_passed (r unless false ∷ xs) ys e = absurd (number_positive r e)

-- the answer of an entry: it is done, or it refuses and leaves what was lent
pub done : {cs : List Check} {made old lent : List ℕ} → first_refusal cs ≡ 0 → lent ≡ made → Answers cs made old 0 lent
done e l = record { answer = sym e; content = l }

pub refused : {cs : List Check} {made old lent : List ℕ} (k : ℕ) → first_refusal cs ≡ suc k → lent ≡ old → Answers cs made old (suc k) lent
refused k e l = record { answer = sym e; content = rw (ne_eqb (suc k) 0 (λ z. omega arith)) l }

-- the same of an entry that returns a result
pub refuses : {cs : List Check} {made old lent : List ℕ} (r : Refusal) → number_of r ≡ first_refusal cs → lent ≡ old → Answers cs made old (number_of r) lent
refuses r e l = record { answer = e; content = rw (ne_eqb (number_of r) 0 (number_positive r)) l }
