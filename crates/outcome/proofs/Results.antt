-- Laws on results. Assumes nothing.
use mathlib.Core.Path.{◌≡◌, refl, ◌∙◌, sym, ap}
use Prim.Native.Nat.{ℕ}
use lib.Dec.{eqb}
use Rattle.outcome.specs.Answer.{
  Refusal,
  BadSize,
  ShortDraw,
  BadField,
  Mismatch,
  BadProfile,
  OtherDevice,
  OldSerial,
  StoreFull,
  NotStored,
  BadDevice,
  BadFormula,
  BadStep,
  BadTable,
  StoreInUse,
  number_of,
  first_refusal,
  pick,
}
use Rattle.std.specs.Result.{IsErrAnd}
use Rattle.outcome.specs.Result.{Result, Ok, Err, number_in, refusal_in}
use Rattle.outcome.proofs.Checks.{number_positive, passed}

-- a result that refuses nothing is a value
pub result_done : {A : Type 0} (x : Result A) → first_refusal (refusal_in x) ≡ 0 → (a : A) × (x ≡ Ok a)
result_done (Ok a) e = (a, refl)
result_done {A} (Err r) e = absurd (passed (refusal_in {A = A} (Err r)) e).0

-- two refusals of one number are one
of_number : ℕ → Refusal
of_number n = pick (eqb n 1) BadSize (pick (eqb n 2) ShortDraw (pick (eqb n 3) BadField (pick (eqb n 4) Mismatch (pick (eqb n 5) BadProfile (pick (eqb n 6) OtherDevice (pick (eqb n 7) OldSerial (pick (eqb n 8) StoreFull (pick (eqb n 9) NotStored (pick (eqb n 10) BadDevice (pick (eqb n 11) BadFormula (pick (eqb n 12) BadStep (pick (eqb n 13) BadTable StoreInUse))))))))))))

numbered : (r : Refusal) → of_number (number_of r) ≡ r
unfolding of_number
numbered BadSize = refl
numbered ShortDraw = refl
numbered BadField = refl
numbered Mismatch = refl
numbered BadProfile = refl
numbered OtherDevice = refl
numbered OldSerial = refl
numbered StoreFull = refl
numbered NotStored = refl
numbered BadDevice = refl
numbered BadFormula = refl
numbered BadStep = refl
numbered BadTable = refl
numbered StoreInUse = refl

one_number : (q r : Refusal) → number_of q ≡ number_of r → q ≡ r
one_number q r e = sym (numbered q) ∙ (ap of_number e ∙ numbered r)

-- a result with the number of a refusal is that refusal
pub result_refused : {A : Type 0} (x : Result A) (q : Refusal) → number_in x ≡ number_of q → x ≡ Err q
result_refused (Ok a) q e = absurd (number_positive q (sym e))
result_refused (Err r) q e = ap Err (one_number r q e)

-- what `?` gives back is the refusal that it met
pub passed_on : {A : Type 0} {q : Refusal} (x : Result A) → IsErrAnd x (λ r. r ≡ q) → x ≡ Err q
passed_on (Ok a) h = absurd h
passed_on (Err r) h = ap Err h
