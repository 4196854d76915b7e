-- What an entry answers: a refusal's number or 0, and the final content of what was lent.
-- Assumes nothing.
use Rattle.std.specs.Prelude.{◌≡◌, Bool, true, false, List, [], ◌∷◌, ◌++◌, ℕ, T, eqb, length, drop}
pub use Rattle.outcome.specs.declared.refusal.Refusal.{Refusal}
pub use Rattle.outcome.specs.declared.refusal.Refusal.TheVariants.{
  BadSize,
  ShortDraw,
  BadField,
  Mismatch,
  BadProfile,
  OtherDevice,
  OldSerial,
  StoreFull,
  NotStored,
  BadDevice,
  BadFormula,
  BadStep,
  BadTable,
  StoreInUse,
}

-- the refusals of the table "Returned", 1 to 10, and those of document 02, each with its number; no refusal is the answer 0
abbrev pub number_of : Refusal → ℕ
number_of BadSize = 1
number_of ShortDraw = 2
number_of BadField = 3
number_of Mismatch = 4
number_of BadProfile = 5
number_of OtherDevice = 6
number_of OldSerial = 7
number_of StoreFull = 8
number_of NotStored = 9
number_of BadDevice = 10
number_of BadFormula = 11
number_of BadStep = 12
number_of BadTable = 13
number_of StoreInUse = 14

abbrev pub bad_size : Refusal
bad_size = BadSize

abbrev pub short_draw : Refusal
short_draw = ShortDraw

abbrev pub bad_field : Refusal
bad_field = BadField

abbrev pub mismatch : Refusal
mismatch = Mismatch

abbrev pub bad_profile : Refusal
bad_profile = BadProfile

abbrev pub other_device : Refusal
other_device = OtherDevice

abbrev pub old_serial : Refusal
old_serial = OldSerial

abbrev pub store_full : Refusal
store_full = StoreFull

abbrev pub not_stored : Refusal
not_stored = NotStored

abbrev pub bad_device : Refusal
bad_device = BadDevice

abbrev pub bad_formula : Refusal
bad_formula = BadFormula

abbrev pub bad_step : Refusal
bad_step = BadStep

abbrev pub bad_table : Refusal
bad_table = BadTable

abbrev pub store_in_use : Refusal
store_in_use = StoreInUse

abbrev pub pick {ℓ} : {A : Type ℓ} → Bool → A → A → A
pick true a b = a
pick false a b = b

-- one test of an entry, with the refusal that a failed test gives
infix 90 ◌unless◌
pub data Check : Type 0 where
  ◌unless◌ : Refusal → Bool → Check

-- an entry's tests stand in a list, in the order in which they refuse: the first that fails decides
abbrev pub first_refusal : List Check → ℕ
first_refusal [] = 0
first_refusal (r unless ok ∷ cs) = pick ok (first_refusal cs) (number_of r)

-- every test of the list holds
abbrev pub Passed : List Check → Type 0
Passed [] = Unit {0}
Passed (r unless ok ∷ cs) = T ok × Passed cs

-- The answer of an entry that runs these checks and then makes these bytes: the number is that of the first
-- refusal, or 0; the lent buffer holds the bytes made where the number is 0, and else what it held.
pub record Answers (checks : List Check) (made old : List ℕ) (number : ℕ) (lent : List ℕ) : Type 0 where
  pub answer : number ≡ first_refusal checks
  pub content : lent ≡ pick (eqb number 0) made old

-- The answer of an entry that writes these bytes at the front of what was lent, past them leaves it as it was, and gives their
-- length; after a refusal bytes and length are as they were.
pub record AnswersFront (checks : List Check) (made old : List ℕ) (before number : ℕ) (lent : List ℕ) (after : ℕ) : Type 0 where
  pub answers : Answers checks (made ++ drop (length made) old) old number lent
  pub size : after ≡ pick (eqb number 0) (length made) before
