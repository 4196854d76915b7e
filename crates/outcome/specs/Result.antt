-- What a call answers that returns a value: the value, or a refusal. Assumes nothing.
use Rattle.std.specs.Prelude.{false, List, [], ◌∷◌, ℕ}
pub use Rattle.std.specs.Prelude.{Ok, Err}
use Rattle.std.specs.Prelude.{Result as Either}
use Rattle.outcome.specs.Answer.{Refusal, number_of, Check, ◌unless◌, pick}

-- the value, or a refusal
abbrev pub Result : Type 0 → Type 0
Result A = Either A Refusal

-- the value, unless a check fails: the first that fails decides
abbrev pub answer : {A : Type 0} → List Check → A → Result A
answer [] a = Ok a
answer (r unless ok ∷ checks) a = pick ok (answer checks a) (Err r)

-- the number of the table "Returned"
abbrev pub number_in : {A : Type 0} → Result A → ℕ
number_in (Ok a) = 0
number_in (Err r) = number_of r

-- the length that C's variable holds after an answer that has one: it stays as it was after a refusal
abbrev pub length_in : ℕ → Result ℕ → ℕ
length_in before (Ok n) = n
length_in before (Err r) = before

-- the value, where there is one
abbrev pub values_in : {A : Type 0} → Result A → List A
values_in (Ok a) = a ∷ []
values_in (Err r) = []

-- a result that is a refusal refuses
abbrev pub refusal_in : {A : Type 0} → Result A → List Check
refusal_in (Ok a) = []
refusal_in (Err r) = r unless false ∷ []
