-- What the functions promise that store a line's text, field after field. No contract of an entry cites it.
-- Assumes nothing.
use Rattle.std.specs.Prelude.{◌≡◌, List, ℕ, ◌+◌, ◌≤◌, length, Option, Some, None, ℤ}
use Rattle.std.proofs.lemmas.List.Edits.{sets}
use Rattle.outcome.specs.Answer.{pick, AnswersFront}
use Rattle.outcome.specs.Result.{Result, Ok, Err}
use Rattle.formula.specs.declared.volts.Volts.{Volts}
use Rattle.formula.specs.Reader.{value_of}
use Rattle.profile.specs.Rules.{Class}
use Rattle.profile.specs.Line.{longest}
use Rattle.evaluate.specs.Evaluate.{
  longest_input,
  fields,
  is_limit,
  sound_limit,
  field_text,
  text_from,
  text_in,
  finished_checks,
  plain_text,
  plain_checks,
}

-- an input is looked at
abbrev pub IsShort : List ℕ → Type 0
IsShort input = length input ≤ longest_input

-- as many bytes as a text may have
abbrev pub room : ℕ
room = 576

-- 84 bytes are lent
abbrev pub IsLent : List ℕ → Type 0
IsLent lent = length lent ≡ longest

-- the number of field k: what the formula is worth at these volts, or without volts the sound limit
abbrev pub number_at : Option Volts → ℕ → List ℕ → Result ℤ
number_at (Some v) k f = value_of v.volts f
number_at None k f = Ok (sound_limit k)

-- the place behind a text that is stored from a place on, or its refusal
abbrev pub end_of : ℕ → Result (List ℕ) → Result ℕ
end_of at (Ok text) = Ok (at + length text)
end_of at (Err r) = Err r

-- the text ends no further than here
abbrev pub Ends : ℕ → Result ℕ → Type 0
Ends most (Ok n) = n ≤ most
Ends most (Err r) = Unit {0}

-- the text was stored from a place on, and ends no further than `most`; or it is refused, and then the bytes may hold anything
pub record Puts (text : Result (List ℕ)) (most : ℕ) (old : List ℕ) (at : ℕ) (r : Result ℕ) (new : List ℕ) : Type 0 where
  pub answered : r ≡ end_of at text
  pub ends : Ends most r
  pub stored : (bytes : List ℕ) → text ≡ Ok bytes → new ≡ sets old at bytes

-- a number has at most 11 characters
abbrev pub PutsField : Option Volts → ℕ → List ℕ → List ℕ → ℕ → Result ℕ → List ℕ → Type 0
PutsField volts k field old at =
    Puts (field_text (number_at volts) k field) (at + length field + pick (is_limit k) 11 0) old at

abbrev pub Rewrites : Option Volts → List ℕ → List ℕ → Result ℕ → List ℕ → Type 0
Rewrites volts input old = Puts (text_from (number_at volts) 0 (fields input)) room old 0

-- ---- the end of the entry

abbrev pub FinishesLine : List Class → List ℕ → List ℕ → ℕ → ℕ → List ℕ → ℕ → Type 0
FinishesLine table text = AnswersFront (finished_checks table text) text

abbrev pub FinishesText : List Class → ℕ → List ℕ → List ℕ → ℕ → ℕ → List ℕ → ℕ → Type 0
FinishesText table volts input =
    AnswersFront (plain_checks table (plain_text volts input)) (text_in (plain_text volts input))
