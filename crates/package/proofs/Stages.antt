-- Checks that stand in several lists, one after the other: the first list that refuses decides; and an answer under other
-- checks. Assumes nothing.
use mathlib.Core.Path.{◌≡◌, refl, ◌∙◌, sym, ap}
use mathlib.Core.Bool.{Bool, true, false}
use mathlib.Core.List.{List, ◌++◌}
use Prim.Native.Nat.{ℕ}
use lib.Dec.{eqb}
use lib.ListN.{length, drop}
use borrow.Author.Tests.{eqb-true}
use Rattle.outcome.specs.Answer.{Check, first_refusal, pick, AnswersFront}
use Rattle.outcome.proofs.Checks.{passed_front}
use Rattle.outcome.proofs.Answering.{stops, goes_on}

-- of three lists of tests in a row: the first that refuses, else the second, else the third
module _ (xs ys zs : List Check) where
  pub by_first : (k : ℕ) → (k ≡ 0 → ⊥) → k ≡ first_refusal xs → k ≡ first_refusal (xs ++ ys ++ zs)
  by_first k some e = stops (xs ++ ys) zs (stops xs ys e some) some

  module _ (first : first_refusal xs ≡ 0) where
    pub by_second : (k : ℕ) → (k ≡ 0 → ⊥) → k ≡ first_refusal ys → k ≡ first_refusal (xs ++ ys ++ zs)
    by_second k some e = stops (xs ++ ys) zs (goes_on xs ys (sym first) refl e) some

    pub by_third : first_refusal ys ≡ 0 → first_refusal zs ≡ first_refusal (xs ++ ys ++ zs)
    by_third second = sym (passed_front (xs ++ ys) zs (passed_front xs ys first ∙ second))

-- an answer at the front of a buffer, under other checks that refuse alike, where the same bytes are made with the answer 0
pub front_as : {cs ds : List Check} {made made' old : List ℕ} {before answer : ℕ} {lent : List ℕ} {after : ℕ}
    → first_refusal cs ≡ first_refusal ds → (answer ≡ 0 → made ≡ made')
    → AnswersFront cs made old before answer lent after → AnswersFront ds made' old before answer lent after
front_as {made = made} {made' = made'} {old = old} {before = before} {answer = answer} same bytes a =
    record {
      answers =
          record { answer = a.answers.answer ∙ same; content = a.answers.content ∙ content (eqb answer 0) refl };
      size = a.size ∙ size (eqb answer 0) refl;
    }
  where
    content : (b : Bool) → eqb answer 0 ≡ b
        → pick b (made ++ drop (length made) old) old ≡ pick b (made' ++ drop (length made') old) old
    content true e = ap (λ (l : List ℕ). l ++ drop (length l) old) (bytes (eqb-true answer 0 e))
    content false e = refl

    size : (b : Bool) → eqb answer 0 ≡ b → pick b (length made) before ≡ pick b (length made') before
    size true e = ap length (bytes (eqb-true answer 0 e))
    size false e = refl
