-- What the entries that write a line answer. Assumes nothing.
use mathlib.Core.Path.{◌≡◌, refl, ◌∙◌}
use mathlib.Core.Bool.{true, false}
use mathlib.Core.List.{List, [], ◌∷◌, ◌++◌}
use Prim.Native.Nat.{ℕ}
use lib.Dec.{eqb}
use lib.ListN.{length, drop}
use borrow.Author.Tests.{eq-eqb, ne_eqb}
use Rattle.outcome.specs.Answer.{Check, ◌unless◌, number_of, first_refusal, pick, Answers, AnswersFront}
use Rattle.outcome.specs.Result.{Result, answer, number_in, length_in}
use Rattle.outcome.proofs.Checks.{number_positive}
use Rattle.profile.specs.Table.{table_size, table_of}
use Rattle.image.specs.Image.{profile_size, profile_of}
use Rattle.image.specs.Entries.{WritesProfileLine, WritesImage}

-- the number of what a list of checks answers, and the length that C sees after
pub number_answer : {A : Type 0} (cs : List Check) (a : A) → number_in (answer cs a) ≡ first_refusal cs
number_answer [] a = refl
number_answer (r unless true ∷ cs) a = number_answer cs a
number_answer (r unless false ∷ cs) a = refl

length_answer : (cs : List Check) (n before : ℕ)
    → length_in before (answer cs n) ≡ pick (eqb (number_in (answer cs n)) 0) n before
length_answer [] n before = refl
length_answer (r unless true ∷ cs) n before = length_answer cs n before
length_answer (r unless false ∷ cs) n before = rw (ne_eqb (number_of r) 0 (number_positive r))

-- an entry that returns the length of what it wrote
pub answers_front : (cs : List Check) (made old : List ℕ) (before : ℕ) {r : Result ℕ} {new : List ℕ}
    → r ≡ answer cs (length made)
    → new ≡ pick (eqb (number_in (answer cs (length made))) 0) (made ++ drop (length made) old) old
    → AnswersFront cs made old before (number_in r) new (length_in before r)
answers_front cs made old before answered content =
    rw answered
    (record {
      answers = record { answer = number_answer cs (length made); content = content };
      size = length_answer cs (length made) before;
    })

-- the same answer under other checks that refuse alike
pub answers_as : {cs ds : List Check} {made old lent : List ℕ} {k : ℕ} → first_refusal cs ≡ first_refusal ds
    → Answers cs made old k lent → Answers ds made old k lent
answers_as e a = record { answer = a.answer ∙ e; content = a.content }

-- after the sizes of the images
pub write_image_line : (table image old : List ℕ) (before : ℕ) {k after : ℕ} {new : List ℕ}
    → length table ≡ table_size → length image ≡ profile_size
    → WritesProfileLine (table_of table) (profile_of image) old before k new after → WritesImage table image old before k new after
write_image_line table image old before right size w =
    record {
      answers = answers_as (rw (eq-eqb (length table) table_size right, eq-eqb (length image) profile_size size)) w.answers;
      size = w.size;
    }
