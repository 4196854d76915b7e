-- What the preview answers, as C gets it: a number and a length. Assumes nothing.
use mathlib.Core.Path.{refl, ◌∙◌, ap}
use mathlib.Core.List.{List, ◌++◌}
use Prim.Native.Nat.{ℕ}
use lib.ListN.{length, drop}
use borrow.Author.Tests.{ne_eqb}
use Rattle.outcome.specs.Answer.{number_of, Answers}
use Rattle.outcome.specs.Result.{Result, Ok, Err, number_in, length_in}
use Rattle.outcome.proofs.Checks.{number_positive}
use Rattle.profile.specs.Table.{table_of}
use Rattle.image.proofs.EntryLaws.{number_answer}
use Rattle.preview.specs.Preview.{listing, preview_checks, Previews, PreviewsTo}
use Rattle.preview.proofs.EntryLaws.{length_listed}

module _ (table input old lent : List ℕ) where
  abbrev text : List ℕ
  text = listing (table_of table) input

  -- the number of the answer is that of the first check that fails
  numbered : (r : Result ℕ) → Previews table input old r lent
      → Answers (preview_checks table old) (text ++ drop (length text) old) old (number_in r) lent
  numbered r previews =
      record {
        answer = ap number_in previews.answered ∙ number_answer (preview_checks table old) (length text);
        content = previews.content;
      }

  pub listed : (r : Result ℕ) → Previews table input old r lent → (before : ℕ)
      → PreviewsTo table input old before (number_in r) lent (length_in before r)
  listed (Ok n) previews before = record { answers = numbered (Ok n) previews; size = length_listed previews }
  listed (Err q) previews before =
      record { answers = numbered (Err q) previews; size = rw (ne_eqb (number_of q) 0 (number_positive q)) refl }
