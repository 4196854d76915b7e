-- What an entry answers that writes the line of something found in an image, once its first checks hold: of every class
-- table, whatever is asked for and whatever is found. Assumes nothing.
use mathlib.Core.Path.{◌≡◌, refl, ◌∙◌, sym, ap, subst}
use mathlib.Core.Bool.{Bool, true}
use mathlib.Core.List.{List, [], ◌∷◌}
use Prim.Native.Nat.{ℕ}
use lib.ListN.{length}
use borrow.Author.Tests.{eq-eqb}
use Rattle.outcome.specs.Answer.{not_stored, bad_profile, Check, ◌unless◌, first_refusal, AnswersFront}
use Rattle.outcome.specs.Result.{Result, Ok, Err}
use Rattle.outcome.proofs.Checks.{refuses}
use Rattle.profile.specs.declared.Profile.{Profile}
use Rattle.profile.specs.Rules.{Class, valid}
use Rattle.profile.specs.Line.{longest, write_checks}
use Rattle.image.specs.Entries.{WritesProfileLine}
use Rattle.image.proofs.EntryLaws.{answers_as}
use Rattle.store.specs.Stored.{store_size, is_done}
use Rattle.store.specs.Calls.{valid_in, found_line, found_checks, WritesFound}

-- what is asked for exists, and the sizes are right
module _ (table : List Class) (image country old : List ℕ) {exists : Bool} (two : length country ≡ 2) (set : exists ≡ true)
    (size : length image ≡ store_size) (room : length old ≡ longest) where
  checks_left : (found : Result Profile) → first_refusal (found_checks table image country exists found old)
      ≡ first_refusal (not_stored unless is_done found ∷ bad_profile unless valid_in table found ∷ [])
  checks_left found =
      rw (eq-eqb (length country) 2 two, set, eq-eqb (length image) store_size size, eq-eqb (length old) longest room)

  pub nothing_found : {found : Result Profile} {before : ℕ} → Err not_stored ≡ found
      → WritesFound table image country exists found old before 9 old before
  nothing_found {found} none =
      record { answers = refuses not_stored (sym (checks_left found ∙ rw (← none))) refl; size = refl }

  pub line_found : {found : Result Profile} {p : Profile} {before k after : ℕ} {new : List ℕ} → Ok p ≡ found
      → WritesProfileLine table p old before k new after → WritesFound table image country exists found old before k new after
  line_found {found} {p} {before} {k} {after} {new} it puts =
      let checks : List Check = found_checks table image country exists found old in
      let left : first_refusal (write_checks table p old) ≡ first_refusal (bad_profile unless valid table p ∷ []) =
      rw (eq-eqb (length old) longest room) in
      let same : first_refusal (write_checks table p old) ≡ first_refusal checks =
      left ∙ sym (checks_left found ∙ rw (← it)) in
      subst (λ (l : List ℕ). AnswersFront checks l old before k new after) (ap found_line it)
      (record { answers = answers_as same puts.answers; size = puts.size })
