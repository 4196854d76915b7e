-- A package of a line is one of the profile that the line means. Assumes nothing.
use mathlib.Core.Path.{◌≡◌, ◌∙◌, sym}
use mathlib.Core.List.{List, [], ◌∷◌, ◌++◌}
use Prim.Native.Nat.{ℕ}
use lib.ListN.{length}
use Rattle.outcome.specs.Answer.{bad_profile, Check, ◌unless◌, first_refusal}
use Rattle.outcome.specs.Result.{Result, Ok, refusal_in}
use Rattle.outcome.proofs.Results.{result_done}
use Rattle.outcome.proofs.Checks.{answered, both_passed, passed_front}
use Rattle.parameters.specs.declared.Params.{Params}
use Rattle.profile.specs.declared.Profile.{Profile}
use Rattle.profile.specs.Rules.{valid}
use Rattle.profile.specs.Table.{table_of}
use Rattle.profile.specs.Line.{line_of, read_line}
use Rattle.profile.proofs.Theorems.{writes_read}
use Rattle.scheme.specs.Sign.{signature_size, sign_checks}
use Rattle.package.specs.Package.{make_sizes, make_checks, make_from_line_checks}
use Rattle.package.specs.Entries.{MakesPackage, MakesFromLine}

-- what was read, where reading does not refuse
pub read_done : {A : Type 0} (x : Result A) → first_refusal (refusal_in x) ≡ 0 → (a : A) × (x ≡ Ok a)
read_done x e = result_done x e

-- what the answer 0 of making from a line says
pub record Made (p : Params) (table private master salt line lent : List ℕ) (before : ℕ)
    (sealed : List ℕ) (size : ℕ) : Type 0 where
  pub profile : Profile
  pub read : read_line (table_of table) line ≡ Ok profile
  pub signed : first_refusal (sign_checks p private master salt line (signature_size p)) ≡ 0
  pub makes : MakesPackage p table private master salt profile lent before 0 sealed size

module _ (p : Params) (table private master salt line : List ℕ) where
  record Passes (lent : ℕ) : Type 0 where
    profile : Profile
    read : read_line (table_of table) line ≡ Ok profile
    signed : first_refusal (sign_checks p private master salt line (signature_size p)) ≡ 0
    same_checks : first_refusal (make_checks p table private master salt profile lent) ≡ 0

  passes : (lent : ℕ) → first_refusal (make_from_line_checks p table private master salt line lent) ≡ 0 → Passes lent
  unfolding make_from_line_checks make_checks
  passes lent e =
      let sizes : List Check = make_sizes p table private master salt lent in
      let reading : List Check = refusal_in (read_line (table_of table) line) in
      let all = both_passed (sizes ++ reading) (sign_checks p private master salt line (signature_size p)) e in
      let front = both_passed sizes reading all.0 in
      let found = read_done (read_line (table_of table) line) front.1 in
      let back = writes_read (table_of table) line found.0 found.1 in
      let rule : List Check = bad_profile unless valid (table_of table) found.0 ∷ [] in
      let holds : first_refusal rule ≡ 0 = answered rule (back.1, tt) in
      record {
        profile = found.0;
        read = found.1;
        signed = all.1;
        same_checks =
            passed_front (sizes ++ rule) (sign_checks p private master salt (line_of found.0) (signature_size p))
            (passed_front sizes rule front.0 ∙ holds)
            ∙ rw back.0 all.1;
      }

  pub made : {lent sealed : List ℕ} {before size : ℕ}
      → MakesFromLine p table private master salt line lent before 0 sealed size
      → Made p table private master salt line lent before sealed size
  made {lent} makes =
      let m = passes (length lent) (sym makes.answers.answer) in
      let is : line_of m.profile ≡ line = (writes_read (table_of table) line m.profile m.read).0 in
      record {
        profile = m.profile;
        read = m.read;
        signed = m.signed;
        makes =
            record {
              answers = record { answer = sym m.same_checks; content = rw is makes.answers.content };
              size = rw is makes.size;
            };
      }
