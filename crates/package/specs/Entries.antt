-- What making, opening and loading a package answer, and the final content of what was lent.
-- Assumes nothing.
use Rattle.std.specs.Prelude.{◌≡◌, List, ℕ, ◌≤◌, length}
use Rattle.outcome.specs.Answer.{first_refusal, AnswersFront}
use Rattle.parameters.specs.declared.Params.{Params}
use Rattle.profile.specs.declared.Profile.{Profile}
use Rattle.outcome.specs.Result.{Result, Ok}
use Rattle.profile.specs.Rules.{Class}
use Rattle.profile.specs.Line.{longest, line_of, read_line}
use Rattle.scheme.specs.Sign.{signature_size, sign_checks}
use Rattle.store.specs.Stored.{classes_of}
use Rattle.store.specs.Calls.{Taken}
use Rattle.package.specs.Package.{
  package_max,
  package_of,
  make_checks,
  make_from_line_checks,
  line_in,
  opened,
  load_checks,
}

module _ (p : Params) where
  -- ---- making: the package at the front of what was lent, past it the bytes as they were, and its length; after a
  -- refusal bytes and length are as they were

  -- bytes for the longest package are lent, and the line is none that is longer
  abbrev pub Room : List ℕ → List ℕ → Type 0
  Room line out = (length out ≡ package_max p) × (length line ≤ longest)

  -- of a line whose sizes were tested
  abbrev pub Seals : List ℕ → List ℕ → List ℕ → List ℕ → List ℕ → ℕ → ℕ → List ℕ → ℕ → Type 0
  Seals private master salt line old =
      AnswersFront (sign_checks p private master salt line (signature_size p)) (package_of p private master salt line) old

  abbrev pub MakesPackage : List ℕ → List ℕ → List ℕ → List ℕ → Profile → List ℕ → ℕ → ℕ → List ℕ → ℕ → Type 0
  MakesPackage table private master salt profile old =
      AnswersFront (make_checks p table private master salt profile (length old))
      (package_of p private master salt (line_of profile)) old

  abbrev pub MakesFromLine : List ℕ → List ℕ → List ℕ → List ℕ → List ℕ → List ℕ → ℕ → ℕ → List ℕ → ℕ → Type 0
  MakesFromLine table private master salt line old =
      AnswersFront (make_from_line_checks p table private master salt line (length old))
      (package_of p private master salt line) old

  -- ---- opening

  abbrev pub Opens : (table : List Class) (key sealed : List ℕ) (r : Result Profile) → Type 0
  Opens table key sealed r = r ≡ opened p table key sealed

  -- ---- loading

  -- With the answer 0 the profile of the package's line stands in one slot of the store's image, whichever the program
  -- chose, and every other byte is as it was; after a refusal all bytes are.
  pub record Loads (table : List Class) (key sealed country : List ℕ) (class hertz : ℕ) (old : List ℕ) (answer : ℕ)
      (new : List ℕ) : Type 0 where
    pub answers : answer ≡ first_refusal (load_checks p table key sealed country class hertz old)
    pub taken : answer ≡ 0
        → (profile : Profile) × (read_line table (line_in p sealed) ≡ Ok profile) × Taken profile old new
    pub kept : (answer ≡ 0 → ⊥) → new ≡ old

  -- the same under the store's own classes, which is what loading promises (document 02, M-108)
  abbrev pub LoadsByStore : List ℕ → List ℕ → List ℕ → ℕ → ℕ → List ℕ → ℕ → List ℕ → Type 0
  LoadsByStore key sealed country class hertz old = Loads (classes_of old) key sealed country class hertz old
