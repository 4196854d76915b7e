-- In an image that the library made, what is found answers as the map does: the law that lookup and nearest share. Assumes
-- nothing.
use mathlib.Core.Path.{◌≡◌, refl, ap}
use mathlib.Core.Bool.{Bool}
use mathlib.Core.List.{List}
use Prim.Native.Nat.{ℕ}
use lib.Dec.{T, eqb}
use lib.ListN.{length}
use borrow.Author.Tests.{eq-eqb}
use Rattle.outcome.specs.Answer.{first_refusal, pick}
use Rattle.outcome.specs.Result.{Result, Ok, Err}
use Rattle.profile.specs.declared.Profile.{Profile}
use Rattle.profile.specs.Rules.{Class, valid}
use Rattle.profile.specs.Line.{longest}
use Rattle.profile.proofs.RuleLaws.{holds}
use Rattle.store.specs.Stored.{store_size, is_done}
use Rattle.store.specs.Calls.{valid_in, found_checks}
use Rattle.package.specs.Images.{in_map_checks}

-- what is valid is not refused with 5
valid_found : (table : List Class) (found : Result Profile) → ((p : Profile) → found ≡ Ok p → T (valid table p))
    → ◌≡◌ {A = ℕ} (pick (is_done found) (pick (valid_in table found) 0 5) 9) (pick (is_done found) 0 9)
valid_found table (Ok p) ok = ap (λ (b : Bool). pick b 0 5) (holds (valid table p) (ok p refl))
valid_found table (Err r) ok = refl

-- in an image of its size, where what is found is valid, the checks refuse as those of a map
pub as_found : (table : List Class) (image country old : List ℕ) (exists : Bool) (found : Result Profile)
    → length image ≡ store_size → ((p : Profile) → found ≡ Ok p → T (valid table p))
    → first_refusal (found_checks table image country exists found old)
    ≡ first_refusal (in_map_checks country exists found old)
as_found table image country old exists found whole ok =
    rw (eq-eqb (length image) store_size whole)
    (ap (λ (n : ℕ). pick (eqb (length country) 2) (pick exists (pick (eqb (length old) longest) n 1) 10) 10)
    (valid_found table found ok))
