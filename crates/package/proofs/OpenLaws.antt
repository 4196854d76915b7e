-- What opening a package answers: its stages one after the other, of which the first that refuses decides.
-- Assumes nothing.
use mathlib.Core.Path.{◌≡◌, refl, ◌∙◌, sym, ap, subst}
use mathlib.Core.Bool.{true, false, ◌&&◌}
use mathlib.Core.List.{List, [], ◌∷◌, ◌++◌, append_assoc}
use Prim.Native.Nat.{ℕ, ◌-◌, ◌≤◌}
use native.Mathlib.Omega.{arith}
use lib.Dec.{T, leb, leb→le}
use lib.ListN.{length, take, drop}
use borrow.Author.Rules.{part_to_end}
use Rattle.outcome.specs.declared.refusal.Refusal.{Refusal}
use Rattle.outcome.specs.Answer.{number_of, Check, ◌unless◌, first_refusal}
use Rattle.outcome.specs.Result.{Result, Ok, Err, number_in, refusal_in}
use Rattle.outcome.proofs.Checks.{number_positive, passed}
use Rattle.outcome.proofs.Results.{result_refused}
use Rattle.parameters.specs.declared.Params.{Params}
use Rattle.profile.specs.declared.Profile.{Profile}
use Rattle.profile.specs.Rules.{Class}
use Rattle.profile.specs.Line.{read_line}
use Rattle.scheme.specs.Sign.{signature_size}
use Rattle.scheme.specs.Verify.{verify_checks, verify}
use Rattle.outcome.proofs.Answering.{stops, goes_on}
use Rattle.outcome.proofs.Computed.{both_left}
use Rattle.store.specs.Calls.{after}
use Rattle.package.specs.Package.{package_min, package_max, signature_in, line_in, open_sizes, open_checks, opened}
use Rattle.package.specs.Entries.{Opens}

-- ---- the parts of a package

-- a package of a right size has all of a signature
pub signature_within : (p : Params) (key sealed : ℕ) → first_refusal (open_sizes p key sealed) ≡ 0
    → signature_size p ≤ sealed
signature_within p key sealed e =
    let inside : T (leb (package_min p) sealed && leb sealed (package_max p)) = (passed (open_sizes p key sealed) e).1.0 in
    let least : package_min p ≤ sealed =
    leb→le (package_min p) sealed (both_left (leb (package_min p) sealed) (leb sealed (package_max p)) inside) in
    omega arith

-- before and behind the end of its signature
module _ (p : Params) (sealed : List ℕ) (n : ℕ) (size : n ≡ signature_size p) where
  signature_part : take n sealed ≡ signature_in p sealed
  unfolding signature_in
  signature_part = ap (λ (k : ℕ). take k sealed) size

  line_part : take (length sealed - n) (drop n sealed) ≡ line_in p sealed
  unfolding line_in
  line_part = part_to_end sealed n ∙ ap (λ (k : ℕ). drop k sealed) size

  -- what the verifier and the reader of lines answer for these parts
  pub verify_parts : (key : List ℕ) {k : ℕ}
      → k ≡ verify p key (take (length sealed - n) (drop n sealed)) (take n sealed)
      → k ≡ verify p key (line_in p sealed) (signature_in p sealed)
  verify_parts key e =
      e
      ∙ (ap (λ (line : List ℕ). verify p key line (take n sealed)) line_part
      ∙ ap (λ (sig : List ℕ). verify p key (line_in p sealed) sig) signature_part)

  pub read_part : (table : List Class) {x : Result Profile}
      → x ≡ read_line table (take (length sealed - n) (drop n sealed))
      → x ≡ read_line table (line_in p sealed)
  read_part table e = e ∙ ap (λ (line : List ℕ). read_line table line) line_part

-- ---- a result behind checks

module _ {A : Type 0} where
  -- checks, and then that there is a value
  after_passed : (cs : List Check) (x : Result A) → first_refusal cs ≡ 0 → after cs x ≡ x
  after_passed [] x e = refl
  after_passed (r unless true ∷ cs) x e = after_passed cs x e
  after_passed (r unless false ∷ cs) x e = absurd (passed (r unless false ∷ cs) e).0

  after_number_lem : (cs : List Check) (x : Result A)
      → number_in (after (cs ++ refusal_in x) x) ≡ first_refusal (cs ++ refusal_in x)
  after_number_lem [] (Ok a) = refl
  after_number_lem [] (Err r) = refl
  after_number_lem (r unless true ∷ cs) x = after_number_lem cs x
  after_number_lem (r unless false ∷ cs) x = refl

-- ---- stages

module _ (p : Params) (table : List Class) (key sealed : List ℕ) where
  abbrev Sizes : List Check
  Sizes = open_sizes p (length key) (length sealed)

  abbrev Verifying : List Check
  Verifying = verify_checks p key (line_in p sealed) (signature_in p sealed)

  abbrev Reading : List Check
  Reading = refusal_in (read_line table (line_in p sealed))

  pub opened_number : number_in (opened p table key sealed) ≡ first_refusal (open_checks p table key sealed)
  unfolding opened open_checks
  opened_number =
      let read : Result Profile = read_line table (line_in p sealed) in
      subst (λ (cs : List Check). number_in (after cs read) ≡ first_refusal cs) (append_assoc Sizes Verifying Reading)
      (after_number_lem (Sizes ++ Verifying) read)

  pub opened_passed : first_refusal (open_checks p table key sealed) ≡ 0
      → opened p table key sealed ≡ read_line table (line_in p sealed)
  unfolding opened
  opened_passed e = after_passed (open_checks p table key sealed) (read_line table (line_in p sealed)) e

  -- ---- what is answered

  refuses : (q : Refusal) → number_of q ≡ first_refusal (open_checks p table key sealed) → Opens p table key sealed (Err q)
  refuses q e = sym (result_refused (opened p table key sealed) q (opened_number ∙ sym e))

  pub open_sizes_lem : (q : Refusal) → number_of q ≡ first_refusal Sizes → Opens p table key sealed (Err q)
  unfolding open_checks
  open_sizes_lem q e = refuses q (stops Sizes (Verifying ++ Reading) e (number_positive q))

  module _ (sized : first_refusal Sizes ≡ 0) where
    pub open_verify : (q : Refusal) → number_of q ≡ verify p key (line_in p sealed) (signature_in p sealed)
        → Opens p table key sealed (Err q)
    unfolding open_checks verify
    open_verify q e =
        refuses q (goes_on Sizes (Verifying ++ Reading) (sym sized) refl (stops Verifying Reading e (number_positive q)))

    module _ (verified : verify p key (line_in p sealed) (signature_in p sealed) ≡ 0) where
      -- the line decides
      last : {k : ℕ} → k ≡ first_refusal Reading → k ≡ first_refusal (open_checks p table key sealed)
      unfolding open_checks verify
      last e = goes_on Sizes (Verifying ++ Reading) (sym sized) refl (goes_on Verifying Reading (sym verified) refl e)

      pub open_line : (r : Result Profile) → r ≡ read_line table (line_in p sealed) → Opens p table key sealed r
      open_line (Ok profile) read = read ∙ sym (opened_passed (sym (last (rw (← read) refl))))
      open_line (Err q) read = refuses q (last (rw (← read) refl))

  -- ---- what an answer says

  pub refusal_opened : {q : Refusal} → Opens p table key sealed (Err q)
      → number_of q ≡ first_refusal (open_checks p table key sealed)
  refusal_opened opens = ap number_in opens ∙ opened_number

  pub profile_opened : {profile : Profile} → Opens p table key sealed (Ok profile)
      → first_refusal (open_checks p table key sealed) ≡ 0
  profile_opened opens = sym opened_number ∙ sym (ap number_in opens)
