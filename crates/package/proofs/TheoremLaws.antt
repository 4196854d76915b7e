-- The checks of making and of loading, list by list, and a package taken apart. Assumes nothing.
use mathlib.Core.Path.{◌≡◌, refl, ◌∙◌, sym, ap}
use mathlib.Core.Bool.{true}
use mathlib.Core.List.{List, [], ◌∷◌, ◌++◌}
use Prim.Native.Nat.{ℕ, ◌+◌}
use native.Mathlib.Omega.{arith}
use lib.Dec.{T, eqb}
use lib.ListN.{length, length-append}
use lib.Seq.{take_at, drop_at}
use borrow.Author.Tests.{eq-eqb}
use Rattle.outcome.specs.Answer.{bad_size, bad_profile, bad_device, Check, ◌unless◌, first_refusal}
use Rattle.outcome.proofs.Checks.{passed, passed_front, both_passed}
use Rattle.parameters.specs.declared.Params.{Params}
use Rattle.profile.specs.declared.Profile.{Profile}
use Rattle.outcome.specs.Result.{Ok, refusal_in}
use Rattle.profile.specs.Rules.{Class, valid}
use Rattle.profile.specs.Table.{table_of}
use Rattle.profile.specs.Line.{line_of, read_line}
use Rattle.profile.proofs.RuleLaws.{holds, inside}
use Rattle.profile.proofs.Theorems.{line_lengths_hold, reads_written}
use Rattle.scheme.specs.Key.{key_size}
use Rattle.scheme.specs.Sign.{signature_size, sign_checks}
use Rattle.scheme.specs.Verify.{verify_sizes, verify_checks, verify}
use Rattle.store.specs.declared.Device.{Device}
use Rattle.store.specs.Keys.{device_of, device_ok}
use Rattle.store.specs.Stored.{store_size, stored}
use Rattle.store.specs.Calls.{put_number}
use Rattle.store.proofs.PutLaws.{put_number_lem}
use Rattle.package.specs.Package.{
  package_min,
  package_max,
  make_sizes,
  make_checks,
  signature_in,
  line_in,
  open_sizes,
  open_checks,
  opened,
  store_checks,
  load_checks,
}
use Rattle.package.proofs.OpenLaws.{opened_passed}

-- ---- making

-- answered 0, hence the line is signed
pub made_signed : (p : Params) (table private master salt : List ℕ) (profile : Profile) (lent : ℕ)
    → first_refusal (make_checks p table private master salt profile lent) ≡ 0
    → first_refusal (sign_checks p private master salt (line_of profile) (signature_size p)) ≡ 0
unfolding make_checks
made_signed p table private master salt profile lent e =
    let sizes : List Check = make_sizes p table private master salt lent in
    let rule : List Check = bad_profile unless valid (table_of table) profile ∷ [] in
    (both_passed (sizes ++ rule) (sign_checks p private master salt (line_of profile) (signature_size p)) e).1

-- ---- loading

-- the stages of loading, each answered 0
pub record LoadPassed (p : Params) (table : List Class) (key sealed country : List ℕ) (class hertz : ℕ)
    (old : List ℕ) : Type 0 where
  pub two : eqb (length country) 2 ≡ true
  pub device_ok_lem : device_ok table (device_of country class hertz) ≡ true
  pub whole : eqb (length old) store_size ≡ true
  pub sized : first_refusal (open_sizes p (length key) (length sealed)) ≡ 0
  pub verified : verify p key (line_in p sealed) (signature_in p sealed) ≡ 0
  pub read : first_refusal (refusal_in (read_line table (line_in p sealed))) ≡ 0
  pub storing :
      first_refusal (store_checks (device_of country class hertz) (stored old) (read_line table (line_in p sealed))) ≡ 0

module _ (p : Params) (table : List Class) (key sealed country : List ℕ) (class hertz : ℕ) (old : List ℕ) where
  abbrev front : List Check
  front =
      bad_device unless eqb (length country) 2
      ∷ bad_device unless device_ok table (device_of country class hertz)
      ∷ bad_size unless eqb (length old) store_size
      ∷ []

  abbrev sizes : List Check
  sizes = open_sizes p (length key) (length sealed)

  abbrev verifying : List Check
  verifying = verify_checks p key (line_in p sealed) (signature_in p sealed)

  abbrev reading : List Check
  reading = refusal_in (read_line table (line_in p sealed))

  abbrev opens : List Check
  opens = open_checks p table key sealed

  abbrev stores : List Check
  stores = store_checks (device_of country class hertz) (stored old) (opened p table key sealed)

  -- what is stored is what was read
  stores_read : first_refusal opens ≡ 0
      → first_refusal stores
      ≡ first_refusal (store_checks (device_of country class hertz) (stored old) (read_line table (line_in p sealed)))
  stores_read e = rw (opened_passed p table key sealed e) refl

  pub load_passed : first_refusal (load_checks p table key sealed country class hertz old) ≡ 0
      → LoadPassed p table key sealed country class hertz old
  unfolding load_checks open_checks verify
  load_passed e =
      let first = both_passed front (opens ++ stores) e in
      let second = both_passed opens stores first.1 in
      let third = both_passed sizes (verifying ++ reading) second.0 in
      let fourth = both_passed verifying reading third.1 in
      let tests = passed front first.0 in
      record {
        two = holds (eqb (length country) 2) tests.0;
        device_ok_lem = holds (device_ok table (device_of country class hertz)) tests.1.0;
        whole = holds (eqb (length old) store_size) tests.1.1.0;
        sized = third.0;
        verified = fourth.0;
        read = fourth.1;
        storing = sym (stores_read second.0) ∙ second.1;
      }

  pub load_accepts : LoadPassed p table key sealed country class hertz old
      → first_refusal (load_checks p table key sealed country class hertz old) ≡ 0
  unfolding load_checks open_checks verify
  load_accepts all =
      let opening : first_refusal opens ≡ 0 =
      passed_front sizes (verifying ++ reading) all.sized
      ∙ (passed_front verifying reading all.verified ∙ all.read) in
      passed_front front (opens ++ stores) (rw (all.two, all.device_ok_lem, all.whole))
      ∙ (passed_front opens stores opening ∙ (stores_read opening ∙ all.storing))

-- where a profile is read, what is left is putting it
pub storing_put : (p : Params) (table : List Class) (sealed : List ℕ) (device : Device) (ps : List Profile)
    (profile : Profile)
    → read_line table (line_in p sealed) ≡ Ok profile
    → first_refusal (store_checks device ps (read_line table (line_in p sealed))) ≡ put_number device profile ps
storing_put p table sealed device ps profile read = rw read (sym (put_number_lem device profile ps))

-- what the verifier answers 0 for has a key of its size
pub key_sized : (p : Params) (key msg sig : List ℕ) → verify p key msg sig ≡ 0 → eqb (length key) (key_size p) ≡ true
unfolding verify verify_checks verify_sizes
key_sized p key msg sig e = holds (eqb (length key) (key_size p)) (passed (verify_checks p key msg sig) e).0

-- ---- a package

module _ (p : Params) (sig line : List ℕ) (sized : length sig ≡ signature_size p) where
  pub signature_back : signature_in p (sig ++ line) ≡ sig
  unfolding signature_in
  signature_back = take_at sig line (signature_size p) sized

  pub line_back : line_in p (sig ++ line) ≡ line
  unfolding line_in
  line_back = drop_at sig line (signature_size p) sized

-- ---- the package of a valid profile whose signature verifies is accepted where device and store are right and putting
-- is accepted

module _ (p : Params) (table : List Class) (key sig country : List ℕ) (class hertz : ℕ) (profile : Profile)
    (old : List ℕ) where
  pub package_loads : T (valid table profile) → length sig ≡ signature_size p → verify p key (line_of profile) sig ≡ 0
      → length country ≡ 2 → device_ok table (device_of country class hertz) ≡ true → length old ≡ store_size
      → put_number (device_of country class hertz) profile (stored old) ≡ 0
      → first_refusal (load_checks p table key (sig ++ line_of profile) country class hertz old) ≡ 0
  package_loads ok sized verified two fine whole put =
      let sealed : List ℕ = sig ++ line_of profile in
      let line : line_in p sealed ≡ line_of profile = line_back p sig (line_of profile) sized in
      let bounds = line_lengths_hold table profile ok in
      let long : length sealed ≡ signature_size p + length (line_of profile) =
      length-append sig (line_of profile) ∙ ap (λ (k : ℕ). k + length (line_of profile)) sized in
      let read : read_line table (line_in p sealed) ≡ Ok profile = rw line (reads_written table profile ok) in
      load_accepts p table key sealed country class hertz old
      (record {
        two = eq-eqb (length country) 2 two;
        device_ok_lem = fine;
        whole = eq-eqb (length old) store_size whole;
        sized = rw (
          key_sized p key (line_of profile) sig verified,
          inside (package_min p) (package_max p) (length sealed) (omega (arith, bounds.0)) (omega (arith, bounds.1)),
        );
        verified = rw (line, signature_back p sig (line_of profile) sized) verified;
        read = rw read refl;
        storing = storing_put p table sealed (device_of country class hertz) (stored old) profile read ∙ put;
      })
