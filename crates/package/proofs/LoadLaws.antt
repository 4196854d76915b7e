-- What loading answers: the device, the store's size, opening, storing, of which the first that refuses decides.
-- Assumes nothing.
use mathlib.Core.Path.{◌≡◌, refl, ◌∙◌, sym, subst}
use mathlib.Core.Bool.{true, false}
use mathlib.Core.List.{List, ◌++◌}
use Prim.Native.Nat.{ℕ}
use native.Mathlib.Omega.{arith}
use lib.ListN.{length}
use borrow.Author.Tests.{eq-eqb, ne_eqb}
use Rattle.outcome.specs.declared.refusal.Refusal.{Refusal}
use Rattle.outcome.specs.Answer.{number_of, Check, first_refusal}
use Rattle.parameters.specs.declared.Params.{Params}
use Rattle.profile.specs.declared.Profile.{Profile}
use Rattle.outcome.specs.Result.{Ok, Err}
use Rattle.outcome.proofs.Checks.{number_positive, both_passed, passed_front}
use Rattle.profile.specs.Rules.{Class}
use Rattle.profile.proofs.Theorems.{writes_read}
use Rattle.image.specs.Image.{has_image}
use Rattle.image.proofs.Theorems.{valid_fits}
use Rattle.outcome.proofs.Answering.{stops, goes_on}
use Rattle.store.specs.declared.Device.{Device}
use Rattle.store.specs.Keys.{device_of, device_ok}
use Rattle.store.specs.Stored.{store_size, stored}
use Rattle.store.specs.Calls.{put_number, Puts}
use Rattle.store.proofs.PutLaws.{put_number_lem, put_sized}
use Rattle.package.specs.Package.{store_checks, line_in, open_checks, opened, load_checks}
use Rattle.package.specs.Entries.{Opens, Loads}
use Rattle.package.proofs.OpenLaws.{opened_number, opened_passed, refusal_opened, profile_opened}

-- what was opened is valid, and so an image can mean it
opened_kinds : (p : Params) (table : List Class) (key sealed : List ℕ) {profile : Profile}
    → Opens p table key sealed (Ok profile) → has_image profile ≡ true
opened_kinds p table key sealed {profile} opens =
    let read = sym (opened_passed p table key sealed (profile_opened p table key sealed opens)) ∙ sym opens in
    (valid_fits table profile (writes_read table (line_in p sealed) profile read).1).kinds

module _ (p : Params) (table : List Class) (key sealed country : List ℕ) (class hertz : ℕ) (old : List ℕ) where
  abbrev All : List Check
  All = load_checks p table key sealed country class hertz old

  abbrev device : Device
  device = device_of country class hertz

  abbrev Answered : ℕ → List ℕ → Type 0
  Answered = Loads p table key sealed country class hertz old

  -- a refusal, and all bytes as they were
  refuses : (k : ℕ) → k ≡ first_refusal All → (k ≡ 0 → ⊥) → Answered k old
  refuses k e some = record { answers = e; taken = λ z. absurd (some z); kept = λ _. refl }

  pub load_country : (length country ≡ 2 → ⊥) → Answered 10 old
  unfolding load_checks
  load_country other = refuses 10 (rw (ne_eqb (length country) 2 other)) (λ z. omega arith)

  module _ (two : length country ≡ 2) where
    pub load_device : device_ok table device ≡ false → Answered 10 old
    unfolding load_checks
    load_device bad = refuses 10 (rw (eq-eqb (length country) 2 two, bad)) (λ z. omega arith)

    module _ (set : device_ok table device ≡ true) where
      pub load_size : (length old ≡ store_size → ⊥) → Answered 1 old
      unfolding load_checks
      load_size other =
          refuses 1 (rw (eq-eqb (length country) 2 two, set, ne_eqb (length old) store_size other)) (λ z. omega arith)

      module _ (size : length old ≡ store_size) where
        abbrev Opening : List Check
        Opening = open_checks p table key sealed

        abbrev Storing : List Check
        Storing = store_checks device (stored old) (opened p table key sealed)

        -- opening and storing decide
        behind : first_refusal All ≡ first_refusal (Opening ++ Storing)
        unfolding load_checks
        behind = rw (eq-eqb (length country) 2 two, set, eq-eqb (length old) store_size size)

        -- of a package that opens, storing decides
        pub load_number : (profile : Profile) → opened p table key sealed ≡ Ok profile
            → first_refusal All ≡ put_number device profile (stored old)
        load_number profile found =
            let zero : first_refusal Opening ≡ 0 = sym (opened_number p table key sealed) ∙ rw found refl in
            behind ∙ (passed_front Opening Storing zero ∙ rw found (sym (put_number_lem device profile (stored old))))

        -- where the answer is 0 the package opens
        pub load_opens : first_refusal All ≡ 0 → first_refusal Opening ≡ 0
        load_opens e = (both_passed Opening Storing (sym behind ∙ e)).0

        pub load_refused : (q : Refusal) → Opens p table key sealed (Err q) → Answered (number_of q) old
        load_refused q opens =
            refuses (number_of q)
            (stops Opening Storing (refusal_opened p table key sealed opens) (number_positive q) ∙ sym behind)
            (number_positive q)

        -- for the device that the program made of country, class and hertz
        pub load_put : {profile : Profile} {r : ℕ} {new : List ℕ} (its : Device) → its ≡ device
            → Opens p table key sealed (Ok profile) → Puts its profile old r new → Answered r new
        load_put {profile} {r} {new} its same opens done_with =
            let puts : Puts device profile old r new =
            subst (λ (d : Device). Puts d profile old r new) same done_with in
            let found = profile_opened p table key sealed opens in
            let storing : r ≡ first_refusal Storing =
            rw (← opens)
            (puts.answer
            ∙ (put_sized device profile old size (opened_kinds p table key sealed opens)
            ∙ put_number_lem device profile (stored old))) in
            record {
              answers = goes_on Opening Storing (sym found) refl storing ∙ sym behind;
              taken = λ z. (profile, sym (opened_passed p table key sealed found) ∙ sym opens, puts.taken z);
              kept = puts.kept;
            }
