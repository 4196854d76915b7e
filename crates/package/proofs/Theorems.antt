-- The theorems of specs/Theorems.antt. Assumes nothing.
use mathlib.Core.Path.{◌≡◌, ◌∙◌, sym, ap, subst}
use mathlib.Core.Bool.{true}
use mathlib.Core.List.{List, ◌++◌}
use Prim.Native.Nat.{ℕ}
use native.Mathlib.Decide.{ℕ_discrete}
use lib.ListN.{length, take, drop, take-append-drop}
use lib.Seq.{take_at}
use borrow.Author.Tests.{eqb-true}
use Rattle.outcome.specs.Answer.{first_refusal}
use Rattle.parameters.specs.declared.Params.{Params}
use Rattle.parameters.specs.Sound.{Sound}
use Rattle.profile.specs.declared.Profile.{Profile}
use Rattle.outcome.specs.Result.{Ok}
use Rattle.profile.specs.Rules.{Class}
use Rattle.profile.specs.Line.{line_of, read_line}
use Rattle.profile.proofs.Theorems.{reads_written, writes_read}
use Rattle.image.proofs.Theorems.{valid_fits}
use Rattle.scheme.specs.Key.{public_key}
use Rattle.scheme.specs.Sign.{signature_size, signature}
use Rattle.scheme.proofs.Accepted.{accepted as verifies, length_signature}
use Rattle.store.specs.declared.Device.{Device}
use Rattle.store.specs.Keys.{key_of, device_of, device_key, same_key, device_ok}
use Rattle.store.specs.Stored.{store_size, stored}
use Rattle.store.specs.Calls.{lookup_in, put_number, Stores, Taken}
use Rattle.store.specs.Reached.{Reached}
use Rattle.store.proofs.KeyLaws.{same_eq, same_refl, key_apart, device_of_valid}
use Rattle.store.proofs.LookupLaws.{lookup_stored, lookup_other}
use Rattle.store.proofs.PutLaws.{put_accepts, put_passed, takes}
use Rattle.store.proofs.Reached.{reached_put}
use Rattle.package.specs.Package.{package_of, signature_in, line_in, load_checks}
use Rattle.package.specs.Entries.{MakesPackage, Loads}
use Rattle.package.specs.Theorems.{MadeLoads, NothingElse, OthersKept, LoadReaches}
use Rattle.package.proofs.TheoremLaws.{
  made_signed,
  LoadPassed,
  load_passed,
  storing_put,
  line_back,
  package_loads,
}

-- ---- what an accepted load says

pub record Accepted (p : Params) (table : List Class) (key sealed country : List ℕ) (class hertz : ℕ)
    (old new : List ℕ) : Type 0 where
  pub profile : Profile
  pub reads : read_line table (line_in p sealed) ≡ Ok profile
  pub taken : Taken profile old new
  pub passes : LoadPassed p table key sealed country class hertz old
  pub puts : put_number (device_of country class hertz) profile (stored old) ≡ 0

module _ (p : Params) (table : List Class) where
  pub accepted : (key sealed country : List ℕ) (class hertz : ℕ) (old : List ℕ) (answer : ℕ) (new : List ℕ)
      → Loads p table key sealed country class hertz old answer new → answer ≡ 0
      → Accepted p table key sealed country class hertz old new
  accepted key sealed country class hertz old answer new loads e =
      let found = loads.taken e in
      let passes = load_passed p table key sealed country class hertz old (sym loads.answers ∙ e) in
      record {
        profile = found.0;
        reads = found.1;
        taken = found.2;
        passes = passes;
        puts = sym (storing_put p table sealed (device_of country class hertz) (stored old) found.0 found.1)
            ∙ passes.storing;
      }

  pub nothing_else : NothingElse p table
  unfolding signature_in line_in
  nothing_else key sealed country class hertz old answer new loads e =
      let t = accepted key sealed country class hertz old answer new loads e in
      let device : Device = device_of country class hertz in
      let written = writes_read table (line_in p sealed) t.profile t.reads in
      let own = (put_passed device t.profile (stored old) t.puts).0 in
      let same = same_eq (key_of t.profile) (device_key device) own in (
        t.profile,
        t.taken,
        written.1,
        same,
        rw written.0 (sym (take-append-drop (signature_size p) sealed)),
        rw written.0 t.passes.verified,
      )

  pub others_kept : OthersKept p table
  others_kept key sealed country class hertz old answer new other loads differ = go (ℕ_discrete answer 0)
    where
      go : Dec (answer ≡ 0) → lookup_in table other (stored new) ≡ lookup_in table other (stored old)
      go (yes e) =
          let all = nothing_else key sealed country class hertz old answer new loads e in
          let apart = key_apart (key_of all.0) (device_key other) (λ same. differ (sym same ∙ all.3)) in
          lookup_other table other all.0 (stored old) (stored new) all.1.stores apart
      go (no ne) = ap (λ (image : List ℕ). lookup_in table other (stored image)) (loads.kept ne)

  pub load_reaches : LoadReaches p table
  load_reaches calls key sealed country class hertz old answer new run loads = (
    λ e.
        let t = accepted key sealed country class hertz old answer new loads e in
        let size = eqb-true (length old) store_size t.passes.whole in
        let ok = (writes_read table (line_in p sealed) t.profile t.reads).1 in (
          t.profile,
          t.reads,
          reached_put table calls (device_of country class hertz) t.profile old 0 new run ok
              t.passes.device_ok_lem size
              (takes size (valid_fits table t.profile ok).kinds t.puts t.taken),
        ),
    λ ne. subst (λ (image : List ℕ). Reached table calls (stored image)) (sym (loads.kept ne)) run,
  )

-- ---- a made package

-- what was written, up to its length, is the package
made_whole : (p : Params) (table private master salt : List ℕ) (profile : Profile) (old sealed : List ℕ)
    (before size : ℕ)
    → MakesPackage p table private master salt profile old before 0 sealed size
    → take size sealed ≡ package_of p private master salt (line_of profile)
made_whole p table private master salt profile old sealed before size made =
    let made_bytes : List ℕ = package_of p private master salt (line_of profile) in
    rw made.answers.content (take_at made_bytes (drop (length made_bytes) old) size (sym made.size))

pub made_loads : (p : Params) (table : List Class) → Sound p → MadeLoads p table
unfolding package_of
made_loads p table sound made_under private master salt profile lent sealed before size country class hertz old answer new
    made ok two own whole newer room loads =
    let device : Device = device_of country class hertz in
    let sig : List ℕ = signature p private master salt (line_of profile) in
    let signed = made_signed p made_under private master salt profile (length lent) (sym made.answers.answer) in
    let sized = length_signature p sound private master salt (line_of profile) (signature_size p) signed in
    let written : take size sealed ≡ sig ++ line_of profile =
    made_whole p made_under private master salt profile lent sealed before size made in
    let its : same_key (key_of profile) (device_key device) ≡ true = rw (sym own) (same_refl (device_key device)) in
    let fine : device_ok table device ≡ true = device_of_valid table profile device ok own in
    let key = public_key p private in
    let passes : first_refusal (load_checks p table key (take size sealed) country class hertz old) ≡ 0 =
    rw written
    (package_loads p table key sig country class hertz profile old ok sized
    (verifies p sound private master salt (line_of profile) (signature_size p) signed)
    two fine whole
    (put_accepts device profile (stored old) its newer room)) in
    let zero : answer ≡ 0 = loads.answers ∙ passes in
    let found = loads.taken zero in
    let read : read_line table (line_in p (take size sealed)) ≡ Ok profile =
    rw (written, line_back p sig (line_of profile) sized) (reads_written table profile ok) in
    let this : found.0 ≡ profile = cc in
    let stores : Stores profile (stored old) (stored new) = rw this at found.2.stores in
    (zero, lookup_stored table device profile (stored old) (stored new) stores fine its)
