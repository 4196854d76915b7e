-- What packages and the loader owe to one another, of every program that meets their contracts, under any class table.
-- The proofs stand in proofs/Theorems.antt.
-- Assumes nothing.
use Rattle.std.specs.Prelude.{◌≡◌, true, ◌||◌, List, [], ◌∷◌, ◌++◌, ℕ, T, ltb, length, take}
use Rattle.parameters.specs.declared.Params.{Params}
use Rattle.profile.specs.declared.Profile.{Profile}
use Rattle.outcome.specs.Result.{Ok}
use Rattle.profile.specs.Rules.{Class, valid}
use Rattle.profile.specs.Line.{line_of, read_line}
use Rattle.scheme.specs.Key.{public_key}
use Rattle.scheme.specs.Verify.{verify}
use Rattle.store.specs.declared.Device.{Device}
use Rattle.store.specs.Keys.{key_of, device_of, device_key}
use Rattle.store.specs.Stored.{capacity, store_size, stored, find, is_stored}
use Rattle.store.specs.Calls.{lookup_in, newer, Taken}
use Rattle.store.specs.Reached.{Call, Reached}
use Rattle.package.specs.Package.{signature_in, line_in}
use Rattle.package.specs.Entries.{MakesPackage, Loads}

module _ (p : Params) (table : List Class) where
  -- A made package loads: where package making answered 0 for a profile, under whatever table, loading what it wrote
  -- under the key that the rules give for the private seed, on a device that is set to the profile's country, class and
  -- hertz, answers 0 in every store, reached or not, under whose table the profile is valid, that holds no profile of the
  -- triple or one with a smaller serial, and holds the triple or has room; and looking up the triple then gives the
  -- profile.
  abbrev pub MadeLoads : Type 0
  MadeLoads =
      (made_under private master salt : List ℕ) (profile : Profile) (lent sealed : List ℕ) (before size : ℕ)
      (country : List ℕ) (class hertz : ℕ) (old : List ℕ) (answer : ℕ) (new : List ℕ)
      → MakesPackage p made_under private master salt profile lent before 0 sealed size → T (valid table profile)
      → length country ≡ 2 → device_key (device_of country class hertz) ≡ key_of profile → length old ≡ store_size
      → newer profile (find (key_of profile) (stored old)) ≡ true
      → (is_stored (key_of profile) (stored old) || ltb (length (stored old)) capacity) ≡ true
      → Loads p table (public_key p private) (take size sealed) country class hertz old answer new
      → (answer ≡ 0) × (lookup_in table (device_of country class hertz) (stored new) ≡ Ok profile)

  -- Nothing else gets in: where loading answers 0, what is stored is a valid profile of this device's own country,
  -- class and hertz, and the verifier answers 0 for the package's signature over exactly the line of what is stored.
  abbrev pub NothingElse : Type 0
  NothingElse =
      (key sealed country : List ℕ) (class hertz : ℕ) (old : List ℕ) (answer : ℕ) (new : List ℕ)
      → Loads p table key sealed country class hertz old answer new → answer ≡ 0
      → (profile : Profile) × Taken profile old new × T (valid table profile)
      × (key_of profile ≡ device_key (device_of country class hertz))
      × (sealed ≡ signature_in p sealed ++ line_of profile)
      × (verify p key (line_of profile) (signature_in p sealed) ≡ 0)

  -- No half of a country pushes out the other's profile: whatever a load answers, a device of another country, class or
  -- hertz finds what it found before, in every store (document 02, M-104).
  abbrev pub OthersKept : Type 0
  OthersKept =
      (key sealed country : List ℕ) (class hertz : ℕ) (old : List ℕ) (answer : ℕ) (new : List ℕ) (other : Device)
      → Loads p table key sealed country class hertz old answer new
      → (device_key other ≡ device_key (device_of country class hertz) → ⊥)
      → lookup_in table other (stored new) ≡ lookup_in table other (stored old)

  -- The loader goes from reached stores to reached stores, so that all that holds of these holds of what it keeps: an
  -- accepted load is a call of `put` for this device and the profile of the package's line, and a refused one is none.
  abbrev pub LoadReaches : Type 0
  LoadReaches =
      (calls : List Call) (key sealed country : List ℕ) (class hertz : ℕ) (old : List ℕ) (answer : ℕ) (new : List ℕ)
      → Reached table calls (stored old) → Loads p table key sealed country class hertz old answer new
      → (answer ≡ 0
      → (profile : Profile) × (read_line table (line_in p sealed) ≡ Ok profile)
      × Reached table (calls ++ (record { device = device_of country class hertz; profile = profile } ∷ []))
      (stored new))
      × ((answer ≡ 0 → ⊥) → Reached table calls (stored new))
