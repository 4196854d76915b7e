-- What packages, tables, the loader and the lookup owe to one another in the forms that C calls: lines, images, and images
-- that loads and tables made from one of zeros (document 02, M-108, for the tables). Of every program that meets the
-- contracts. The proofs stand in proofs/Runs.antt, proofs/Images.antt and proofs/Nearest.antt.
-- Assumes nothing.
use Rattle.std.specs.Prelude.{◌≡◌, Bool, true, ◌&&◌, ◌||◌, List, [], ◌∷◌, ◌++◌, ℕ, T, eqb, ltb, length, drop, take, replicate}
use Rattle.outcome.specs.Answer.{bad_size, not_stored, bad_device, Check, ◌unless◌, pick, AnswersFront}
use Rattle.outcome.specs.Result.{Result, Ok, Err}
use Rattle.parameters.specs.declared.Params.{Params}
use Rattle.profile.specs.declared.Profile.{Profile}
use Rattle.profile.specs.Rules.{Class, classes, valid}
use Rattle.profile.specs.Table.{table_of}
use Rattle.profile.specs.Line.{longest, read_line}
use Rattle.scheme.specs.Key.{public_key}
use Rattle.scheme.specs.Verify.{verify}
use Rattle.store.specs.declared.Device.{Device}
use Rattle.store.specs.Keys.{key_of, device_key, device_of, device_ok}
use Rattle.store.specs.Stored.{capacity, store_size, classes_of, stored, find, is_done, is_stored}
use Rattle.store.specs.Calls.{lookup_in, newer, found_line, LooksUpByStore}
use Rattle.store.specs.Reached.{Call, Reached, AllValid, model}
use Rattle.table.specs.File.{sound_table, read_table, is_empty, LoadsTable}
use Rattle.nearest.specs.Nearest.{measured_of, measured_ok, nearest_in, SuggestsByStore}
use Rattle.package.specs.Package.{signature_in, line_in, opened}
use Rattle.package.specs.Entries.{MakesFromLine, LoadsByStore}

-- ---- what is offered to a device

-- a package: the sizes of its category, and what the loader is given besides the store
pub record Load : Type 0 where
  pub sizes : Params
  pub key : List ℕ
  pub sealed : List ℕ
  pub country : List ℕ
  pub class : ℕ
  pub hertz : ℕ

-- a package, or the file of a class table
pub data Offer : Type 0 where
  by_package : Load → Offer
  by_file : List ℕ → Offer

-- loading goes by the classes of the store
abbrev pub LoadAnswers : Load → List ℕ → ℕ → List ℕ → Type 0
LoadAnswers l old = LoadsByStore l.sizes l.key l.sealed l.country l.class l.hertz old

abbrev pub OfferAnswers : Offer → List ℕ → ℕ → List ℕ → Type 0
OfferAnswers (by_package l) old = LoadAnswers l old
OfferAnswers (by_file bytes) old = LoadsTable bytes old

-- ---- runs

-- offers in order, the first of which found one image and the last of which left the other
abbrev pub OfferRun : List ℕ → List Offer → List ℕ → Type 0
OfferRun old [] new = new ≡ old
OfferRun old (o ∷ os) new = (answer : ℕ) × (next : List ℕ) × OfferAnswers o old answer next × OfferRun next os new

-- an image that the library made: an image of zeros, and then offers
abbrev pub MadeBy : List Offer → List ℕ → Type 0
MadeBy offers image = OfferRun (replicate store_size 0) offers image

-- the setting of the device that a load is for
abbrev pub setting_of : Load → Device
setting_of l = device_of l.country l.class l.hertz

-- what was opened is stored for the device
abbrev pub calls_for : Device → Result Profile → List Call
calls_for d (Ok p) = record { device = d; profile = p } ∷ []
calls_for d (Err r) = []

-- a load is a call of `put` where the device is set to a country, class and hertz and the package opens, and else none
abbrev pub calls_of : List Class → Load → List Call
calls_of table l =
    pick (eqb (length l.country) 2 && device_ok table (setting_of l))
    (calls_for (setting_of l) (opened l.sizes table l.key l.sealed))
    []

-- What offers make, which depends on them alone: the classes, and the calls of `put` since these came in. A table comes in
-- only while nothing is stored, so that the calls before it stored nothing.
pub record Made : Type 0 where
  pub table : List Class
  pub calls : List Call

-- the map that they make
abbrev pub map_in : Made → List Profile
map_in m = model [] m.calls

abbrev pub with_file : Made → Result (List Class) → Made
with_file m (Ok rows) = pick (is_empty (map_in m)) (record { table = rows; calls = [] }) m
with_file m (Err r) = m

abbrev pub with_offer : Made → Offer → Made
with_offer m (by_package l) = record { table = m.table; calls = m.calls ++ calls_of m.table l }
with_offer m (by_file bytes) = with_file m (read_table bytes)

unfoldable pub made_from : Made → List Offer → Made
made_from m [] = m
made_from m (o ∷ os) = made_from (with_offer m o) os

-- from the built-in classes and nothing stored
abbrev pub made : List Offer → Made
made offers = made_from (record { table = classes; calls = [] }) offers

abbrev pub table_by : List Offer → List Class
table_by offers = (made offers).table

abbrev pub map_by : List Offer → List Profile
map_by offers = map_in (made offers)

-- An image that the library made has the size of one; its classes are those that the offers make, and sound; what it
-- stores is reached by their calls, so that all that holds of reached stores holds of it; and so everything in it is valid
-- under its classes.
pub record IsMade (offers : List Offer) (image : List ℕ) : Type 0 where
  pub size : length image ≡ store_size
  pub table : classes_of image ≡ table_by offers
  pub sound : sound_table (classes_of image) ≡ true
  pub reached : Reached (classes_of image) (made offers).calls (stored image)
  pub all_valid : AllValid (classes_of image) (stored image)

abbrev pub ImageReached : Type 0
ImageReached = (offers : List Offer) (image : List ℕ) → MadeBy offers image → IsMade offers image

-- what is stored stays valid, since no offer changes the classes while something is stored
abbrev pub ClassesStay : Type 0
ClassesStay =
    (offers : List Offer) (old new : List ℕ) → length old ≡ store_size → OfferRun old offers new
    → (stored old ≡ [] → ⊥) → (classes_of new ≡ classes_of old) × (stored new ≡ [] → ⊥)

-- ---- looking up in an image that the library made

-- the checks of what is looked for in a map: what is asked for must exist, the buffer must have its size, and something
-- must be found
abbrev pub in_map_checks : List ℕ → Bool → Result Profile → List ℕ → List Check
in_map_checks country exists found old =
    bad_device unless eqb (length country) 2
    ∷ bad_device unless exists
    ∷ bad_size unless eqb (length old) longest
    ∷ not_stored unless is_done found
    ∷ []

-- The store answers as a map: a lookup answers 10 for a setting that is none under the classes that the offers made, 1 for
-- a buffer of another size, 9 where the map has nothing under the device's country, class and hertz, and else writes the
-- line of what it has.
abbrev pub map_checks : List Offer → List ℕ → ℕ → ℕ → List ℕ → List Check
map_checks offers country class hertz =
    in_map_checks country (device_ok (table_by offers) (device_of country class hertz))
    (find (device_key (device_of country class hertz)) (map_by offers))

abbrev pub AsMap : Type 0
AsMap =
    (offers : List Offer) (image country : List ℕ) (class hertz : ℕ) (old : List ℕ) (before answer : ℕ) (lent : List ℕ)
    (after : ℕ)
    → MadeBy offers image → LooksUpByStore image country class hertz old before answer lent after
    → AnswersFront (map_checks offers country class hertz old)
    (found_line (find (device_key (device_of country class hertz)) (map_by offers))) old before answer lent after

-- no image that the library made holds a profile that breaks a rule: no lookup in one answers 5
abbrev pub NoneBroken : Type 0
NoneBroken =
    (offers : List Offer) (image country : List ℕ) (class hertz : ℕ) (old : List ℕ) (before answer : ℕ) (lent : List ℕ)
    (after : ℕ)
    → MadeBy offers image → LooksUpByStore image country class hertz old before answer lent after → answer ≡ 5 → ⊥

-- Nearest answers from the map too, so that it does not matter which slot holds what: 10 for a measurement that is none, 1
-- for a buffer of another size, 9 where none of the map is within reach, and else the line of the nearest of the map. It
-- never answers 5.
abbrev pub NearestAsMap : Type 0
NearestAsMap =
    (offers : List Offer) (image country : List ℕ) (hertz volts : ℕ) (old : List ℕ) (before answer : ℕ) (lent : List ℕ)
    (after : ℕ)
    → MadeBy offers image → SuggestsByStore image country hertz volts old before answer lent after
    → AnswersFront
    (in_map_checks country (measured_ok (measured_of country hertz volts))
    (nearest_in (measured_of country hertz volts) (map_by offers)) old)
    (found_line (nearest_in (measured_of country hertz volts) (map_by offers))) old before answer lent after

-- one of the offers was a load that was answered 0 on a device of this country, class and hertz, and the verifier answers 0
-- for the signature of its package over exactly this line
pub record CameIn (offers : List Offer) (country : List ℕ) (class hertz : ℕ) (line : List ℕ) : Type 0 where
  pub earlier : List Offer
  pub load : Load
  pub later : List Offer
  pub found : List ℕ
  pub left : List ℕ
  pub order : offers ≡ earlier ++ (by_package load ∷ later)
  pub reached : MadeBy earlier found
  pub answered : LoadAnswers load found 0 left
  pub device : device_key (setting_of load) ≡ device_key (device_of country class hertz)
  pub parts : load.sealed ≡ signature_in load.sizes load.sealed ++ line
  pub verified : verify load.sizes load.key line (signature_in load.sizes load.sealed) ≡ 0

-- nothing else gets in: what a lookup writes came in by such a load
abbrev pub LookedUpCameIn : Type 0
LookedUpCameIn =
    (offers : List Offer) (image country : List ℕ) (class hertz : ℕ) (old : List ℕ) (before answer : ℕ) (lent : List ℕ)
    (after : ℕ)
    → MadeBy offers image → LooksUpByStore image country class hertz old before answer lent after → answer ≡ 0
    → CameIn offers country class hertz (take after lent)

-- ---- one load, into any image

-- a lookup into a buffer of its size answers 0 and writes this line
abbrev pub FindsLine : List ℕ → List ℕ → ℕ → ℕ → List ℕ → Type 0
FindsLine image country class hertz line =
    (old : List ℕ) (before answer : ℕ) (lent : List ℕ) (after : ℕ) → length old ≡ longest
    → LooksUpByStore image country class hertz old before answer lent after
    → (answer ≡ 0) × (lent ≡ line ++ drop (length line) old) × (after ≡ length line)

module _ (p : Params) where
  -- what was loaded is found: a lookup writes the line of the package
  abbrev pub LoadedFound : Type 0
  LoadedFound =
      (key sealed country : List ℕ) (class hertz : ℕ) (old : List ℕ) (answer : ℕ) (new : List ℕ)
      → LoadsByStore p key sealed country class hertz old answer new → answer ≡ 0
      → FindsLine new country class hertz (line_in p sealed)

  -- A package that is made from a line loads: where making answered 0 under a table, the line means a profile; and loading
  -- what was made under the key that the rules give for the private seed, on a device that is set to the profile's country,
  -- class and hertz, answers 0 in every image, made by the library or not, under whose classes the profile is valid (as it is
  -- where they are those of the table), that holds no profile of the triple or one with a smaller serial, and holds the triple
  -- or has room; and the profile is then found, and a lookup writes the line.
  abbrev pub LineLoads : Type 0
  LineLoads =
      (table private master salt line lent sealed : List ℕ) (before size : ℕ)
      → MakesFromLine p table private master salt line lent before 0 sealed size
      → (profile : Profile) × (read_line (table_of table) line ≡ Ok profile) × T (valid (table_of table) profile)
      × ((country : List ℕ) (class hertz : ℕ) (old : List ℕ) (answer : ℕ) (new : List ℕ)
      → length country ≡ 2 → device_key (device_of country class hertz) ≡ key_of profile → length old ≡ store_size
      → T (valid (classes_of old) profile)
      → newer profile (find (key_of profile) (stored old)) ≡ true
      → (is_stored (key_of profile) (stored old) || ltb (length (stored old)) capacity) ≡ true
      → LoadsByStore p (public_key p private) (take size sealed) country class hertz old answer new
      → (answer ≡ 0) × (lookup_in (classes_of old) (device_of country class hertz) (stored new) ≡ Ok profile)
      × FindsLine new country class hertz line)
