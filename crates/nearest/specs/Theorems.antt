-- What a suggestion owes to everything that is stored (document 02, M-105), of every program that meets the contract.
-- The proofs stand in proofs/Theorems.antt and proofs/Reached.antt.
-- Assumes nothing.
use Rattle.std.specs.Prelude.{◌≡◌, true, List, [], ◌++◌, ℕ, ◌≤◌, ◌<◌, T, length, drop}
use Rattle.outcome.specs.Lists.{In}
use Rattle.outcome.specs.Result.{Ok}
use Rattle.profile.specs.declared.Profile.{Profile}
use Rattle.profile.specs.Rules.{Class, valid}
use Rattle.profile.specs.Line.{longest, line_of}
use Rattle.store.specs.declared.Device.{Device}
use Rattle.store.specs.Stored.{store_size, stored}
use Rattle.store.specs.Calls.{lookup_in}
use Rattle.store.specs.Reached.{Call, Reached, model}
use Rattle.nearest.specs.declared.Measured.{Measured}
use Rattle.nearest.specs.Nearest.{measured_of, measured_ok, far_from, is_of, reach, nearest_in, Suggests}

-- ---- against all that is stored

-- Nothing stored is nearer: of all profiles of the country and the hertz, within reach or not. It says nothing of ties,
-- so that another tie rule leaves it as it is (M-110).
abbrev pub NothingNearer : Measured → List Profile → Profile → Type 0
NothingNearer m ps p = (q : Profile) → In q ps → is_of m q ≡ true → far_from m p ≤ far_from m q

-- the tie rule: none that is as far has lower nominal volts
abbrev pub LowestOfTie : Measured → List Profile → Profile → Type 0
LowestOfTie m ps p = (q : Profile) → In q ps → is_of m q ≡ true → far_from m q ≡ far_from m p → p.volts ≤ q.volts

-- what is suggested is stored, is of this country and these hertz, and lies within reach; nothing is nearer; and the
-- tie rule holds
pub record Suggested (m : Measured) (ps : List Profile) (p : Profile) : Type 0 where
  pub is_stored : In p ps
  pub country : p.country ≡ m.country
  pub hertz : p.hertz ≡ m.hertz
  pub within : far_from m p ≤ reach
  pub nothing_nearer : NothingNearer m ps p
  pub lowest : LowestOfTie m ps p

-- everything that is stored of this country and these hertz is out of reach
abbrev pub NoneWithin : Measured → List Profile → Type 0
NoneWithin m ps = (q : Profile) → In q ps → is_of m q ≡ true → reach < far_from m q

-- ---- the entry's answers

-- what is asked for exists, and the sizes are right: neither 10 nor 1 applies
pub record Asks (image country : List ℕ) (hertz volts : ℕ) (old : List ℕ) : Type 0 where
  pub two : length country ≡ 2
  pub sound : measured_ok (measured_of country hertz volts) ≡ true
  pub whole : length image ≡ store_size
  pub room : length old ≡ longest

module _ (table : List Class) where
  -- 9 exactly where none lies within reach
  abbrev pub NineExactly : Type 0
  NineExactly =
      (image country : List ℕ) (hertz volts : ℕ) (old : List ℕ) (before answer : ℕ) (lent : List ℕ) (after : ℕ)
      → Suggests table image country hertz volts old before answer lent after
      → (answer ≡ 9
      → Asks image country hertz volts old × NoneWithin (measured_of country hertz volts) (stored image))
      × (Asks image country hertz volts old → NoneWithin (measured_of country hertz volts) (stored image) → answer ≡ 9)

  -- with the answer 0 the line of a suggested profile is written
  abbrev pub LineSuggested : Type 0
  LineSuggested =
      (image country : List ℕ) (hertz volts : ℕ) (old : List ℕ) (before answer : ℕ) (lent : List ℕ) (after : ℕ)
      → Suggests table image country hertz volts old before answer lent after → answer ≡ 0
      → (p : Profile) × Suggested (measured_of country hertz volts) (stored image) p × T (valid table p)
      × (lent ≡ line_of p ++ drop (length (line_of p)) old) × (after ≡ length (line_of p))

-- ---- stores that calls reached

-- a device of the measured country and hertz, and of this class
abbrev pub device_for : Measured → ℕ → Device
device_for m class = record { country = m.country; class = class; hertz = m.hertz }

-- What is nearest depends on the map that the accepted calls make, and not on which slot holds what; it is valid; and a
-- device that is set to its class looks it up.
pub record NearestHolds (table : List Class) (calls : List Call) (ps : List Profile) (m : Measured) : Type 0 where
  pub as_map : nearest_in m ps ≡ nearest_in m (model [] calls)
  pub looked_up : (p : Profile) → nearest_in m ps ≡ Ok p
      → T (valid table p) × (lookup_in table (device_for m p.class) ps ≡ Ok p)

abbrev pub ReachedNearest : Type 0
ReachedNearest =
    (table : List Class) (calls : List Call) (ps : List Profile) → Reached table calls ps → (m : Measured)
    → NearestHolds table calls ps m
