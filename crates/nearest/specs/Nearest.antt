-- The stored profile that is nearest to a measured voltage (document 02, M-105): a suggestion, by which nothing is
-- loaded. Of every store, reached or not, under a class table.
-- Assumes nothing.
use Rattle.std.specs.Prelude.{Bool, ◌&&◌, ◌||◌, List, [], ◌∷◌, ℕ, ◌+◌, ◌-◌, eqb, leb, ltb, get_or}
use Rattle.outcome.specs.Answer.{not_stored, Check, pick}
use Rattle.outcome.specs.Result.{Result, Ok, Err}
use Rattle.profile.specs.declared.Profile.{Profile}
use Rattle.profile.specs.Rules.{Class, Range, ◌to◌, contains, in_one_of, letters, nominal_hertz}
use Rattle.store.specs.Stored.{classes_of, stored}
use Rattle.store.specs.Calls.{found_checks, WritesFound}
use Rattle.nearest.specs.declared.Measured.{Measured}

-- ---- what was measured

-- volts that may be measured
abbrev pub measurable : Range
measurable = 0 to 2000

-- two bytes and two numbers as a measurement
abbrev pub measured_of : List ℕ → ℕ → ℕ → Measured
measured_of country hertz volts =
    record { country = record { first = get_or country 0 0; second = get_or country 1 0 }; hertz = hertz; volts = volts }

-- two letters A to Z, 50 or 60 hertz, and volts that may be measured
unfoldable pub measured_ok : Measured → Bool
measured_ok m =
    contains letters m.country.first
    && (contains letters m.country.second && (in_one_of nominal_hertz m.hertz && contains measurable m.volts))

-- ---- which profiles count

-- how far apart two voltages are: one of the differences is 0
abbrev pub distance : ℕ → ℕ → ℕ
distance a b = (a - b) + (b - a)

-- how far the profile's nominal volts are from the measured ones
abbrev pub far_from : Measured → Profile → ℕ
far_from m p = distance p.volts m.volts

-- the profile is of the country and the hertz
unfoldable pub is_of : Measured → Profile → Bool
is_of m p =
    eqb p.country.first m.country.first
    && (eqb p.country.second m.country.second && eqb p.hertz m.hertz)

-- as far as a suggestion may be
abbrev pub reach : ℕ
reach = 40

abbrev pub is_near : Measured → Profile → Bool
is_near m p = is_of m p && leb (far_from m p) reach

-- those of the country and the hertz that are within reach, in their order
unfoldable pub near : Measured → List Profile → List Profile
near m [] = []
near m (p ∷ ps) = pick (is_near m p) (p ∷ near m ps) (near m ps)

-- ---- the best of them

-- the tie rule: of two that are equally far the lower nominal volts win
abbrev pub wins_tie : Profile → Profile → Bool
wins_tie p q = ltb p.volts q.volts

-- p is nearer than q, or as far and wins the tie
unfoldable pub is_better : Measured → Profile → Profile → Bool
is_better m p q = ltb (far_from m p) (far_from m q) || (eqb (far_from m p) (far_from m q) && wins_tie p q)

-- p, unless a later one is better: of equals the first
unfoldable pub best_of : Measured → Profile → List Profile → Profile
best_of m p [] = p
best_of m p (q ∷ qs) = best_of m (pick (is_better m q p) q p) qs

abbrev pub best : Measured → List Profile → Result Profile
best m [] = Err not_stored
best m (p ∷ ps) = Ok (best_of m p ps)

-- the best of those that are within reach
abbrev pub nearest_in : Measured → List Profile → Result Profile
nearest_in m ps = best m (near m ps)

-- ---- the entry

abbrev pub suggest_checks : List Class → List ℕ → List ℕ → ℕ → ℕ → List ℕ → List Check
suggest_checks table image country hertz volts =
    found_checks table image country (measured_ok (measured_of country hertz volts))
    (nearest_in (measured_of country hertz volts) (stored image))

-- the line of the nearest
abbrev pub Suggests : List Class → List ℕ → List ℕ → ℕ → ℕ → List ℕ → ℕ → ℕ → List ℕ → ℕ → Type 0
Suggests table image country hertz volts =
    WritesFound table image country (measured_ok (measured_of country hertz volts))
    (nearest_in (measured_of country hertz volts) (stored image))

-- the same under the store's own classes, which is what `nearest` promises (M-108)
abbrev pub SuggestsByStore : List ℕ → List ℕ → ℕ → ℕ → List ℕ → ℕ → ℕ → List ℕ → ℕ → Type 0
SuggestsByStore image = Suggests (classes_of image) image
