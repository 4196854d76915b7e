-- A profile's image means the profile. Assumes nothing.
use mathlib.Core.Path.{◌≡◌, refl, ◌∙◌, sym, ap}
use mathlib.Core.Bool.{Bool, true, false, false≢true, ◌&&◌, not}
use mathlib.Core.List.{List, ◌++◌, append-nil}
use Prim.Native.Nat.{ℕ, ◌≤◌}
use native.Mathlib.Omega.{arith}
use lib.ListN.{length, drop_of_length-le}
use Rattle.decimal.specs.Decimal.{Room, Appended}
use Rattle.decimal.proofs.Stores.{sets_append, appended_length, then, front}
use Rattle.std.proofs.lemmas.Grind.{common_steps}
use Rattle.profile.specs.declared.Limit.{Limit}
use Rattle.profile.specs.declared.Limit.TheVariants.{Share, Offset, Rate}
use Rattle.profile.specs.declared.Trip.{Trip}
use Rattle.profile.specs.Rules.{RatePoint}
use Rattle.std.specs.Prelude.{None, Some}
use Rattle.profile.specs.declared.Profile.{Profile}
use Rattle.profile.specs.Rules.{rate, kind_number, same_kind, kind_of, size_of}
use Rattle.words.specs.Words.{word_at, Small}
use Rattle.image.specs.Image.{
  profile_size,
  limit_from,
  trip_of,
  rate_from,
  rate_of,
  profile_of,
  head_image,
  ratings_image,
  trip_image,
  is_rate,
  is_rate_point,
  has_image,
  presence,
  rate_size,
  rate_delay,
  rate_image,
  trips_image,
  image_of,
  TripFits,
  RateFits,
  Fits,
  ProfileWritten,
}
use Rattle.words.proofs.WordLaws.{word_again}

pub image_size : (p : Profile) → length (image_of p) ≡ profile_size
unfolding image_of trip_image rate_image
image_size p = refl

-- ---- reading what was written

pub limit_again : (l : Limit) → same_kind (kind_of l) rate ≡ false → limit_from (kind_number (kind_of l)) (size_of l) ≡ l
limit_again (Share n) other = refl
limit_again (Offset true n) other = refl
limit_again (Offset false n) other = refl
limit_again (Rate n) other = absurd (false≢true (sym other))

-- a limit of a rate's kind is a rate
rate_limit : (l : Limit) → same_kind (kind_of l) rate ≡ true → Rate (size_of l) ≡ l
rate_limit (Share n) e = absurd (false≢true e)
rate_limit (Offset true n) e = absurd (false≢true e)
rate_limit (Offset false n) e = absurd (false≢true e)
rate_limit (Rate n) e = refl

kind_small : (l : Limit) → Small (kind_number (kind_of l))
kind_small (Share n) = omega arith
kind_small (Offset true n) = omega arith
kind_small (Offset false n) = omega arith
kind_small (Rate n) = omega arith

trip_again : (t : Trip) (kind size delay : ℕ) → is_rate t ≡ false
    → kind ≡ kind_number (kind_of t.limit) → size ≡ size_of t.limit → delay ≡ t.delay
    → ◌≡◌ {A = Trip} (record { limit = limit_from kind size; delay = delay }) t
trip_again t kind size delay other k s d =
    let limit : limit_from kind size ≡ t.limit = rw (k, s) (limit_again t.limit other) in
    λ i. record { limit = limit i; delay = d i }

-- the numbers of a rate point are small, and mean it
rate_small : (point : RatePoint) → RateFits point
    → Small (presence point) × Small (rate_size point) × Small (rate_delay point)
rate_small None fits = (omega arith, omega arith, omega arith)
rate_small (Some t) fits = (omega arith, fits.0, fits.1)

rate_again : (point : RatePoint) → is_rate_point point ≡ true
    → rate_from (presence point) (rate_size point) (rate_delay point) ≡ point
rate_again None e = refl
rate_again (Some t) e =
    let limit : Rate (size_of t.limit) ≡ t.limit = rate_limit t.limit e in
    λ i. Some (record { limit = limit i; delay = t.delay })

rate_point_again : (point : RatePoint) (present size delay : ℕ) → is_rate_point point ≡ true
    → present ≡ presence point → size ≡ rate_size point → delay ≡ rate_delay point
    → rate_from present size delay ≡ point
rate_point_again point present size delay e p s d = (λ i. rate_from (p i) (s i) (d i)) ∙ rate_again point e

-- the kinds of a profile that has an image, each by itself
record Kinds (p : Profile) : Type 0 where
  «over_voltage» : is_rate p.over_voltage ≡ false
  «under_voltage» : is_rate p.under_voltage ≡ false
  «over_frequency» : is_rate p.over_frequency ≡ false
  «under_frequency» : is_rate p.under_frequency ≡ false
  point : is_rate_point p.rate_of_change ≡ true

not_both : (a b : Bool) → (not a && b) ≡ true → (a ≡ false) × (b ≡ true)
not_both true b e = absurd (false≢true e)
not_both false b e = (refl, e)

kinds_apart : (p : Profile) → has_image p ≡ true → Kinds p
kinds_apart p e =
    let first = not_both (is_rate p.over_voltage) _ e in
    let second = not_both (is_rate p.under_voltage) _ first.1 in
    let third = not_both (is_rate p.over_frequency) _ second.1 in
    let fourth = not_both (is_rate p.under_frequency) _ third.1 in
    record {
      «over_voltage» = first.0;
      «under_voltage» = second.0;
      «over_frequency» = third.0;
      «under_frequency» = fourth.0;
      point = fourth.1;
    }

pub profile_again : (p : Profile) → Fits p → profile_of (image_of p) ≡ p
unfolding profile_of trip_of rate_of word_at image_of trip_image rate_image
profile_again p fits =
    let serial = word_again p.serial fits.serial in
    let volts = word_again p.volts fits.volts in
    let hertz = word_again p.hertz fits.hertz in
    let kinds = kinds_apart p fits.kinds in
    let trip : (t : Trip) (other : is_rate t ≡ false) (h : TripFits t) → _ =
    λ t other h.
    trip_again t _ _ _ other (word_again (kind_number (kind_of t.limit)) (kind_small t.limit))
    (word_again (size_of t.limit) h.0) (word_again t.delay h.1) in
    let over_voltage = trip p.over_voltage kinds.«over_voltage» fits.trips.0 in
    let under_voltage = trip p.under_voltage kinds.«under_voltage» fits.trips.1 in
    let over_frequency = trip p.over_frequency kinds.«over_frequency» fits.trips.2 in
    let under_frequency = trip p.under_frequency kinds.«under_frequency» fits.trips.3 in
    let point = p.rate_of_change in
    let small = rate_small point fits.trips.4 in
    let rate_of_change =
    rate_point_again point _ _ _ kinds.point (word_again (presence point) small.0)
    (word_again (rate_size point) small.1) (word_again (rate_delay point) small.2) in
    λ i.
    record {
      country = p.country;
      class = p.class;
      serial = serial i;
      volts = volts i;
      hertz = hertz i;
      over_voltage = over_voltage i;
      under_voltage = under_voltage i;
      over_frequency = over_frequency i;
      under_frequency = under_frequency i;
      rate_of_change = rate_of_change i;
    }

-- ---- the parts of an image, one after the other

pub trip_length : (t : Trip) → length (trip_image t) ≡ 12
unfolding trip_image
trip_length t = refl

pub ruleset trips_stored = (common_steps, sets_append, appended_length, trip_length)

-- a whole image, in a buffer of its size
pub image_made : {l m n o : List ℕ} {j k e : ℕ} (p : Profile) → length l ≡ profile_size → Appended l 0 (head_image p) m j
    → Appended m j (ratings_image p) n k → Appended n k (trips_image p) o e → o ≡ image_of p
unfolding image_of
image_made {l} {m} {n} {o} {j} {k} {e} p size head ratings trips =
    let bytes : List ℕ = image_of p in
    let over : length l ≤ length bytes = omega (arith, image_size p, size) in
    let whole : Appended l 0 bytes o e = then head (then ratings trips) in
    let room : Room l 0 bytes = record { room = omega (arith, image_size p, size) } in
    front whole room
    ∙ ap (λ (r : List ℕ). bytes ++ r) (drop_of_length-le l over)
    ∙ append-nil bytes

pub profile_written : {image : List ℕ} (p : Profile) → image ≡ image_of p → Fits p → ProfileWritten p image
profile_written p made fits = record { bytes = made; means = ap profile_of made ∙ profile_again p fits }
