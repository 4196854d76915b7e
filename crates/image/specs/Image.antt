-- Profiles as bytes that C holds. A number is four bytes, low byte first. A profile is 76 bytes, the layout of a C
-- struct: 1, country (2 bytes), class, then serial, volts, hertz, and for each of over-voltage, under-voltage,
-- over-frequency and under-frequency its kind, limit (without sign) and delay; then, for the rate of change of
-- frequency, whether it is present, its limit and its delay. Every image means a profile.
-- Assumes nothing.
use Rattle.std.specs.Prelude.{◌≡◌, Bool, true, ◌&&◌, not, List, [], ◌∷◌, ◌++◌, ℕ, ◌+◌, eqb, get_or}
use Rattle.outcome.specs.Answer.{pick}
use Rattle.words.specs.Words.{word_at, word, Small}
use Rattle.profile.specs.declared.Limit.{Limit}
use Rattle.profile.specs.declared.Limit.TheVariants.{Share, Offset, Rate}
use Rattle.profile.specs.declared.Trip.{Trip}
use Rattle.profile.specs.Rules.{RatePoint}
use Rattle.std.specs.Prelude.{None, Some}
use Rattle.profile.specs.declared.Profile.{Profile}
use Rattle.profile.specs.Rules.{share, above, rate, kind_number, same_kind, kind_of, size_of}

abbrev pub profile_size : ℕ
profile_size = 76

-- ---- the profile that an image means

-- 0 is a voltage share, 1 a frequency above nominal, anything else one below
abbrev pub limit_from : ℕ → ℕ → Limit
limit_from kind size = pick (eqb kind (kind_number share)) (Share size) (Offset (not (eqb kind (kind_number above))) size)

unfoldable pub trip_of : List ℕ → ℕ → Trip
trip_of image at =
    record { limit = limit_from (word_at image at) (word_at image (at + 4)); delay = word_at image (at + 8) }

-- 0 is an absent rate point, and then the other numbers are not looked at; anything else is a present one
abbrev pub rate_from : ℕ → ℕ → ℕ → RatePoint
rate_from present size delay = pick (eqb present 0) None (Some (record { limit = Rate size; delay = delay }))

unfoldable pub rate_of : List ℕ → ℕ → RatePoint
rate_of image at = rate_from (word_at image at) (word_at image (at + 4)) (word_at image (at + 8))

-- the first byte is not looked at
unfoldable pub profile_of : List ℕ → Profile
profile_of image =
    record {
      country = record { first = get_or image 1 0; second = get_or image 2 0 };
      class = get_or image 3 0;
      serial = word_at image 4;
      volts = word_at image 8;
      hertz = word_at image 12;
      over_voltage = trip_of image 16;
      under_voltage = trip_of image 28;
      over_frequency = trip_of image 40;
      under_frequency = trip_of image 52;
      rate_of_change = rate_of image 64;
    }

-- ---- the image of a profile

-- a first byte that is not 0 says that there is a profile
abbrev pub head_image : Profile → List ℕ
head_image p = 1 ∷ p.country.first ∷ p.country.second ∷ p.class ∷ []

abbrev pub ratings_image : Profile → List ℕ
ratings_image p = word p.serial ++ (word p.volts ++ word p.hertz)

unfoldable pub trip_image : Trip → List ℕ
trip_image t = word (kind_number (kind_of t.limit)) ++ (word (size_of t.limit) ++ word t.delay)

-- the numbers of a rate point: all 0 where it is absent
abbrev pub presence : RatePoint → ℕ
presence None = 0
presence (Some t) = 1

abbrev pub rate_size : RatePoint → ℕ
rate_size None = 0
rate_size (Some t) = size_of t.limit

abbrev pub rate_delay : RatePoint → ℕ
rate_delay None = 0
rate_delay (Some t) = t.delay

unfoldable pub rate_image : RatePoint → List ℕ
rate_image point = word (presence point) ++ (word (rate_size point) ++ word (rate_delay point))

abbrev pub trips_image : Profile → List ℕ
trips_image p =
    trip_image p.over_voltage
    ++ (trip_image p.under_voltage
    ++ (trip_image p.over_frequency
    ++ (trip_image p.under_frequency ++ rate_image p.rate_of_change)))

unfoldable pub image_of : Profile → List ℕ
image_of p = head_image p ++ (ratings_image p ++ trips_image p)

-- ---- which profiles an image can mean: none of the first four limits is a rate, and that of a rate point is one

abbrev pub is_rate : Trip → Bool
is_rate t = same_kind (kind_of t.limit) rate

abbrev pub is_rate_point : RatePoint → Bool
is_rate_point None = true
is_rate_point (Some t) = is_rate t

abbrev pub has_image : Profile → Bool
has_image p =
    not (is_rate p.over_voltage)
    && (not (is_rate p.under_voltage)
    && (not (is_rate p.over_frequency)
    && (not (is_rate p.under_frequency) && is_rate_point p.rate_of_change)))

-- such a profile fits, since the numbers of every value of these types are below 2^32

abbrev pub TripFits : Trip → Type 0
TripFits t = Small (size_of t.limit) × Small t.delay

abbrev pub RateFits : RatePoint → Type 0
RateFits None = Unit {0}
RateFits (Some t) = TripFits t

abbrev pub TripsFit : Profile → Type 0
TripsFit p =
    TripFits p.over_voltage
    × TripFits p.under_voltage
    × TripFits p.over_frequency
    × TripFits p.under_frequency
    × RateFits p.rate_of_change

pub record Fits (p : Profile) : Type 0 where
  pub serial : Small p.serial
  pub volts : Small p.volts
  pub hertz : Small p.hertz
  pub trips : TripsFit p
  pub kinds : has_image p ≡ true

-- ---- what writing leaves: the image of the value, which means the value

pub record ProfileWritten (p : Profile) (image : List ℕ) : Type 0 where
  pub bytes : image ≡ image_of p
  pub means : profile_of image ≡ p
