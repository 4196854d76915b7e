-- What a profile is stored under, and the setting of a device (document 01, "Profile line, package, shelf" and table
-- "Returned"; that both go by hertz too is document 02's M-104).
-- Assumes nothing.
use Rattle.std.specs.Prelude.{Bool, false, ◌&&◌, ◌||◌, List, [], ◌∷◌, ℕ, eqb, get_or}
use Rattle.profile.specs.declared.Profile.{Profile}
use Rattle.profile.specs.Rules.{Class, contains, in_one_of, letters, nominal_hertz}
use Rattle.store.specs.declared.Key.{Key}
use Rattle.store.specs.declared.Device.{Device}

-- a profile is stored under its country, class and hertz
abbrev pub key_of : Profile → Key
key_of p = record { country = p.country; class = p.class; hertz = p.hertz }

-- the setting that two bytes and two numbers make
abbrev pub device_of : List ℕ → ℕ → ℕ → Device
device_of country class hertz =
    record {
      country = record { first = get_or country 0 0; second = get_or country 1 0 };
      class = class;
      hertz = hertz;
    }

-- the country, class and hertz that the device is set to
abbrev pub device_key : Device → Key
device_key d = record { country = d.country; class = d.class; hertz = d.hertz }

unfoldable pub same_key : Key → Key → Bool
same_key a b =
    eqb a.country.first b.country.first
    && (eqb a.country.second b.country.second && (eqb a.class b.class && eqb a.hertz b.hertz))

-- the letter is that of a class of the table
abbrev pub has_class : List Class → ℕ → Bool
has_class [] n = false
has_class (c ∷ cs) n = eqb n c.letter || has_class cs n

-- the device is set to two letters A to Z, a class of the table, and 50 or 60 hertz
unfoldable pub device_ok : List Class → Device → Bool
device_ok table d =
    contains letters d.country.first
    && (contains letters d.country.second && (has_class table d.class && in_one_of nominal_hertz d.hertz))
