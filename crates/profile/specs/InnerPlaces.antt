-- What the functions that read a line part by part answer. Assumes nothing.
use Rattle.std.specs.Prelude.{◌≡◌, List, ℕ, ◌≤◌, length, drop}
use Rattle.decimal.specs.declared.Number.{Number}
use Rattle.profile.specs.declared.rules.Kind.{Kind}
use Rattle.profile.specs.declared.scan.TripRead.{TripRead}
use Rattle.profile.specs.declared.Trip.{Trip}
use Rattle.profile.specs.Rules.{RatePoint}
use Rattle.std.specs.Prelude.{None, Some}
use Rattle.profile.specs.Rules.{plain, rate, LineKind, GP1, GP2}
use Rattle.profile.specs.Line.{field_number, after_field, limit_of, kind_in}

-- what was read at a place of a line: a field's number, or a trip point; and the place after it, within the line
pub record FieldAt (line : List ℕ) (at : ℕ) (kind : Kind) (r : Number) : Type 0 where
  pub value : r.value ≡ field_number kind (drop at line)
  pub after : drop r.end line ≡ after_field kind (drop at line)
  pub within : r.end ≤ length line

pub record TripAt (line : List ℕ) (at : ℕ) (kind : Kind) (r : TripRead) : Type 0 where
  pub limit : r.trip.limit ≡ limit_of kind (field_number kind (drop at line))
  pub delay : r.trip.delay ≡ field_number plain (after_field kind (drop at line))
  pub after : drop r.end line ≡ after_field plain (after_field kind (drop at line))
  pub within : r.end ≤ length line

-- the trip point with which some bytes begin
abbrev pub trip_in : Kind → List ℕ → Trip
trip_in kind bytes = record { limit = limit_of kind (field_number kind bytes); delay = field_number plain (after_field kind bytes) }

-- and the rate point, in the kind of line that has one
abbrev pub rate_in : LineKind → List ℕ → RatePoint
rate_in GP1 bytes = None
rate_in GP2 bytes = Some (trip_in rate bytes)

abbrev pub RateAt : (line : List ℕ) (at : ℕ) (r : RatePoint) → Type 0
RateAt line at r = r ≡ rate_in (kind_in line) (drop at line)
