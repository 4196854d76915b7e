-- The theorems of specs/Theorems.antt. Assumes nothing.
use mathlib.Core.Path.{◌≡◌, refl, ◌∙◌, ap}
use mathlib.Core.Bool.{Bool, true, false, false≢true, ◌&&◌, not}
use mathlib.Core.List.{List, [], ◌∷◌, map}
use Prim.Native.Nat.{ℕ, ◌+◌, ◌<◌}
use native.Mathlib.Omega.{arith}
use lib.Dec.{eqb, ltb}
use lib.ListN.{get_or, drop}
use borrow.Author.Tests.{ltb-true}
use Rattle.outcome.specs.Answer.{pick}
use Rattle.profile.specs.declared.Limit.TheVariants.{Share, Offset, Rate}
use Rattle.profile.specs.declared.rules.Kind.{Kind}
use Rattle.profile.specs.Rules.{RatePoint}
use Rattle.std.specs.Prelude.{None, Some}
use Rattle.profile.specs.Rules.{
  share,
  above,
  plain,
  rate,
  kind_number,
  same_kind,
  kind_of,
  size_of,
  Field,
  rate_fields,
  fields_of,
  LineKind,
  GP1,
  GP2,
  kind_for,
  line_kind,
  rate_rules,
  Rule,
  rules,
  fits,
  obeys,
}
use Rattle.profile.specs.Line.{line_of}
use Rattle.profile.proofs.RuleLaws.{and_first, and_rest, same_kinds, top, range_bounds, parts}
use Rattle.profile.proofs.Theorems.{writes_read}
use Rattle.words.specs.Words.{word_at, Small}
use Rattle.words.proofs.WordLaws.{word_small}
use Rattle.image.specs.Image.{trip_of, rate_of, profile_of, is_rate, is_rate_point, TripFits, RateFits}
use Rattle.image.specs.Theorems.{ProfileAgain, ImageFits, ValidFits, LineAgain}
use Rattle.image.proofs.ImageLaws.{profile_again}

pub profile_means : ProfileAgain
profile_means = profile_again

-- ---- valid profiles

-- the ranges of all rules end below 2^32
tops_small : List Rule → Bool
tops_small [] = true
tops_small (r ∷ rs) = ltb (top r.ranges) 4294967296 && tops_small rs

AllSmall : List Field → Type 0
AllSmall [] = Unit {0}
AllSmall (f ∷ fs) = Small f.size × AllSmall fs

all_small : (rs : List Rule) (fs : List Field) → tops_small rs ≡ true → obeys rs fs ≡ true → AllSmall fs
unfolding obeys tops_small AllSmall
all_small [] [] t e = tt
all_small [] (f ∷ fs) t e = absurd (false≢true e)
all_small (r ∷ rs) [] t e = tt
all_small (r ∷ rs) (f ∷ fs) t e =
    let high = ltb-true (top r.ranges) 4294967296 (and_first (ltb (top r.ranges) 4294967296) _ t) in
    let within = range_bounds r.ranges f.size (and_rest (same_kind f.kind r.kind) _ (and_first (fits r f) _ e)) in
    let others = all_small rs fs (and_rest (ltb (top r.ranges) 4294967296) _ t) (and_rest (fits r f) _ e) in
    (omega (arith, high, within.2), others)

all_tops_small : (kind : LineKind) → tops_small (rules kind) ≡ true
unfolding tops_small
all_tops_small GP1 = refl
all_tops_small GP2 = refl

-- the kinds of some fields, and of the fields that some rules ask for
abbrev kinds : List Field → List Kind
kinds fs = map (λ (f : Field). f.kind) fs

abbrev kinds_asked : List Rule → List Kind
kinds_asked rs = map (λ (r : Rule). r.kind) rs

rate_fits : (point : RatePoint) → AllSmall (rate_fields point) → RateFits point
unfolding AllSmall
rate_fits None s = tt
rate_fits (Some t) s = (s.0, s.1.0)

rate_kind : (point : RatePoint) → kinds (rate_fields point) ≡ kinds_asked (rate_rules (kind_for point)) → is_rate_point point ≡ true
rate_kind None e = refl
rate_kind (Some t) e = ap (λ (ks : List Kind). same_kind (get_or ks 0 plain) rate) e

all_true : (a b c d e : Bool) → a ≡ false → b ≡ false → c ≡ false → d ≡ false → e ≡ true
    → (not a && (not b && (not c && (not d && e)))) ≡ true
all_true a b c d e f g h i j = rw (f, g, h, i, j)

pub valid_fits : ValidFits
unfolding fields_of AllSmall
valid_fits table p ok =
    let kind = line_kind p in
    let obeyed = (parts table p ok).fields in
    let s = all_small (rules kind) (fields_of p) (all_tops_small kind) obeyed in
    let asked = same_kinds (rules kind) (fields_of p) obeyed in
    let same : (i : ℕ) → same_kind (get_or (kinds (fields_of p)) i plain) rate ≡ same_kind (get_or (kinds_asked (rules kind)) i plain) rate =
    λ i. ap (λ (ks : List Kind). same_kind (get_or ks i plain) rate) asked in
    record {
      serial = s.0;
      volts = s.1.0;
      hertz = s.1.1.0;
      trips = (
        (s.1.1.1.0, s.1.1.1.1.0),
        (s.1.1.1.1.1.0, s.1.1.1.1.1.1.0),
        (s.1.1.1.1.1.1.1.0, s.1.1.1.1.1.1.1.1.0),
        (s.1.1.1.1.1.1.1.1.1.0, s.1.1.1.1.1.1.1.1.1.1.0),
        rate_fits p.rate_of_change s.1.1.1.1.1.1.1.1.1.1.1,
      );
      kinds =
          all_true (is_rate p.over_voltage) (is_rate p.under_voltage) (is_rate p.over_frequency)
          (is_rate p.under_frequency) (is_rate_point p.rate_of_change)
          (same 3) (same 5) (same 7) (same 9)
          (rate_kind p.rate_of_change (ap (drop 11) asked));
    }

pub line_again : LineAgain
line_again table line p e =
    let read = writes_read table line p e in
    ap line_of (profile_means p (valid_fits table p read.1)) ∙ read.0

-- ---- images of bytes

-- what a limit that was read has for its number and its kind
module _ (size : ℕ) where
  size_read : (share? above? : Bool) → size_of (pick share? (Share size) (Offset (not above?) size)) ≡ size
  size_read true above? = refl
  size_read false above? = refl

  kind_read : (share? above? : Bool) → same_kind (kind_of (pick share? (Share size) (Offset (not above?) size))) rate ≡ false
  kind_read true above? = refl
  kind_read false true = refl
  kind_read false false = refl

trip_kind : (image : List ℕ) (at : ℕ) → is_rate (trip_of image at) ≡ false
unfolding trip_of
trip_kind image at =
    let kind = word_at image at in
    kind_read (word_at image (at + 4)) (eqb kind (kind_number share)) (eqb kind (kind_number above))

rate_read_kind : (image : List ℕ) (at : ℕ) → is_rate_point (rate_of image at) ≡ true
unfolding rate_of
rate_read_kind image at = by_presence (eqb (word_at image at) 0)
  where
    by_presence : (absent : Bool)
        → is_rate_point (pick absent None (Some (record { limit = Rate (word_at image (at + 4)); delay = word_at image (at + 8) }))) ≡ true
    by_presence true = refl
    by_presence false = refl

module _ (image : List ℕ) (bytes : (i : ℕ) → get_or image i 0 < 256) where
  abbrev small : (at : ℕ) → Small (word_at image at)
  small at = word_small image bytes at

  trip_read_fits : (at : ℕ) → TripFits (trip_of image at)
  unfolding trip_of
  trip_read_fits at =
      let kind = word_at image at in
      let size = word_at image (at + 4) in
      (rw (size_read size (eqb kind (kind_number share)) (eqb kind (kind_number above))) (small (at + 4)), small (at + 8))

  rate_read_fits : (at : ℕ) → RateFits (rate_of image at)
  unfolding rate_of
  rate_read_fits at = by_presence (eqb (word_at image at) 0)
    where
      by_presence : (absent : Bool)
          → RateFits (pick absent None (Some (record { limit = Rate (word_at image (at + 4)); delay = word_at image (at + 8) })))
      by_presence true = tt
      by_presence false = (small (at + 4), small (at + 8))

pub image_fits : ImageFits
unfolding profile_of
image_fits image bytes =
    let small = word_small image bytes in
    let trip = trip_read_fits image bytes in
    record {
      serial = small 4;
      volts = small 8;
      hertz = small 12;
      trips = (trip 16, trip 28, trip 40, trip 52, rate_read_fits image bytes 64);
      kinds =
          all_true (is_rate (trip_of image 16)) (is_rate (trip_of image 28)) (is_rate (trip_of image 40)) (is_rate (trip_of image 52))
          (is_rate_point (rate_of image 64))
          (trip_kind image 16) (trip_kind image 28) (trip_kind image 40) (trip_kind image 52) (rate_read_kind image 64);
    }
