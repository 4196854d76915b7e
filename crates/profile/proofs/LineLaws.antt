-- Laws of lines: their lengths, and what is read from them. Assumes nothing.
use mathlib.Core.Path.{◌≡◌, refl, ◌∙◌, sym, ap}
use mathlib.Core.Bool.{true, false, false≢true, ◌&&◌}
use mathlib.Core.List.{List, [], ◌∷◌, ◌++◌, map, append_assoc, append-nil}
use Prim.Native.Nat.{ℕ, suc, ◌+◌, max, ◌≤◌, ◌<◌}
use native.Mathlib.Omega.{arith}
use lib.Dec.{eqb, lit≤}
use lib.Pointwise.{pointwise}
use lib.ListN.{length, take, drop, get_or, take-append-drop, length-append}
use lib.Seq.{drop-append_seam, drop-drop}
use Rattle.std.proofs.lemmas.Grind.{common_steps}
use Rattle.decimal.specs.Decimal.{
  decimal,
  last_digits,
  largest,
  is_digit,
  leading_number,
  after_number,
  NumberAt,
  NumberBehind,
}
use Rattle.decimal.specs.declared.Number.{Number}
use Rattle.decimal.proofs.Decimal.{one_digit, number_before, after_before, number_missing, number_found}
use Rattle.decimal.proofs.Stores.{sets_append, appended_length}
use Rattle.outcome.specs.Answer.{pick}
use Rattle.outcome.specs.Lists.{same}
use Rattle.profile.specs.declared.Limit.{Limit}
use Rattle.profile.specs.declared.Limit.TheVariants.{Share, Offset, Rate}
use Rattle.profile.specs.declared.Trip.{Trip}
use Rattle.profile.specs.declared.rules.Kind.{Kind}
use Rattle.profile.specs.Rules.{RatePoint}
use Rattle.std.specs.Prelude.{None, Some}
use Rattle.profile.specs.declared.scan.TripRead.{TripRead}
use Rattle.profile.specs.declared.Profile.{Profile}
use Rattle.profile.specs.Rules.{share, above, below, plain, rate, same_kind, in_one_of, kind_of, size_of, Field, trip_fields, rate_fields, fields_of, LineKind, GP1, GP2, kind_for, line_kind, rate_rules, Rule, rules, fits, obeys}
use Rattle.profile.specs.Line.{comma, minus, line_feed, lead, field_bytes, written, head_of, line_of, shortest, longest, tag, field_number, after_field, numbers_in, limit_of, rate_from, profile_from, kind_in, scanned}
use Rattle.profile.specs.Theorems.{least, greatest}
use Rattle.profile.specs.InnerPlaces.{FieldAt, TripAt, trip_in, rate_in, RateAt}
use Rattle.profile.proofs.RuleLaws.{and_first, and_rest, kinds_equal, same_kinds, fewest, most, top, range_bounds}

-- ---- lengths

abbrev pub shortest_fields : List Rule → ℕ
shortest_fields [] = 0
shortest_fields (r ∷ rs) = length (lead r.kind) + fewest r.ranges + shortest_fields rs

abbrev pub longest_fields : List Rule → ℕ
longest_fields [] = 0
longest_fields (r ∷ rs) = length (lead r.kind) + most r.ranges + longest_fields rs

module _ (r : Rule) (f : Field) (e : fits r f ≡ true) where
  pub kind_fits : f.kind ≡ r.kind
  kind_fits = kinds_equal f.kind r.kind (and_first (same_kind f.kind r.kind) _ e)

  pub size_fits : in_one_of r.ranges f.size ≡ true
  size_fits = and_rest (same_kind f.kind r.kind) _ e

pub length_written : (rs : List Rule) (fs : List Field) → obeys rs fs ≡ true
    → (shortest_fields rs ≤ length (written fs)) × (length (written fs) ≤ longest_fields rs)
unfolding obeys written field_bytes
length_written [] [] e = omega arith
length_written [] (f ∷ fs) e = absurd (false≢true e)
length_written (r ∷ rs) [] e = absurd (false≢true e)
length_written (r ∷ rs) (f ∷ fs) e =
    let here = and_first (fits r f) _ e in
    let digits = range_bounds r.ranges f.size (size_fits r f here) in
    let others = length_written rs fs (and_rest (fits r f) _ e) in
    let leads : length (lead f.kind) ≡ length (lead r.kind) = ap (λ (k : Kind). length (lead k)) (kind_fits r f here) in
    omega
    (arith, length-append (lead f.kind ++ decimal f.size) (written fs), length-append (lead f.kind) (decimal f.size), leads, digits, others)

pub length_line : (p : Profile) → length (line_of p) ≡ length (head_of p) + (length (written (fields_of p)) + 1)
unfolding line_of
length_line p =
    length-append (head_of p) (written (fields_of p) ++ line_feed ∷ [])
    ∙ ap (λ (n : ℕ). length (head_of p) + n) (length-append (written (fields_of p)) (line_feed ∷ []))

fields_within : (kind : LineKind) → (least kind ≤ 9 + shortest_fields (rules kind)) × (9 + longest_fields (rules kind) ≤ greatest kind)
unfolding decimal last_digits
fields_within GP1 = (lit≤ tt, lit≤ tt)
fields_within GP2 = (lit≤ tt, lit≤ tt)

pub kind_lengths : (p : Profile) → obeys (rules (line_kind p)) (fields_of p) ≡ true
    → (least (line_kind p) ≤ length (line_of p)) × (length (line_of p) ≤ greatest (line_kind p))
kind_lengths p e = omega (arith, length_line p, length_written (rules (line_kind p)) (fields_of p) e, fields_within (line_kind p))

either_kind : (kind : LineKind) → (shortest ≤ least kind) × (greatest kind ≤ longest)
either_kind GP1 = (lit≤ tt, lit≤ tt)
either_kind GP2 = (lit≤ tt, lit≤ tt)

pub line_lengths : (p : Profile) → obeys (rules (line_kind p)) (fields_of p) ≡ true
    → (shortest ≤ length (line_of p)) × (length (line_of p) ≤ longest)
line_lengths p e = omega (arith, kind_lengths p e, either_kind (line_kind p))

-- ---- a line in the parts in which it is written

pub written_append : (fs gs : List Field) → written (fs ++ gs) ≡ written fs ++ written gs
unfolding written
written_append [] gs = refl
written_append (f ∷ fs) gs =
    ap (λ (l : List ℕ). field_bytes f.kind f.size ++ l) (written_append fs gs)
    ∙ sym (append_assoc (field_bytes f.kind f.size) (written fs) (written gs))

-- a field is a comma, and a minus where it is below
pub field_below : (kind : Kind) (size : ℕ) → same_kind kind below ≡ true → field_bytes kind size ≡ (comma ∷ []) ++ ((minus ∷ []) ++ decimal size)
unfolding field_bytes
field_below kind size e = rw e

pub field_other : (kind : Kind) (size : ℕ) → same_kind kind below ≡ false → field_bytes kind size ≡ (comma ∷ []) ++ decimal size
unfolding field_bytes
field_other kind size e = rw e

-- a comma and a digit, or more
pub one_digit_more : (kind : Kind) (size : ℕ) → 2 ≤ length (field_bytes kind size)
unfolding field_bytes
one_digit_more kind size =
    omega (arith, length-append (pick (same_kind kind below) (minus ∷ []) []) (decimal size), one_digit size)

pub trip_bytes : (t : Trip) → written (trip_fields t) ≡ field_bytes (kind_of t.limit) (size_of t.limit) ++ field_bytes plain t.delay
unfolding written
trip_bytes t = ap (λ (l : List ℕ). field_bytes (kind_of t.limit) (size_of t.limit) ++ l) (append-nil (field_bytes plain t.delay))

module _ (p : Profile) where
  pub ratings_bytes : written (take 3 (fields_of p))
      ≡ field_bytes plain p.serial ++ (field_bytes plain p.volts ++ field_bytes plain p.hertz)
  unfolding written fields_of
  ratings_bytes =
      ap (λ (l : List ℕ). field_bytes plain p.serial ++ (field_bytes plain p.volts ++ l)) (append-nil (field_bytes plain p.hertz))

  pub trips_bytes : written (drop 3 (fields_of p))
      ≡ written (trip_fields p.over_voltage) ++ (written (trip_fields p.under_voltage)
      ++ (written (trip_fields p.over_frequency) ++ (written (trip_fields p.under_frequency)
      ++ written (rate_fields p.rate_of_change))))
  unfolding fields_of
  trips_bytes =
      let fields₁ : List Field = trip_fields p.over_voltage in
      let fields₂ : List Field = trip_fields p.under_voltage in
      let fields₃ : List Field = trip_fields p.over_frequency in
      let fields₄ : List Field = trip_fields p.under_frequency in
      let fields₅ : List Field = rate_fields p.rate_of_change in
      written_append fields₁ (fields₂ ++ (fields₃ ++ (fields₄ ++ fields₅)))
      ∙ ap (λ (l : List ℕ). written fields₁ ++ l)
      (written_append fields₂ (fields₃ ++ (fields₄ ++ fields₅))
      ∙ ap (λ (l : List ℕ). written fields₂ ++ l)
      (written_append fields₃ (fields₄ ++ fields₅) ∙ ap (λ (l : List ℕ). written fields₃ ++ l) (written_append fields₄ fields₅)))

  pub line_bytes : line_of p ≡ head_of p ++ (written (take 3 (fields_of p)) ++ (written (drop 3 (fields_of p)) ++ (line_feed ∷ [])))
  unfolding line_of
  line_bytes =
      let ratings = written (take 3 (fields_of p)) in
      let trips = written (drop 3 (fields_of p)) in
      ap (λ (l : List ℕ). head_of p ++ l)
      (ap (λ (fs : List Field). written fs ++ (line_feed ∷ [])) (sym (take-append-drop 3 (fields_of p)))
      ∙ ap (λ (l : List ℕ). l ++ (line_feed ∷ [])) (written_append (take 3 (fields_of p)) (drop 3 (fields_of p)))
      ∙ append_assoc ratings trips (line_feed ∷ []))

-- and the lengths of these parts
pub none_written : written [] ≡ []
unfolding written
none_written = refl

module _ (p : Profile) where
  pub trips_length : length (written (drop 3 (fields_of p)))
      ≡ length (written (trip_fields p.over_voltage)) + (length (written (trip_fields p.under_voltage))
      + (length (written (trip_fields p.over_frequency)) + (length (written (trip_fields p.under_frequency))
      + length (written (rate_fields p.rate_of_change)))))
  trips_length = grind (arith, common_steps, trips_bytes p)

  pub line_length : length (line_of p)
      ≡ 8 + (length (written (take 3 (fields_of p))) + (length (written (drop 3 (fields_of p))) + 1))
  line_length = grind (arith, common_steps, line_bytes p)

-- what each function is told that writes parts of a line, one after the other
pub ruleset stored = (common_steps, sets_append, appended_length)

pub ruleset field_stored = (stored, field_below, field_other, one_digit_more)

pub ruleset trip_stored = (stored, trip_bytes)

pub ruleset ratings_stored = (stored, ratings_bytes)

pub ruleset rate_stored = (stored, none_written)

pub ruleset trips_stored = (stored, trips_bytes, trips_length)

pub ruleset line_stored = (stored, line_bytes, line_length)

-- ---- reading what was written

-- after a field comes a comma or the line's end, and neither is a digit
pub record Stops (bytes : List ℕ) : Type 0 where
  pub byte : ℕ
  pub others : List ℕ
  pub here : bytes ≡ byte ∷ others
  pub stop : is_digit byte ≡ false

stops : (fs : List Field) → Stops (written fs ++ line_feed ∷ [])
unfolding written field_bytes
stops [] = record { byte = line_feed; others = []; here = refl; stop = refl }
stops (f ∷ fs) = record { byte = comma; others = _; here = refl; stop = refl }

module _ (kind : Kind) (n : ℕ) (rest : List ℕ) (stop : Stops rest) where
  past_lead : drop (length (lead kind)) ((lead kind ++ decimal n) ++ rest) ≡ decimal n ++ stop.byte ∷ stop.others
  past_lead =
      ap (drop (length (lead kind))) (append_assoc (lead kind) (decimal n) rest)
      ∙ drop-append_seam (lead kind) (decimal n ++ rest)
      ∙ ap (λ (l : List ℕ). decimal n ++ l) stop.here

  field_number_lem : n ≤ largest → field_number kind ((lead kind ++ decimal n) ++ rest) ≡ n
  unfolding field_number
  field_number_lem h = ap leading_number past_lead ∙ number_before n stop.byte stop.others stop.stop h

  after_field_lem : after_field kind ((lead kind ++ decimal n) ++ rest) ≡ rest
  unfolding after_field
  after_field_lem = ap after_number past_lead ∙ after_before n stop.byte stop.others stop.stop ∙ sym stop.here

-- the largest number that some rules allow
abbrev pub top_of : List Rule → ℕ
top_of [] = 0
top_of (r ∷ rs) = max (top r.ranges) (top_of rs)

numbers_written : (rs : List Rule) (fs : List Field) → top_of rs ≤ largest → obeys rs fs ≡ true
    → numbers_in rs (written fs ++ line_feed ∷ []) ≡ map (λ (f : Field). f.size) fs
unfolding obeys written field_bytes numbers_in
numbers_written [] [] h e = refl
numbers_written [] (f ∷ fs) h e = absurd (false≢true e)
numbers_written (r ∷ rs) [] h e = absurd (false≢true e)
numbers_written (r ∷ rs) (f ∷ fs) h e =
    let here = and_first (fits r f) _ e in
    let rest : List ℕ = written fs ++ line_feed ∷ [] in
    let small : f.size ≤ largest = omega (arith, range_bounds r.ranges f.size (size_fits r f here)) in
    rw (append_assoc (lead f.kind ++ decimal f.size) (written fs) (line_feed ∷ []), ← kind_fits r f here)
    (λ i.
    field_number_lem f.kind f.size rest (stops fs) small i
    ∷ (ap (numbers_in rs) (after_field_lem f.kind f.size rest (stops fs)) ∙ numbers_written rs fs (omega arith) (and_rest (fits r f) _ e)) i)

-- a limit is known by its kind and its size
limit_known : (kind : Kind) (l : Limit) → kind_of l ≡ kind → limit_of kind (size_of l) ≡ l
limit_known kind l e = rw (← e) (by_cases l)
  where
    by_cases : (l : Limit) → limit_of (kind_of l) (size_of l) ≡ l
    by_cases (Share n) = refl
    by_cases (Offset true n) = refl
    by_cases (Offset false n) = refl
    by_cases (Rate n) = refl

-- a rate point, by the numbers of its fields
rate_known : (point : RatePoint) (ns : List ℕ) (i : ℕ)
    → map (λ (f : Field). f.kind) (rate_fields point) ≡ map (λ (r : Rule). r.kind) (rate_rules (kind_for point))
    → get_or ns i 0 ≡ get_or (map (λ (f : Field). f.size) (rate_fields point)) 0 0
    → get_or ns (suc i) 0 ≡ get_or (map (λ (f : Field). f.size) (rate_fields point)) 1 0
    → rate_from (kind_for point) ns i ≡ point
rate_known None ns i kinds limit delay = refl
rate_known (Some t) ns i kinds limit delay =
    let known : limit_of rate (get_or ns i 0) ≡ t.limit =
    ap (limit_of rate) limit ∙ limit_known rate t.limit (ap (λ (ks : List Kind). get_or ks 0 plain) kinds) in
    λ j. Some (record { limit = known j; delay = delay j })

-- a line is taken for the kind that it is of
tag_known : (kind : LineKind) → pick (same (tag kind) (tag GP2)) GP2 GP1 ≡ kind
unfolding same
tag_known GP1 = refl
tag_known GP2 = refl

pub kind_again : (p : Profile) → kind_in (line_of p) ≡ line_kind p
unfolding line_of
kind_again p = tag_known (line_kind p)

-- no rule allows a number over the largest
tops_allowed : (kind : LineKind) → top_of (rules kind) ≤ largest
tops_allowed GP1 = lit≤ tt
tops_allowed GP2 = lit≤ tt

pub scanned_line : (p : Profile) → obeys (rules (line_kind p)) (fields_of p) ≡ true → scanned (line_of p) ≡ p
unfolding scanned line_of fields_of
scanned_line p e =
    let kind = line_kind p in
    let kinds : map (λ (f : Field). f.kind) (fields_of p) ≡ map (λ (r : Rule). r.kind) (rules kind) =
    same_kinds (rules kind) (fields_of p) e in
    let limit_at : (i : ℕ) (kind : Kind) (l : Limit) → kind_of l ≡ get_or (map (λ (f : Field). f.kind) (fields_of p)) i plain
    → kind ≡ get_or (map (λ (r : Rule). r.kind) (rules (line_kind p))) i plain → limit_of kind (size_of l) ≡ l =
    λ i kind l a b. limit_known kind l (a ∙ ap (λ (ks : List Kind). get_or ks i plain) kinds ∙ sym b) in
    let rate_point = rate_known p.rate_of_change (map (λ (f : Field). f.size) (fields_of p)) 11 (ap (drop 11) kinds) refl refl in
    ap (λ (k : LineKind). profile_from k (line_of p) (numbers_in (rules k) (drop 8 (line_of p)))) (kind_again p)
    ∙ ap (profile_from kind (line_of p)) (numbers_written (rules kind) (fields_of p) (tops_allowed kind) e)
    ∙ (λ i.
    record {
      country = p.country;
      class = p.class;
      serial = p.serial;
      volts = p.volts;
      hertz = p.hertz;
      over_voltage = record { limit = limit_at 3 share p.over_voltage.limit refl refl i; delay = p.over_voltage.delay };
      under_voltage = record { limit = limit_at 5 share p.under_voltage.limit refl refl i; delay = p.under_voltage.delay };
      over_frequency = record { limit = limit_at 7 above p.over_frequency.limit refl refl i; delay = p.over_frequency.delay };
      under_frequency = record { limit = limit_at 9 below p.under_frequency.limit refl refl i; delay = p.under_frequency.delay };
      rate_of_change = rate_point i;
    })

-- ---- reading field by field, at places of the line

-- what follows a trip point
abbrev after_trip : Kind → List ℕ → List ℕ
after_trip kind bytes = after_field plain (after_field kind bytes)

-- what was read at a place, where the bytes from that place on have another name
module _ {line bytes : List ℕ} {at : ℕ} {kind : Kind} (here : drop at line ≡ bytes) where
  number_is : {r : Number} → FieldAt line at kind r → r.value ≡ field_number kind bytes
  number_is f = f.value ∙ ap (field_number kind) here

  number_after : {r : Number} → FieldAt line at kind r → drop r.end line ≡ after_field kind bytes
  number_after f = f.after ∙ ap (after_field kind) here

  trip_is : {r : TripRead} → TripAt line at kind r → r.trip ≡ trip_in kind bytes
  trip_is {r} t =
      let trip : r.trip ≡ trip_in kind (drop at line) = λ i. record { limit = t.limit i; delay = t.delay i } in
      trip ∙ ap (trip_in kind) here

  trip_after : {r : TripRead} → TripAt line at kind r → drop r.end line ≡ after_trip kind bytes
  trip_after t = t.after ∙ ap (after_trip kind) here

-- what `starts_with` says
eqb_swap : (a b : ℕ) → eqb a b ≡ eqb b a
eqb_swap a b = grind arith

pub begins : (front bytes : List ℕ) → pointwise eqb front bytes ≡ same bytes front
unfolding same
begins [] [] = refl
begins [] (y ∷ ys) = refl
begins (x ∷ xs) [] = refl
begins (x ∷ xs) (y ∷ ys) =
    rw (eqb_swap x y) (elim (eqb y x) as (λ b. (b && pointwise eqb xs ys) ≡ pick b (same ys xs) false) [ true ↦ begins xs ys | false ↦ refl ])

-- the numbers past those of the fields that every line has
rate_scanned : (kind : LineKind) (bytes : List ℕ) (ns : List ℕ) (i : ℕ)
    → get_or ns i 0 ≡ get_or (numbers_in (rate_rules kind) bytes) 0 0
    → get_or ns (suc i) 0 ≡ get_or (numbers_in (rate_rules kind) bytes) 1 0
    → rate_in kind bytes ≡ rate_from kind ns i
unfolding numbers_in
rate_scanned GP1 bytes ns i limit delay = refl
rate_scanned GP2 bytes ns i limit delay = λ j. Some (record { limit = limit_of rate (sym limit j); delay = sym delay j })

-- a line that was read field by field was scanned
module _ {line : List ℕ} {serial volts hertz : Number} {over_voltage under_voltage over_frequency under_frequency : TripRead}
    {point : RatePoint}
    (at₁ : FieldAt line 8 plain serial) (at₂ : FieldAt line serial.end plain volts) (at₃ : FieldAt line volts.end plain hertz)
    (at₄ : TripAt line hertz.end share over_voltage) (at₅ : TripAt line over_voltage.end share under_voltage)
    (at₆ : TripAt line under_voltage.end above over_frequency) (at₇ : TripAt line over_frequency.end below under_frequency)
    (at₈ : RateAt line under_frequency.end point) where
  pub scanned_parts :
      ◌≡◌ {A = Profile}
      (record {
        country = record { first = get_or line 4 0; second = get_or line 5 0 };
        class = get_or line 7 0;
        serial = serial.value;
        volts = volts.value;
        hertz = hertz.value;
        over_voltage = over_voltage.trip;
        under_voltage = under_voltage.trip;
        over_frequency = over_frequency.trip;
        under_frequency = under_frequency.trip;
        rate_of_change = point;
      })
      (scanned line)
  unfolding scanned numbers_in
  scanned_parts =
      let after₁ = number_after refl at₁ in
      let after₂ = number_after after₁ at₂ in
      let after₃ = number_after after₂ at₃ in
      let after₄ = trip_after after₃ at₄ in
      let after₅ = trip_after after₄ at₅ in
      let after₆ = trip_after after₅ at₆ in
      let after₇ = trip_after after₆ at₇ in
      let kind = kind_in line in
      let rate_point =
      at₈ ∙ ap (rate_in kind) after₇ ∙ rate_scanned kind _ (numbers_in (rules kind) (drop 8 line)) 11 refl refl in
      λ i.
      record {
        country = record { first = get_or line 4 0; second = get_or line 5 0 };
        class = get_or line 7 0;
        serial = at₁.value i;
        volts = number_is after₁ at₂ i;
        hertz = number_is after₂ at₃ i;
        over_voltage = trip_is after₃ at₄ i;
        under_voltage = trip_is after₄ at₅ i;
        over_frequency = trip_is after₅ at₆ i;
        under_frequency = trip_is after₆ at₇ i;
        rate_of_change = rate_point i;
      }

-- ---- a field's number, behind its lead

module _ (line : List ℕ) (at : ℕ) (kind : Kind) where
  pub past : drop (length (lead kind)) (drop at line) ≡ drop (at + length (lead kind)) line
  past = drop-drop (length (lead kind)) at line

  pub field_behind : {r : Number} → NumberBehind line at (length (lead kind)) r → FieldAt line at kind r
  unfolding field_number after_field
  field_behind found = record { value = found.value; after = found.after; within = found.within }

  -- nothing stands past the end
  pub field_missing : length line < at + length (lead kind) → FieldAt line at kind (record { value = 0; end = length line })
  field_missing h = field_behind (number_missing line at (length (lead kind)) h)

  pub field_found : {r : Number} → at + length (lead kind) ≤ length line → NumberAt line (at + length (lead kind)) r
      → FieldAt line at kind r
  field_found h found = field_behind (number_found line at (length (lead kind)) h found)
