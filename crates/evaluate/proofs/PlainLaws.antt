-- Laws of the line of a valid profile, whose limits are numbers: how it is cut into fields, that with sound limits it is again
-- the line of a valid profile, and that each of its limits is worth the number that it spells. What `value_of` gives for a
-- number is a parameter of these last laws.
-- Assumes nothing.
use mathlib.Core.Path.{◌≡◌, refl, ◌∙◌, sym, ap, ap₂}
use mathlib.Core.Bool.{Bool, true, false, false≢true, not, ◌&&◌}
use mathlib.Core.Logic.{⊎_elim}
use mathlib.Core.List.{List, [], ◌∷◌, ◌++◌, append_assoc}
use Prim.Native.Nat.{ℕ, zero, suc, ◌%◌, ◌/◌, ◌≤◌}
use native.Mathlib.Omega.{arith}
use lib.Dec.{T, eqb, leb}
use lib.IntN.{ℤ, pos, neg_ℤ}
use borrow.Author.Tests.{leb-true, ne_eqb}
use Rattle.outcome.specs.Answer.{pick}
use Rattle.outcome.specs.Result.{Result, Ok}
use Rattle.outcome.proofs.Computed.{both_left, both_right}
use Rattle.decimal.specs.Decimal.{digit, decimal}
use Rattle.decimal.proofs.Decimal.{decimal_small, decimal_more, by_tenths}
use Rattle.formula.specs.Reader.{value_of}
use Rattle.profile.specs.declared.Limit.{Limit}
use Rattle.profile.specs.declared.Limit.TheVariants.{Share, Offset, Rate}
use Rattle.profile.specs.declared.Trip.{Trip}
use Rattle.profile.specs.Rules.{RatePoint}
use Rattle.std.specs.Prelude.{None, Some}
use Rattle.profile.specs.declared.Profile.{Profile}
use Rattle.profile.specs.Rules.{
  Range,
  ◌to◌,
  contains,
  in_one_of,
  below,
  same_kind,
  Field,
  rate_fields,
  fields_of,
  LineKind,
  GP1,
  GP2,
  kind_for,
  line_kind,
  rate_rules,
  Rule,
  rules,
  fits,
  obeys,
  Class,
  letters,
  valid,
}
use Rattle.profile.specs.Line as Line
use Rattle.profile.specs.Line.{comma, minus, line_feed, field_bytes, written, line_of, read_line}
use Rattle.profile.proofs.RuleLaws.{holds, and_first, and_rest, either, Valid, parts}
use Rattle.profile.proofs.LineLaws.{size_fits}
use Rattle.profile.proofs.Theorems.{reads_written}
use Rattle.evaluate.specs.Evaluate.{
  is_closed,
  longer,
  fields,
  is_limit,
  numeral,
  numeral_in,
  field_text,
  joined,
  text_from,
  sound_limit,
  sound_text,
  plain_text,
  text_in,
  frame,
}

-- ---- texts with neither comma nor LF

abbrev Free : List ℕ → Type 0
Free [] = Unit {0}
Free (b ∷ bs) = (eqb b comma ≡ false) × ((eqb b line_feed ≡ false) × Free bs)

-- two such texts, one behind the other
free_append : (x y : List ℕ) → Free x → Free y → Free (x ++ y)
free_append [] y f g = g
free_append (b ∷ x) y f g = (f.0, (f.1.0, free_append x y f.1.1 g))

-- a digit, and hence each number in decimal
free_digit : (d : ℕ) → Free (digit d ∷ [])
free_digit d = (ne_eqb (digit d) comma (λ e. omega arith), (ne_eqb (digit d) line_feed (λ e. omega arith), tt))

free_decimal : (n : ℕ) → Free (decimal n)
free_decimal =
    by_tenths (λ (n : ℕ). Free (decimal n)) (λ n h. rw (decimal_small n h) (free_digit n))
    (λ n h ih. rw (decimal_more n h) (free_append (decimal (n / 10)) (digit (n % 10) ∷ []) ih (free_digit (n % 10))))

-- a letter
free_letter : (b : ℕ) (rest : List ℕ) → contains letters b ≡ true → Free rest → Free (b ∷ rest)
free_letter b rest e f =
    let low : 65 ≤ b = leb-true 65 b (and_first (leb 65 b) _ e) in
    (ne_eqb b comma (λ q. omega arith), (ne_eqb b line_feed (λ q. omega arith), f))

-- the text of a field: a minus where it is below, and its number
abbrev text_of : Field → List ℕ
text_of f = pick (same_kind f.kind below) (minus ∷ []) [] ++ decimal f.size

-- it is such a text
free_text : (f : Field) → Free (text_of f)
free_text f = at (same_kind f.kind below)
  where
    at : (b : Bool) → Free (pick b (minus ∷ []) [] ++ decimal f.size)
    at true = (refl, (refl, free_decimal f.size))
    at false = free_decimal f.size

-- ---- the end of a line: some fields and LF

abbrev ending : List Field → List ℕ
ending fs = written fs ++ (line_feed ∷ [])

-- its first field, behind a comma
ending_more : (f : Field) (fs : List Field) → ending (f ∷ fs) ≡ comma ∷ (text_of f ++ ending fs)
unfolding written field_bytes
ending_more f fs = ap (λ (l : List ℕ). comma ∷ l) (append_assoc (text_of f) (written fs) (line_feed ∷ []))

-- its first LF is its last byte, also behind a text with none
closed_behind : (x rest : List ℕ) → Free x → is_closed (x ++ rest) ≡ is_closed rest
unfolding is_closed
closed_behind [] rest f = refl
closed_behind (b ∷ x) rest f = rw f.1.0 (closed_behind x rest f.1.1)

closed_ending : (fs : List Field) → is_closed (ending fs) ≡ true
unfolding is_closed written
closed_ending [] = refl
closed_ending (f ∷ fs) =
    ap is_closed (ending_more f fs) ∙ closed_behind (text_of f) (ending fs) (free_text f) ∙ closed_ending fs

-- ---- cut at the commas

-- a text before a comma is the first field, and one before the LF the last, with the LF
cut_first : (x rest : List ℕ) → Free x → fields (x ++ (comma ∷ rest)) ≡ x ∷ fields rest
unfolding fields
cut_first [] rest f = refl
cut_first (b ∷ x) rest f = rw f.0 (ap (longer b) (cut_first x rest f.1.1))

cut_last : (x : List ℕ) → Free x → fields (x ++ (line_feed ∷ [])) ≡ (x ++ (line_feed ∷ [])) ∷ []
unfolding fields
cut_last [] f = refl
cut_last (b ∷ x) f = rw f.0 (ap (longer b) (cut_last x f.1.1))

-- a text, and the texts of the fields behind it; the last has the LF
abbrev pieces : List ℕ → List Field → List (List ℕ)
pieces x [] = (x ++ (line_feed ∷ [])) ∷ []
pieces x (f ∷ fs) = x ∷ pieces (text_of f) fs

-- into these a line is cut
cut_pieces : (x : List ℕ) (fs : List Field) → Free x → fields (x ++ ending fs) ≡ pieces x fs
unfolding written
cut_pieces x [] f = cut_last x f
cut_pieces x (g ∷ fs) f =
    ap (λ (l : List ℕ). fields (x ++ l)) (ending_more g fs)
    ∙ cut_first x (text_of g ++ ending fs) f
    ∙ ap (λ (l : List (List ℕ)). x ∷ l) (cut_pieces (text_of g) fs (free_text g))

-- ---- numbers in place of the limits

module _ (value : ℕ → List ℕ → Result ℤ) where
  -- field k, of text x, and the fields behind it turn into a text and fields; the last is no limit
  data Turned : ℕ → List ℕ → List ℕ → List Field → List Field → Type 0 where
    last : {k : ℕ} {x : List ℕ} → is_limit k ≡ false → Turned k x x [] []
    next : {k : ℕ} {x y : List ℕ} {f g : Field} {fs gs : List Field} → field_text value k x ≡ Ok y
        → Turned (suc k) (text_of f) (text_of g) fs gs → Turned k x y (f ∷ fs) (g ∷ gs)

  -- a field more at the front
  text_more : (k : ℕ) (x y : List ℕ) (fs : List Field)
      → text_from value k (x ∷ pieces y fs) ≡ joined (field_text value k x) (text_from value (suc k) (pieces y fs))
  unfolding text_from
  text_more k x y [] = refl
  text_more k x y (f ∷ fs) = refl

  -- the text of what the fields turn into
  text_turned : {k : ℕ} {x y : List ℕ} {fs gs : List Field} → Turned k x y fs gs
      → text_from value k (pieces x fs) ≡ Ok (y ++ ending gs)
  unfolding text_from written
  text_turned (last {k} {x} e) =
      ap (λ (b : Bool). pick b (numeral_in (value k (x ++ (line_feed ∷ [])))) (Ok (x ++ (line_feed ∷ [])))) e
  text_turned (next {k} {x} {y} {f} {g} {fs} {gs} e t) =
      text_more k x (text_of f) fs
      ∙ ap₂ joined e (text_turned t)
      ∙ ap (λ (l : List ℕ). Ok (y ++ l)) (sym (ending_more g gs))

  -- tag and country stay, whatever they are
  whole_turned : (tag country : List ℕ) {x y : List ℕ} {fs gs : List Field} → Turned 2 x y fs gs
      → text_from value 0 (tag ∷ country ∷ pieces x fs) ≡ Ok (tag ++ (comma ∷ (country ++ (comma ∷ (y ++ ending gs)))))
  unfolding text_from
  whole_turned tag country {x} {y} {fs} {gs} t =
      ap (joined (Ok tag)) (text_more 1 country x fs ∙ ap (joined (Ok country)) (text_turned t))

-- ---- the limits of a plain line are worth their numbers

-- numbers of these ranges are positive, and small enough for a formula
abbrev small : List Range → Bool
small [] = true
small (low to high ∷ rs) = leb 1 low && (leb high 1000000 && small rs)

-- which is what it means of a number of the ranges
small_size : (rs : List Range) (n : ℕ) → in_one_of rs n ≡ true → T (small rs) → (1 ≤ n) × (n ≤ 1000000)
small_size [] n e t = absurd (false≢true e)
small_size (low to high ∷ rs) n e t =
    let others : T (leb high 1000000 && small rs) = both_right (leb 1 low) _ t in
    let low_one : 1 ≤ low = leb-true 1 low (holds (leb 1 low) (both_left (leb 1 low) _ t)) in
    let high_most : high ≤ 1000000 =
    leb-true high 1000000 (holds (leb high 1000000) (both_left (leb high 1000000) _ others)) in
    ⊎_elim
    (λ here.
    let from : low ≤ n = leb-true low n (and_first (leb low n) _ here) in
    let up_to : n ≤ high = leb-true n high (and_rest (leb low n) _ here) in
    (omega arith, omega arith))
    (λ later. small_size rs n later (both_right (leb high 1000000) _ others))
    (either (contains (low to high) n) (in_one_of rs n) e)

-- a field k that is a limit has such numbers only
abbrev small_at : ℕ → Rule → Bool
small_at k r = pick (is_limit k) (small r.ranges) true

-- behind field k come fields of these rules: the limits among them are small, and the last of the fields is no limit
abbrev small_behind : ℕ → List Rule → Bool
small_behind k [] = not (is_limit k)
small_behind k (r ∷ rs) = small_at (suc k) r && small_behind (suc k) rs

-- the numeral of a negative number
negative_numeral : (n : ℕ) → 1 ≤ n → numeral (neg_ℤ (pos n)) ≡ minus ∷ decimal n
negative_numeral zero h = absurd (omega arith)
negative_numeral (suc n) h = refl

-- what the test on the last field says
no_limit : (b : Bool) → T (not b) → b ≡ false
no_limit true t = absurd t
no_limit false t = refl

-- the number that a formula is worth
abbrev worked : ℕ → ℕ → List ℕ → Result ℤ
worked volts k f = value_of volts f

-- what is asked of `value_of`: a number, and a number behind a minus, are worth what they spell
abbrev pub ValueNumber : Type 0
ValueNumber = (volts n : ℕ) → n ≤ 1000000 → value_of volts (decimal n) ≡ Ok (pos n)

abbrev pub ValueNegative : Type 0
ValueNegative = (volts n : ℕ) → 1 ≤ n → n ≤ 1000000 → value_of volts (45 ∷ decimal n) ≡ Ok (neg_ℤ (pos n))

module _ (value_number : ValueNumber) (value_negative : ValueNegative) (volts : ℕ) where
  -- a positive number that is small enough is worth itself, with a minus and without
  number_stays : (f : Field) → (1 ≤ f.size) × (f.size ≤ 1000000)
      → numeral_in (value_of volts (text_of f)) ≡ Ok (text_of f)
  number_stays f h = at (same_kind f.kind below)
    where
      at : (b : Bool) → numeral_in (value_of volts (pick b (minus ∷ []) [] ++ decimal f.size))
          ≡ Ok (pick b (minus ∷ []) [] ++ decimal f.size)
      at true =
          ap numeral_in (value_negative volts f.size h.0 h.1) ∙ ap Ok (negative_numeral f.size h.0)
      at false = ap numeral_in (value_number volts f.size h.1)

  -- so a field that fits its rule stays, limit or not
  field_stays : (k : ℕ) (r : Rule) (f : Field) → fits r f ≡ true → T (small_at k r)
      → field_text (worked volts) k (text_of f) ≡ Ok (text_of f)
  field_stays k r f e t = at (is_limit k) t
    where
      at : (b : Bool) → T (pick b (small r.ranges) true)
          → pick b (numeral_in (value_of volts (text_of f))) (Ok (text_of f)) ≡ Ok (text_of f)
      at true s = number_stays f (small_size r.ranges f.size (size_fits r f e) s)
      at false s = refl

  -- and so do all fields behind one that stays
  stays : (k : ℕ) (x : List ℕ) (rs : List Rule) (fs : List Field) → obeys rs fs ≡ true → T (small_behind k rs)
      → field_text (worked volts) k x ≡ Ok x → Turned (worked volts) k x x fs fs
  unfolding obeys
  stays k x [] [] e t here = last (no_limit (is_limit k) t)
  stays k x [] (f ∷ fs) e t here = absurd (false≢true e)
  stays k x (r ∷ rs) [] e t here = absurd (false≢true e)
  stays k x (r ∷ rs) (f ∷ fs) e t here =
      let fitting : fits r f ≡ true = and_first (fits r f) _ e in
      let this : T (small_at (suc k) r) = both_left (small_at (suc k) r) _ t in
      let others : T (small_behind (suc k) rs) = both_right (small_at (suc k) r) _ t in
      next here (stays (suc k) (text_of f) rs fs (and_rest (fits r f) _ e) others (field_stays (suc k) r f fitting this))

-- ---- the same profile with sound limits

-- a trip point with another limit and its own delay
abbrev sound_trip : Limit → Trip → Trip
sound_trip l t = record { limit = l; delay = t.delay }

-- a rate point, where it is present
abbrev sound_rate : RatePoint → RatePoint
sound_rate None = None
sound_rate (Some t) = Some (sound_trip (Rate 100) t)

-- the limits are 1001, 1, 1, -1 and 100, all else is as it was
abbrev pub sound : Profile → Profile
sound p =
    record {
      country = p.country;
      class = p.class;
      serial = p.serial;
      volts = p.volts;
      hertz = p.hertz;
      over_voltage = sound_trip (Share 1001) p.over_voltage;
      under_voltage = sound_trip (Share 1) p.under_voltage;
      over_frequency = sound_trip (Offset false 1) p.over_frequency;
      under_frequency = sound_trip (Offset true 1) p.under_frequency;
      rate_of_change = sound_rate p.rate_of_change;
    }

-- its line is of the same kind
sound_kind : (point : RatePoint) → kind_for (sound_rate point) ≡ kind_for point
sound_kind None = refl
sound_kind (Some t) = refl

-- fields of which some are replaced by others that fit their rules
data Put : List Rule → List Field → List Field → Type 0 where
  none : Put [] [] []
  kept : {r : Rule} {f : Field} {rs : List Rule} {fs gs : List Field} → Put rs fs gs → Put (r ∷ rs) (f ∷ fs) (f ∷ gs)
  put : {r : Rule} {f g : Field} {rs : List Rule} {fs gs : List Field} → fits r g ≡ true → Put rs fs gs
      → Put (r ∷ rs) (f ∷ fs) (g ∷ gs)

-- they obey the rules where the fields did
put_obeys : {rs : List Rule} {fs gs : List Field} → Put rs fs gs → obeys rs fs ≡ true → obeys rs gs ≡ true
unfolding obeys
put_obeys none e = refl
put_obeys (kept {r} {f} s) e = rw (and_first (fits r f) _ e) (put_obeys s (and_rest (fits r f) _ e))
put_obeys (put {r} {f} h s) e = rw h (put_obeys s (and_rest (fits r f) _ e))

-- the fields of the profile with sound limits are such fields
rate_put : (point : RatePoint) → Put (rate_rules (kind_for point)) (rate_fields point) (rate_fields (sound_rate point))
rate_put None = none
rate_put (Some t) = put refl (kept none)

sound_put : (p : Profile) → Put (rules (line_kind p)) (fields_of p) (fields_of (sound p))
unfolding fields_of
sound_put p =
    kept (kept (kept (put refl (kept (put refl (kept (put refl (kept (put refl (kept
    (rate_put p.rate_of_change)))))))))))

-- it is valid where the profile is
sound_valid : (table : List Class) (p : Profile) → T (valid table p) → T (valid table (sound p))
unfolding valid
sound_valid table p ok =
    let known : Valid table p = parts table p ok in
    let obeying : obeys (rules (line_kind p)) (fields_of (sound p)) ≡ true = put_obeys (sound_put p) known.fields in
    rw (known.first, known.second, sound_kind p.rate_of_change, obeying, known.letter, known.agrees) tt

-- the number that each limit is replaced by
abbrev soundly : ℕ → List ℕ → Result ℤ
soundly k f = Ok (sound_limit k)

-- its fields are what those of the profile turn into
rate_turned : (point : RatePoint) {x : List ℕ} → Turned soundly 13 x x (rate_fields point) (rate_fields (sound_rate point))
rate_turned None = last refl
rate_turned (Some t) = next refl (next refl (last refl))

sound_turned : (p : Profile) (x : List ℕ) → Turned soundly 2 x x (fields_of p) (fields_of (sound p))
unfolding fields_of
sound_turned p x =
    next refl (next refl (next refl (next refl (next refl (next refl (next refl (next refl (next refl (next refl
    (next refl (rate_turned p.rate_of_change)))))))))))

-- ---- the line of a valid profile

-- tag and country, without the commas behind them
abbrev tag_of : LineKind → List ℕ
tag_of kind = 71 ∷ 80 ∷ Line.digit kind ∷ []

abbrev country_of : Profile → List ℕ
country_of p = p.country.first ∷ p.country.second ∷ []

-- the line from the class on, and from the country on
abbrev from_class : Profile → List ℕ
from_class p = p.class ∷ ending (fields_of p)

abbrev from_country : Profile → List ℕ
from_country p = country_of p ++ (comma ∷ from_class p)

-- the tag has neither comma nor LF
free_tag : (kind : LineKind) → Free (tag_of kind)
free_tag GP1 = (refl, (refl, (refl, (refl, (refl, (refl, tt))))))
free_tag GP2 = (refl, (refl, (refl, (refl, (refl, (refl, tt))))))

-- the limits of either kind of line are small, and its last field is none
small_rules : (kind : LineKind) → T (small_behind 2 (rules kind))
small_rules GP1 = tt
small_rules GP2 = tt

module _ (table : List Class) (p : Profile) (ok : T (valid table p)) where
  -- nor have country and class
  free_country : Free (country_of p)
  free_country =
      let known : Valid table p = parts table p ok in
      free_letter p.country.first (p.country.second ∷ []) known.first
      (free_letter p.country.second [] known.second tt)

  free_class : Free (p.class ∷ [])
  free_class = free_letter p.class [] (parts table p ok).letter tt

  -- its first LF is its last byte
  pub closed_line : is_closed (line_of p) ≡ true
  unfolding line_of is_closed
  closed_line =
      closed_behind (tag_of (line_kind p)) (comma ∷ from_country p) (free_tag (line_kind p))
      ∙ closed_behind (country_of p) (comma ∷ from_class p) free_country
      ∙ closed_behind (p.class ∷ []) (ending (fields_of p)) free_class
      ∙ closed_ending (fields_of p)

  -- its fields
  cut_line : fields (line_of p) ≡ tag_of (line_kind p) ∷ country_of p ∷ pieces (p.class ∷ []) (fields_of p)
  unfolding line_of
  cut_line =
      cut_first (tag_of (line_kind p)) (from_country p) (free_tag (line_kind p))
      ∙ ap (λ (l : List (List ℕ)). tag_of (line_kind p) ∷ l)
      (cut_first (country_of p) (from_class p) free_country
      ∙ ap (λ (l : List (List ℕ)). country_of p ∷ l) (cut_pieces (p.class ∷ []) (fields_of p) free_class))

  -- with sound limits it is the line of the profile with sound limits, which is read, with the same volts
  sound_line : sound_text (line_of p) ≡ Ok (line_of (sound p))
  unfolding sound_text line_of
  sound_line =
      let rest : List ℕ = country_of p ++ (comma ∷ p.class ∷ ending (fields_of (sound p))) in
      ap (text_from soundly 0) cut_line
      ∙ whole_turned soundly (tag_of (line_kind p)) (country_of p) (sound_turned p (p.class ∷ []))
      ∙ ap (λ (kind : LineKind). Ok (tag_of kind ++ (comma ∷ rest))) (sym (sound_kind p.rate_of_change))

  pub framed : frame table (line_of p) ≡ Ok (sound p)
  framed =
      ap (λ (text : Result (List ℕ)). read_line table (text_in text)) sound_line
      ∙ reads_written table (sound p) (sound_valid table p ok)

  -- with its limits worked out it is itself
  module _ (value_number : ValueNumber) (value_negative : ValueNegative) where
    pub plain_line_lem : (volts : ℕ) → plain_text volts (line_of p) ≡ Ok (line_of p)
    unfolding plain_text line_of
    plain_line_lem volts =
        ap (text_from (worked volts) 0) cut_line
        ∙ whole_turned (worked volts) (tag_of (line_kind p)) (country_of p)
        (stays value_number value_negative volts 2 (p.class ∷ []) (rules (line_kind p)) (fields_of p)
        (parts table p ok).fields (small_rules (line_kind p)) refl)
