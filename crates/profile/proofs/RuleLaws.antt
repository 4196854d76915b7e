-- Laws of tests, checks and rules. Assumes nothing.
use mathlib.Core.Path.{◌≡◌, refl, ◌∙◌, sym, ap, subst}
use mathlib.Core.Bool.{Bool, true, false, false≢true, not, ◌&&◌, ◌||◌, and_assoc, and-false}
use mathlib.Core.Logic.{◌⊎◌, inl, inr, ⊎_elim}
use mathlib.Core.List.{List, [], ◌∷◌, ◌++◌, map}
use Prim.Native.Nat.{ℕ, min, max, ◌≤◌, ◌<◌}
use native.Mathlib.Omega.{arith}
use lib.Dec.{T, leb, eqb}
use lib.ListN.{length, take, drop}
use native.Mathlib.Decide.{dec_lt}
use borrow.Author.Tests.{leb-true, eqb-true, le-leb, lt-leb, eq-eqb, ne_eqb, not-true, not-false}
use Rattle.outcome.specs.Answer.{Check, ◌unless◌, Passed, pick}
use Rattle.decimal.specs.Decimal.{decimal, largest}
use Rattle.decimal.proofs.Decimal.{length_mono}
use Rattle.profile.specs.declared.Profile.{Profile}
use Rattle.profile.specs.declared.rules.Kind.{Kind}
use Rattle.profile.specs.declared.rules.Kind.TheVariants as kinds
use Rattle.outcome.specs.Result.{Ok, answer}
use Rattle.profile.specs.Rules.{Range, ◌to◌, low, high, contains, in_one_of, share, above, below, plain, rate, kind_number, same_kind, number, Field, trip_fields, rate_fields, fields_of, line_kind, one, nominal_hertz, trip_rules, rate_rules, Rule, rules, fits, obeys, Class, class_in, is_class, letters, valid}

-- ---- the ends of a range, under other names

abbrev pub lowest : Range → ℕ
lowest = low

abbrev pub highest : Range → ℕ
highest = high

-- ---- tests

pub holds : (b : Bool) → T b → b ≡ true
holds true t = refl
holds false t = absurd t

pub test : (b : Bool) → b ≡ true → T b
test b e = subst T (sym e) tt

pub and_first : (a b : Bool) → (a && b) ≡ true → a ≡ true
and_first true b e = refl
and_first false b e = e

pub and_rest : (a b : Bool) → (a && b) ≡ true → b ≡ true
and_rest true b e = e
and_rest false b e = absurd (false≢true e)

pub either : (a b : Bool) → (a || b) ≡ true → (a ≡ true) ⊎ (b ≡ true)
either true b e = inl refl
either false b e = inr e

-- what a test in the code says of the definition that its result equals
pub failing : {r b : Bool} → r ≡ b → not r ≡ true → b ≡ false
failing {r} e f = sym e ∙ not-true r f

pub passing : {r b : Bool} → r ≡ b → not r ≡ false → b ≡ true
passing {r} e f = sym e ∙ not-false r f

-- ---- checks

pub passed_done : {A : Type 0} (cs : List Check) (a : A) → Passed cs → answer cs a ≡ Ok a
passed_done [] a ok = refl
passed_done (r unless true ∷ cs) a ok = passed_done cs a ok.1
passed_done (r unless false ∷ cs) a ok = absurd ok.0

pub done_passed : {A : Type 0} (cs : List Check) (a b : A) → answer cs a ≡ Ok b → Passed cs × (a ≡ b)
done_passed [] a b e = (tt, cc)
done_passed (r unless true ∷ cs) a b e = let rest = done_passed cs a b e in ((tt, rest.0), rest.1)
done_passed {A} (r unless false ∷ cs) a b e = let z : ◌≡◌ {A = ℕ} 0 1 = cc in absurd (omega arith)

-- ---- ranges

module _ (low high n : ℕ) where
  pub inside : low ≤ n → n ≤ high → contains (low to high) n ≡ true
  inside h k = rw (le-leb low n h) (le-leb n high k)

  pub under : n < low → contains (low to high) n ≡ false
  under h = rw (lt-leb low n h)

  pub over : high < n → contains (low to high) n ≡ false
  over h = ap (λ (b : Bool). leb low n && b) (lt-leb n high h) ∙ and-false (leb low n)

-- a range of one number is a comparison
pub one_number : (a n : ℕ) → contains (a to a) n ≡ eqb n a
one_number a n =
    ⊎_elim (λ h. under a a n h ∙ sym (ne_eqb n a (omega arith)))
    (⊎_elim (λ h. over a a n h ∙ sym (ne_eqb n a (omega arith)))
    (λ e. inside a a n (omega arith) (omega arith) ∙ sym (eq-eqb n a e)))
    (order n a)
  where
    order : (n a : ℕ) → (n < a) ⊎ ((a < n) ⊎ (n ≡ a))
    order n a = elim (dec_lt n a) [ yes h ↦ inl h | no h ↦ elim (dec_lt a n) [ yes k ↦ inr (inl k) | no k ↦ inr (inr (omega arith)) ] ]

-- ---- kinds

kind_at : ℕ → Kind
kind_at n =
    pick (eqb n 0) share (pick (eqb n 1) above (pick (eqb n 2) below (pick (eqb n 3) plain rate)))

kind_again : (k : Kind) → kind_at (kind_number k) ≡ k
unfolding kind_at
kind_again kinds.Share = refl
kind_again kinds.Above = refl
kind_again kinds.Below = refl
kind_again kinds.Plain = refl
kind_again kinds.Rate = refl

pub kinds_equal : (a b : Kind) → same_kind a b ≡ true → a ≡ b
kinds_equal a b e = sym (kind_again a) ∙ ap kind_at (eqb-true (kind_number a) (kind_number b) e) ∙ kind_again b

-- ---- rules

-- rules in two parts, for fields in two parts
pub obeys_append : (rs ss : List Rule) (fs gs : List Field) → length rs ≡ length fs
    → obeys (rs ++ ss) (fs ++ gs) ≡ (obeys rs fs && obeys ss gs)
unfolding obeys
obeys_append [] ss [] gs h = refl
obeys_append [] ss (f ∷ fs) gs h = absurd (omega arith)
obeys_append (r ∷ rs) ss [] gs h = absurd (omega arith)
obeys_append (r ∷ rs) ss (f ∷ fs) gs h =
    ap (λ (b : Bool). fits r f && b) (obeys_append rs ss fs gs (omega arith)) ∙ sym (and_assoc (fits r f) (obeys rs fs) (obeys ss gs))

-- the trip points of a profile, each by itself
pub trips_apart : (p : Profile) → obeys (drop 3 (rules (line_kind p))) (drop 3 (fields_of p))
    ≡ (obeys (trip_rules share (1001 to 1500)) (trip_fields p.over_voltage)
    && (obeys (trip_rules share (1 to 999)) (trip_fields p.under_voltage)
    && (obeys (trip_rules above (1 to 5000)) (trip_fields p.over_frequency)
    && (obeys (trip_rules below (1 to 5000)) (trip_fields p.under_frequency)
    && obeys (rate_rules (line_kind p)) (rate_fields p.rate_of_change)))))
unfolding fields_of
trips_apart p =
    let rules₁ : List Rule = trip_rules share (1001 to 1500) in
    let rules₂ : List Rule = trip_rules share (1 to 999) in
    let rules₃ : List Rule = trip_rules above (1 to 5000) in
    let rules₄ : List Rule = trip_rules below (1 to 5000) in
    let rules₅ : List Rule = rate_rules (line_kind p) in
    let fields₁ : List Field = trip_fields p.over_voltage in
    let fields₂ : List Field = trip_fields p.under_voltage in
    let fields₃ : List Field = trip_fields p.over_frequency in
    let fields₄ : List Field = trip_fields p.under_frequency in
    let fields₅ : List Field = rate_fields p.rate_of_change in
    obeys_append rules₁ (rules₂ ++ (rules₃ ++ (rules₄ ++ rules₅))) fields₁ (fields₂ ++ (fields₃ ++ (fields₄ ++ fields₅))) refl
    ∙ ap (λ (b : Bool). obeys rules₁ fields₁ && b)
    (obeys_append rules₂ (rules₃ ++ (rules₄ ++ rules₅)) fields₂ (fields₃ ++ (fields₄ ++ fields₅)) refl
    ∙ ap (λ (b : Bool). obeys rules₂ fields₂ && b)
    (obeys_append rules₃ (rules₄ ++ rules₅) fields₃ (fields₄ ++ fields₅) refl
    ∙ ap (λ (b : Bool). obeys rules₃ fields₃ && b) (obeys_append rules₄ rules₅ fields₄ fields₅ refl)))

-- country, ratings, trip points and class, each by itself
pub valid_apart : (table : List Class) (p : Profile) → valid table p
    ≡ ((contains letters p.country.first && contains letters p.country.second)
    && (obeys (take 3 (rules (line_kind p))) (number p.serial ∷ number p.volts ∷ number p.hertz ∷ [])
    && (obeys (drop 3 (rules (line_kind p))) (drop 3 (fields_of p))
    && (contains letters p.class && is_class (class_in table p.volts) p.class))))
unfolding fields_of valid
valid_apart table p =
    let first = contains letters p.country.first in
    let second = contains letters p.country.second in
    let ratings : List Field = number p.serial ∷ number p.volts ∷ number p.hertz ∷ [] in
    let trips : List Field = drop 3 (fields_of p) in
    let agrees = contains letters p.class && is_class (class_in table p.volts) p.class in
    let first_rules : List Rule = take 3 (rules (line_kind p)) in
    let rules_of_trips : List Rule = drop 3 (rules (line_kind p)) in
    let apart : (obeys (rules (line_kind p)) (fields_of p) && agrees)
    ≡ (obeys first_rules ratings && (obeys rules_of_trips trips && agrees)) =
    ap (λ (b : Bool). b && agrees) (obeys_append first_rules rules_of_trips ratings trips refl)
    ∙ and_assoc (obeys first_rules ratings) (obeys rules_of_trips trips) agrees in
    ap (λ (b : Bool). first && (second && b)) apart ∙ sym (and_assoc first second _)

-- fields that obey their rules are of the rules' kinds
pub same_kinds : (rs : List Rule) (fs : List Field) → obeys rs fs ≡ true
    → map (λ (f : Field). f.kind) fs ≡ map (λ (r : Rule). r.kind) rs
unfolding obeys
same_kinds [] [] e = refl
same_kinds [] (f ∷ fs) e = absurd (false≢true e)
same_kinds (r ∷ rs) [] e = absurd (false≢true e)
same_kinds (r ∷ rs) (f ∷ fs) e =
    let kind : f.kind ≡ r.kind = kinds_equal f.kind r.kind (and_first (same_kind f.kind r.kind) _ (and_first (fits r f) _ e)) in
    let others = same_kinds rs fs (and_rest (fits r f) _ e) in
    λ i. kind i ∷ others i

-- the parts of a valid profile
pub record Valid (table : List Class) (p : Profile) : Type 0 where
  pub first : contains letters p.country.first ≡ true
  pub second : contains letters p.country.second ≡ true
  pub fields : obeys (rules (line_kind p)) (fields_of p) ≡ true
  pub letter : contains letters p.class ≡ true
  pub agrees : is_class (class_in table p.volts) p.class ≡ true

pub parts : (table : List Class) (p : Profile) → T (valid table p) → Valid table p
unfolding valid
parts table p t =
    let all = holds (valid table p) t in
    let but_first = and_rest (contains letters p.country.first) _ all in
    let but_country = and_rest (contains letters p.country.second) _ but_first in
    let but_fields = and_rest (obeys (rules (line_kind p)) (fields_of p)) _ but_country in
    record {
      first = and_first (contains letters p.country.first) _ all;
      second = and_first (contains letters p.country.second) _ but_first;
      fields = and_first (obeys (rules (line_kind p)) (fields_of p)) _ but_country;
      letter = and_first (contains letters p.class) _ but_fields;
      agrees = and_rest (contains letters p.class) _ but_fields;
    }

-- whose hertz are nominal ones
pub valid_hertz : (table : List Class) (p : Profile) → T (valid table p) → in_one_of nominal_hertz p.hertz ≡ true
unfolding obeys fields_of
valid_hertz table p ok =
    let but_serial = and_rest (fits (one plain (1 to 4294967295)) (number p.serial)) _ (parts table p ok).fields in
    let but_volts = and_rest (fits (one plain (100 to 1000)) (number p.volts)) _ but_serial in
    and_first (fits (record { kind = plain; ranges = nominal_hertz }) (number p.hertz)) _ but_volts

-- ---- what a range says of the digits of its numbers

within : (r : Range) (n : ℕ) → contains r n ≡ true → (low r ≤ n) × (n ≤ high r)
within (l to h) n e = (leb-true l n (and_first (leb l n) _ e), leb-true n h (and_rest (leb l n) _ e))

-- the fewest and the most digits that numbers of some ranges have, and the largest of the numbers
abbrev pub fewest : List Range → ℕ
fewest [] = length (decimal largest)
fewest (r ∷ rs) = min (length (decimal (low r))) (fewest rs)

abbrev pub most : List Range → ℕ
most [] = 0
most (r ∷ rs) = max (length (decimal (high r))) (most rs)

abbrev pub top : List Range → ℕ
top [] = 0
top (r ∷ rs) = max (high r) (top rs)

pub range_bounds : (rs : List Range) (n : ℕ) → in_one_of rs n ≡ true
    → (fewest rs ≤ length (decimal n)) × (length (decimal n) ≤ most rs) × (n ≤ top rs)
range_bounds [] n e = absurd (false≢true e)
range_bounds (r ∷ rs) n e =
    ⊎_elim
    (λ here.
    let bounds = within r n here in
    omega (arith, length_mono n (low r) bounds.0, length_mono (high r) n bounds.1, bounds))
    (λ later. let bounds = range_bounds rs n later in omega (arith, bounds))
    (either (contains r n) (in_one_of rs n) e)
