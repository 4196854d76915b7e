-- The theorems of specs/Theorems.antt: what is read is what the grammar derives, each field has one reading, and what a field
-- is worth is what it means. And what plain numbers are worth.
-- Assumes nothing.
use mathlib.Core.Path.{◌≡◌, refl, ◌∙◌, sym, ap}
use mathlib.Core.Bool.{Bool, true, false}
use mathlib.Core.List.{List, [], ◌∷◌, ◌++◌, append-nil}
use Prim.Native.Nat.{ℕ, ◌≤◌}
use native.Mathlib.Omega.{arith}
use lib.Dec.{eqb, leb}
use lib.ListN.{length}
use lib.IntN.{pos, neg_ℤ}
use borrow.Author.Tests.{eqb-true, eqb-false, ne_eqb, leb-true, le-leb}
use Rattle.outcome.specs.declared.refusal.Refusal.{Refusal}
use Rattle.outcome.specs.Answer.{bad_formula, pick}
use Rattle.outcome.specs.Result.{Result, Ok, Err}
use Rattle.outcome.specs.Lists.{same}
use Rattle.decimal.specs.Decimal.{decimal, last_digits, leading_digits, value_from, leading_number}
use Rattle.decimal.proofs.Decimal.{length_mono}
use Rattle.formula.specs.Grammar.{
  Sum,
  only,
  single,
  number,
  Formula,
  sum,
  negative,
  dash,
  deepest,
  longest_formula,
  most_number,
  sum_text,
  sum_within,
  Derived,
  sum_value,
  formula_value,
}
use Rattle.formula.specs.Reader.{
  Front,
  found,
  none,
  read_number,
  atom_with,
  product_with,
  sum_with,
  read_sum,
  whole_sum,
  whole_negative,
  read_short,
  read_formula,
  value_in,
  value_of,
}
use Rattle.formula.specs.Theorems.{ReadsDerived, OneReading, WorthIsMeant, OneMeaning}
use Rattle.formula.proofs.NumberLaws.{none_found, number_sound, number_complete}
use Rattle.formula.proofs.Sound.{sum_reads_sound}
use Rattle.formula.proofs.Complete.{whole_sum_lem}

-- ---- what the grammar derives is read

-- no sum begins with a minus
no_dash : (bytes : List ℕ) (s : Sum) (rest : List ℕ) → read_sum deepest (dash ∷ bytes) ≡ found s rest → ⊥
unfolding sum_with product_with atom_with read_number leading_number leading_digits value_from decimal last_digits same
no_dash bytes s rest e = none_found e

-- a field that is wholly a sum
short_sum : (field : List ℕ) (s : Sum) → read_sum deepest field ≡ found s [] → read_short field ≡ Ok (sum s)
unfolding read_short sum_with product_with atom_with
short_sum [] s e = absurd (none_found e)
short_sum (b ∷ bytes) s e = by_test (eqb b dash) refl
  where
    by_test : (t : Bool) → eqb b dash ≡ t
        → pick t (whole_negative (read_number bytes)) (whole_sum (read_sum deepest (b ∷ bytes))) ≡ Ok (sum s)
    by_test true f =
        absurd (no_dash bytes s [] (sym (ap (λ (c : ℕ). read_sum deepest (c ∷ bytes)) (eqb-true b dash f)) ∙ e))
    by_test false f = ap whole_sum e

-- a minus and a number
short_negative : (n : ℕ) → 1 ≤ n → n ≤ most_number → read_short (dash ∷ decimal n) ≡ Ok (negative n)
unfolding read_short
short_negative n l h =
    let read : read_number (decimal n) ≡ found n [] =
    ap read_number (sym (append-nil (decimal n))) ∙ number_complete n [] h refl in
    let more : eqb n 0 ≡ false = ne_eqb n 0 (λ e. omega arith) in
    rw (read, more)

-- both, by the tree that derives the field
derived_short : (field : List ℕ) (f : Formula) → Derived field f → read_short field ≡ Ok f
unfolding sum_text
derived_short field (sum s) d =
    let whole : read_sum deepest field ≡ found s [] =
    ap (read_sum deepest) (sym (append-nil (sum_text s) ∙ d.text)) ∙ whole_sum_lem s deepest d.within in
    short_sum field s whole
derived_short field (negative n) d =
    ap read_short (sym d.text) ∙ short_negative n d.within.0 d.within.1

-- and with its length
derived_read : (field : List ℕ) (f : Formula) → Derived field f → read_formula field ≡ Ok f
unfolding read_formula
derived_read field f d = rw (le-leb (length field) longest_formula d.short) (derived_short field f d)

-- ---- what is read the grammar derives

-- two values that are done are one
done_same : {A : Type 0} {a c : A} → ◌≡◌ {A = Result A} (Ok a) (Ok c) → a ≡ c
done_same e = cc

-- a refusal is no value
refused_done : {A : Type 0} {r : Refusal} {a : A} → ◌≡◌ {A = Result A} (Err r) (Ok a) → ⊥
refused_done e = let z : ◌≡◌ {A = ℕ} 0 1 = cc in omega arith

-- a number that follows a minus
negative_derived : (bytes : List ℕ) (f : Formula) → length (dash ∷ bytes) ≤ longest_formula
    → whole_negative (read_number bytes) ≡ Ok f → Derived (dash ∷ bytes) f
negative_derived bytes f short = by_front (read_number bytes) refl
  where
    by_zero : (n : ℕ) → read_number bytes ≡ found n [] → (t : Bool) → eqb n 0 ≡ t
        → pick t (Err bad_formula) (Ok (negative n)) ≡ Ok f → Derived (dash ∷ bytes) f
    by_zero n i true z e = absurd (refused_done e)
    by_zero n i false z e =
        let it : (decimal n ++ [] ≡ bytes) × (n ≤ most_number) = number_sound bytes [] n i in
        let nonzero : n ≡ 0 → ⊥ = eqb-false n 0 z in
        let same : negative n ≡ f = done_same e in
        let digits : decimal n ≡ bytes = sym (append-nil (decimal n)) ∙ it.0 in
        let text : dash ∷ decimal n ≡ dash ∷ bytes = ap (λ (l : List ℕ). dash ∷ l) digits in
        let low : 1 ≤ n = omega arith in
        rw (← same) (record { text = text; within = (low, it.1); short = short })

    by_front : (front : Front ℕ) → read_number bytes ≡ front → whole_negative front ≡ Ok f → Derived (dash ∷ bytes) f
    by_front (found n []) i e = by_zero n i (eqb n 0) refl e
    by_front (found n (b ∷ rest)) i e = absurd (refused_done e)
    by_front none i e = absurd (refused_done e)

-- a sum that nothing follows
sum_derived : (field : List ℕ) (f : Formula) → length field ≤ longest_formula → whole_sum (read_sum deepest field) ≡ Ok f
    → Derived field f
sum_derived field f short = by_front (read_sum deepest field) refl
  where
    by_front : (front : Front Sum) → read_sum deepest field ≡ front → whole_sum front ≡ Ok f → Derived field f
    by_front (found s []) i e =
        let it : (sum_text s ++ [] ≡ field) × sum_within s deepest = sum_reads_sound deepest field [] s i in
        let same : sum s ≡ f = done_same e in
        let text : sum_text s ≡ field = sym (append-nil (sum_text s)) ∙ it.0 in
        rw (← same) (record { text = text; within = it.1; short = short })
    by_front (found s (b ∷ rest)) i e = absurd (refused_done e)
    by_front none i e = absurd (refused_done e)

-- both, by the first byte
short_derived : (field : List ℕ) (f : Formula) → length field ≤ longest_formula → read_short field ≡ Ok f
    → Derived field f
unfolding read_short
short_derived [] f short e = absurd (refused_done e)
short_derived (b ∷ bytes) f short e = by_test (eqb b dash) refl e
  where
    by_test : (t : Bool) → eqb b dash ≡ t
        → pick t (whole_negative (read_number bytes)) (whole_sum (read_sum deepest (b ∷ bytes))) ≡ Ok f
        → Derived (b ∷ bytes) f
    by_test true i e = rw (eqb-true b dash i) (negative_derived bytes f short e)
    by_test false i e = sum_derived (b ∷ bytes) f short e

-- and only a field that is short enough is read
read_derived : (field : List ℕ) (f : Formula) → read_formula field ≡ Ok f → Derived field f
unfolding read_formula
read_derived field f e = by_length (leb (length field) longest_formula) refl e
  where
    by_length : (t : Bool) → leb (length field) longest_formula ≡ t
        → pick t (read_short field) (Err bad_formula) ≡ Ok f → Derived field f
    by_length true i e = short_derived field f (leb-true (length field) longest_formula i) e
    by_length false i e = absurd (refused_done e)

-- exactly what the grammar derives is read
pub reads_derived : ReadsDerived
reads_derived field f = (derived_read field f, read_derived field f)

-- ---- one reading

-- both trees are what is read
pub one_reading : OneReading
one_reading field f g d e = done_same (sym (derived_read field f d) ∙ derived_read field g e)

-- ---- what a field means

-- two refusals that are equal have one number
refused_same : {A : Type 0} {r q : Refusal} → ◌≡◌ {A = Result A} (Err r) (Err q) → r ≡ q
refused_same e = cc

-- a value is no refusal
done_refused : {A : Type 0} {r : Refusal} {a : A} → ◌≡◌ {A = Result A} (Ok a) (Err r) → ⊥
done_refused e = refused_done (sym e)

-- the only refusal there may be is that of a bad formula
abbrev RefusesBad : Result Formula → Type 0
RefusesBad result = (r : Refusal) → result ≡ Err r → bad_formula ≡ r

-- so of either where it is so of both
refuses_pick : (t : Bool) (a b : Result Formula) → RefusesBad a → RefusesBad b → RefusesBad (pick t a b)
refuses_pick true a b ha hb = ha
refuses_pick false a b ha hb = hb

-- so of that refusal itself
refuses_bad : RefusesBad (Err bad_formula)
refuses_bad r e = refused_same e

-- so of a whole negative number, of a whole sum, and of a field
refuses_negative : (front : Front ℕ) → RefusesBad (whole_negative front)
refuses_negative (found n []) =
    refuses_pick (eqb n 0) (Err bad_formula) (Ok (negative n)) refuses_bad (λ r e. absurd (done_refused e))
refuses_negative (found n (b ∷ rest)) = refuses_bad
refuses_negative none = refuses_bad

refuses_sum : (front : Front Sum) → RefusesBad (whole_sum front)
refuses_sum (found s []) r e = absurd (done_refused e)
refuses_sum (found s (b ∷ rest)) r e = refuses_bad r e
refuses_sum none r e = refuses_bad r e

refuses_short : (field : List ℕ) → RefusesBad (read_short field)
unfolding read_short
refuses_short [] = refuses_bad
refuses_short (b ∷ bytes) =
    refuses_pick (eqb b dash) (whole_negative (read_number bytes)) (whole_sum (read_sum deepest (b ∷ bytes)))
    (refuses_negative (read_number bytes)) (refuses_sum (read_sum deepest (b ∷ bytes)))

refuses_formula : (field : List ℕ) → RefusesBad (read_formula field)
unfolding read_formula
refuses_formula field =
    refuses_pick (leb (length field) longest_formula) (read_short field) (Err bad_formula) (refuses_short field)
    refuses_bad

-- a tree that derives the field gives its worth
worth_derived : (volts : ℕ) (field : List ℕ) (f : Formula) → Derived field f
    → value_of volts field ≡ formula_value f volts
unfolding value_of
worth_derived volts field f d = ap (value_in volts) (derived_read field f d)

-- where none derives it, it is refused
worth_underived : (volts : ℕ) (field : List ℕ) → ((f : Formula) → Derived field f → ⊥)
    → value_of volts field ≡ Err bad_formula
unfolding value_of
worth_underived volts field never = by_reading (read_formula field) refl
  where
    by_reading : (result : Result Formula) → read_formula field ≡ result
        → value_in volts (read_formula field) ≡ Err bad_formula
    by_reading (Ok f) e = absurd (never f (read_derived field f e))
    by_reading (Err r) e = ap (value_in volts) e ∙ sym (ap Err (refuses_formula field r e))

-- what a field is worth is what it means
pub worth_is_meant : WorthIsMeant
worth_is_meant volts field = record { derived = worth_derived volts field; underived = worth_underived volts field }

-- two meanings are one: a tree derives the field, or none does
pub one_meaning : OneMeaning
one_meaning volts field r q m n = by_reading (read_formula field) refl
  where
    by_reading : (result : Result Formula) → read_formula field ≡ result → r ≡ q
    by_reading (Ok f) e =
        let d : Derived field f = read_derived field f e in
        m.derived f d ∙ sym (n.derived f d)
    by_reading (Err b) e =
        let never : (f : Formula) → Derived field f → ⊥ = λ f d. refused_done (sym e ∙ derived_read field f d) in
        m.underived never ∙ sym (n.underived never)

-- ---- plain numbers

-- no allowed number has more than seven digits
seven_digits : length (decimal 1000000) ≡ 7
unfolding decimal last_digits
seven_digits = refl

number_short : (n : ℕ) → n ≤ 1000000 → length (decimal n) ≤ 7
number_short n h = rw (← seven_digits) (length_mono 1000000 n h)

-- a number is worth itself
pub value_number : (volts n : ℕ) → n ≤ 1000000 → value_of volts (decimal n) ≡ Ok (pos n)
unfolding sum_text sum_within sum_value
value_number volts n h =
    let short : length (decimal n) ≤ longest_formula = omega (arith, number_short n h) in
    worth_derived volts (decimal n) (sum (only (single (number n)))) (record { text = refl; within = h; short = short })

-- a minus and a number other than zero are worth its negative
pub value_negative : (volts n : ℕ) → 1 ≤ n → n ≤ 1000000 → value_of volts (45 ∷ decimal n) ≡ Ok (neg_ℤ (pos n))
value_negative volts n l h =
    let short : length (dash ∷ decimal n) ≤ longest_formula = omega (arith, number_short n h) in
    worth_derived volts (dash ∷ decimal n) (negative n) (record { text = refl; within = (l, h); short = short })
