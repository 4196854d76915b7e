-- Laws of numbers without leading zeros: digits spell back the number that they give where the first of them is not 0 or stands
-- alone; so what `read_decimal` finds tells what `read_number` finds. Assumes nothing.
use mathlib.Core.Path.{◌≡◌, refl, ◌∙◌, sym, ap, ap₂, subst}
use mathlib.Core.Bool.{Bool, true, false, cond, and-eq-true_iff, and-false}
use mathlib.Core.List.{List, [], ◌∷◌, ◌++◌, append_assoc, append-nil}
use Prim.Native.Nat.{ℕ, ◌+◌, ◌-◌, ◌*◌, ◌/◌, ◌%◌, min, ◌≤◌, ◌<◌}
use native.Mathlib.Nat.{add-zero}
use native.Mathlib.Decide.{dec_lt}
use native.Mathlib.Omega.{arith}
use borrow.Author.Tests.{leb-true, le-leb, lt-leb}
use lib.Dec.{T, leb}
use lib.ListN.{length, drop, get_or, length-drop}
use lib.Seq.{get_or-drop}
use Rattle.outcome.specs.Lists.{same}
use Rattle.outcome.proofs.Lists.{same_refl, same_equal}
use Rattle.std.specs.Prelude.{Some, None}
use Rattle.decimal.specs.declared.Number.{Number}
use Rattle.decimal.specs.Decimal.{
  digit,
  decimal,
  is_digit,
  leading_digits,
  value_from,
  largest,
  leading_number,
  after_number,
  NumberAt,
}
use Rattle.decimal.proofs.Decimal.{decimal_small, decimal_more, length_small, digit_low, no_leading_zero, one_digit}
use Rattle.formula.specs.Grammar.{most_number}
use Rattle.formula.specs.Reader.{found, none, read_number}
use Rattle.formula.specs.InnerReader.{worths, NumberPart}

-- ---- the digits with which some bytes begin

-- each byte is a digit
abbrev Digits : List ℕ → Type 0
Digits [] = Unit {0}
Digits (b ∷ bs) = (is_digit b ≡ true) × Digits bs

-- the digits in front are digits
leading_are : (bs : List ℕ) → Digits (leading_digits bs)
unfolding leading_digits
leading_are [] = tt
leading_are (b ∷ bs) = at (is_digit b) refl (leading_are bs)
  where
    at : (t : Bool) → is_digit b ≡ t → Digits (leading_digits bs) → Digits (cond t (b ∷ leading_digits bs) [])
    at true e rest = (e, rest)
    at false e rest = tt

-- and no more than the bytes
leading_short : (bs : List ℕ) → length (leading_digits bs) ≤ length bs
unfolding leading_digits
leading_short [] = omega arith
leading_short (b ∷ bs) = at (is_digit b) (leading_short bs)
  where
    at : (t : Bool) → length (leading_digits bs) ≤ length bs
        → length (cond t (b ∷ leading_digits bs) []) ≤ length (b ∷ bs)
    at true h = omega arith
    at false h = omega arith

-- the first of them is the first byte
leading_head : (bs : List ℕ) → 1 ≤ length (leading_digits bs) → get_or (leading_digits bs) 0 0 ≡ get_or bs 0 0
unfolding leading_digits
leading_head [] h = refl
leading_head (b ∷ bs) h = at (is_digit b) h
  where
    at : (t : Bool) → 1 ≤ length (cond t (b ∷ leading_digits bs) []) → get_or (cond t (b ∷ leading_digits bs) []) 0 0 ≡ b
    at true h = refl
    at false h = absurd (omega arith)

-- a digit is at most `9`
digit_high : (b : ℕ) → is_digit b ≡ true → b ≤ 57
digit_high b e = leb-true b 57 ((and-eq-true_iff (leb 48 b) (leb b 57)).0 e).1

-- ---- digits spell back the number that they give

-- a number at the largest stays there
clamped : (ds : List ℕ) → value_from largest largest ds ≡ largest
unfolding value_from
clamped [] = refl
clamped (b ∷ ds) = ap (λ (m : ℕ). value_from largest m ds) full ∙ clamped ds
  where
    full : min largest (largest * 10 + (b - 48)) ≡ largest
    full = omega arith

-- so a number that stays below it is not cut on the way
unclamped : (m : ℕ) (ds : List ℕ) → value_from largest (min largest m) ds < largest → m < largest
unclamped m ds h = elim (dec_lt m largest) [ yes l ↦ l | no l ↦ absurd (cut (omega arith)) ]
  where
    cut : largest ≤ m → ⊥
    cut l =
        let full : min largest m ≡ largest = omega arith in
        let stays : value_from largest (min largest m) ds ≡ largest =
        ap (λ (k : ℕ). value_from largest k ds) full ∙ clamped ds in
        omega arith

-- one digit more
decimal_next : (n b : ℕ) → 1 ≤ n → is_digit b ≡ true → decimal (n * 10 + (b - 48)) ≡ decimal n ++ b ∷ []
decimal_next n b h e =
    let low : 48 ≤ b = digit_low b e in
    let high : b ≤ 57 = digit_high b e in
    let m : ℕ = n * 10 + (b - 48) in
    let front : m / 10 ≡ n = omega arith in
    let last : digit (m % 10) ≡ b = omega arith in
    decimal_more m (omega arith) ∙ ap₂ (λ (k d : ℕ). decimal k ++ d ∷ []) front last

-- after a number that is not 0
spelled_after : (n : ℕ) (ds : List ℕ) → 1 ≤ n → Digits ds → value_from largest n ds < largest
    → decimal (value_from largest n ds) ≡ decimal n ++ ds
unfolding value_from
spelled_after n [] h are below = sym (append-nil (decimal n))
spelled_after n (b ∷ ds) h are below =
    let m : ℕ = n * 10 + (b - 48) in
    let whole : min largest m ≡ m = omega (arith, unclamped m ds below) in
    let positive : 1 ≤ min largest m = omega arith in
    spelled_after (min largest m) ds positive are.1 below
    ∙ ap (λ (k : ℕ). decimal k ++ ds) whole
    ∙ ap (λ (l : List ℕ). l ++ ds) (decimal_next n b h are.0)
    ∙ append_assoc (decimal n) (b ∷ []) ds

-- from the first digit on: it is not 0, or it stands alone
spelled : (ds : List ℕ) → Digits ds → 1 ≤ length ds → (get_or ds 0 0 ≡ 48 → length ds ≡ 1)
    → value_from largest 0 ds < largest → decimal (value_from largest 0 ds) ≡ ds
unfolding value_from
spelled [] are some plain below = absurd (omega arith)
spelled (b ∷ []) are some plain below =
    let low : 48 ≤ b = digit_low b are.0 in
    let high : b ≤ 57 = digit_high b are.0 in
    let one : min largest (0 * 10 + (b - 48)) ≡ b - 48 = omega arith in
    let back : digit (b - 48) ≡ b = omega arith in
    ap decimal one ∙ decimal_small (b - 48) (omega arith) ∙ ap (λ (d : ℕ). d ∷ []) back
spelled (b ∷ x ∷ xs) are some plain below =
    let low : 48 ≤ b = digit_low b are.0 in
    let high : b ≤ 57 = digit_high b are.0 in
    let nonzero : b ≡ 48 → ⊥ = λ e. omega (arith, plain e) in
    let one : min largest (0 * 10 + (b - 48)) ≡ b - 48 = omega arith in
    let positive : 1 ≤ min largest (0 * 10 + (b - 48)) = omega arith in
    let back : digit (b - 48) ≡ b = omega arith in
    spelled_after (min largest (0 * 10 + (b - 48))) (x ∷ xs) positive are.1 below
    ∙ ap (λ (k : ℕ). decimal k ++ x ∷ xs) one
    ∙ ap (λ (l : List ℕ). l ++ x ∷ xs) (decimal_small (b - 48) (omega arith))
    ∙ ap (λ (d : ℕ). d ∷ x ∷ xs) back

-- digits that begin with 0 and go on are no number's
zero_goes_on : (n : ℕ) (ds : List ℕ) → get_or ds 0 0 ≡ 48 → (length ds ≡ 1 → ⊥) → ds ≡ decimal n → ⊥
zero_goes_on n ds head longer e =
    let zero : n ≡ 0 = no_leading_zero n (sym (ap (λ (l : List ℕ). get_or l 0 0) e) ∙ head) in
    longer (ap length e ∙ length_small n (omega arith))

-- ---- what is read

-- the test on two lists that differ
unlike : (xs ys : List ℕ) → (xs ≡ ys → ⊥) → same xs ys ≡ false
unlike xs ys h = at (same xs ys) refl
  where
    at : (t : Bool) → same xs ys ≡ t → same xs ys ≡ false
    at true e = absurd (h (same_equal xs ys (subst T (sym e) tt)))
    at false e = e

-- digits that are those of their number, which is small enough, are read
plain_found : (bs : List ℕ) → decimal (leading_number bs) ≡ leading_digits bs → leading_number bs ≤ most_number
    → read_number bs ≡ found (leading_number bs) (after_number bs)
unfolding read_number
plain_found bs e h = rw (e, same_refl (leading_digits bs), le-leb (leading_number bs) most_number h)

-- other digits are not
unlike_none : (bs : List ℕ) → (leading_digits bs ≡ decimal (leading_number bs) → ⊥) → read_number bs ≡ none
unfolding read_number
unlike_none bs h = rw (unlike (leading_digits bs) (decimal (leading_number bs)) h)

-- nor is a number above the greatest
large_none : (bs : List ℕ) → most_number < leading_number bs → read_number bs ≡ none
unfolding read_number
large_none bs h =
    rw (lt-leb (leading_number bs) most_number h, and-false (same (leading_digits bs) (decimal (leading_number bs))))

-- ---- what `read_decimal` found at a place tells what `read_number` finds there

module _ {s : List ℕ} {at : ℕ} {n : Number} (number : NumberAt s at n) (inside : at ≤ length s) where
  -- the place after the number is behind its digits
  number_end : n.end ≡ at + length (leading_digits (drop at s))
  unfolding after_number
  number_end =
      let lengths : length s - n.end ≡ length s - at - length (leading_digits (drop at s)) =
      sym (length-drop n.end s) ∙ ap length number.after ∙ length-drop (length (leading_digits (drop at s))) (drop at s)
      ∙ ap (λ (k : ℕ). k - length (leading_digits (drop at s))) (length-drop at s) in
      omega (arith, number.within inside, leading_short (drop at s), length-drop at s)

  -- a place behind which a digit stands is within the bytes
  pub begins_inside : (n.end ≡ at → ⊥) → at < length s
  begins_inside h = omega (arith, h, number_end, leading_short (drop at s), length-drop at s)

  -- the first digit stands at the place
  begins_at : (n.end ≡ at → ⊥) → get_or (leading_digits (drop at s)) 0 0 ≡ get_or s at 0
  begins_at h =
      leading_head (drop at s) (omega (arith, h, number_end))
      ∙ get_or-drop at s 0 0
      ∙ ap (λ (i : ℕ). get_or s i 0) (add-zero at)

  -- nothing is read where nothing is found
  unread : read_number (drop at s) ≡ none → NumberPart s at None
  unread e = record { read = sym (ap (worths (λ k. k)) e); ends = tt }

  -- no digit
  pub unread_empty : n.end ≡ at → NumberPart s at None
  unread_empty h = unread (unlike_none (drop at s) (λ e. empty (ap length e)))
    where
      empty : length (leading_digits (drop at s)) ≡ length (decimal (leading_number (drop at s))) → ⊥
      empty e = omega (arith, number_end, one_digit (leading_number (drop at s)))

  -- a number above the greatest
  pub unread_large : most_number < n.value → NumberPart s at None
  unread_large h = unread (large_none (drop at s) (omega (arith, number.value)))

  -- a 0 before other digits
  pub unread_zero : (n.end ≡ at → ⊥) → get_or s at 0 ≡ 48 → (n.end ≡ at + 1 → ⊥) → NumberPart s at None
  unread_zero h z more =
      let bs : List ℕ = drop at s in
      let longer : length (leading_digits bs) ≡ 1 → ⊥ = λ e. more (omega (arith, number_end)) in
      unread (unlike_none bs (zero_goes_on (leading_number bs) (leading_digits bs) (begins_at h ∙ z) longer))

  -- else the number is read
  pub read_number_lem : (n.end ≡ at → ⊥) → n.value ≤ most_number → (get_or s at 0 ≡ 48 → n.end ≡ at + 1)
      → NumberPart s at (Some (n.value, n.end))
  unfolding leading_number
  read_number_lem h small plain =
      let bs : List ℕ = drop at s in
      let spelt : decimal (leading_number bs) ≡ leading_digits bs =
      spelled (leading_digits bs) (leading_are bs) (omega (arith, h, number_end))
      (λ e. omega (arith, number_end, plain (sym (begins_at h) ∙ e))) (omega (arith, number.value)) in
      let got : read_number bs ≡ found (leading_number bs) (after_number bs) =
      plain_found bs spelt (omega (arith, number.value)) in
      record {
        read = ap₂ found number.value number.after ∙ sym (ap (worths (λ k. k)) got);
        ends = (omega (arith, h, number_end), number.within inside);
      }
