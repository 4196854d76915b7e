-- Laws of numbers in decimal. Assumes nothing.
use mathlib.Core.Path.{◌≡◌, refl, ◌∙◌, sym, ap, ap₂}
use mathlib.Core.Bool.{Bool, true, false, ◌&&◌}
use mathlib.Core.Logic.{◌⊎◌, inl, inr, ⊎_elim}
use mathlib.Core.List.{List, [], ◌∷◌, ◌++◌, append_assoc, append-nil}
use Prim.Native.Nat.{ℕ, zero, suc, ◌+◌, ◌-◌, ◌*◌, ◌/◌, ◌%◌, ◌^◌, min, max, ◌≤◌, ◌<◌}
use native.Mathlib.Numerals.{add-one}
use native.Mathlib.Decide.{dec_lt}
use native.Mathlib.Omega.{arith}
use lib.Dec.{leb}
use lib.ListN.{length, drop, get_or, set, length-append, get_or-append, drop_of_length-le}
use lib.Seq.{drop-append_seam, drop-cons, drop-drop, drop-length, sets}
use borrow.Author.Tests.{lt-ltb, le-ltb, le-leb, leb-true}
use Rattle.decimal.proofs.Stores.{sets_last_first}
use Rattle.decimal.specs.Decimal.{digit, last_digits, decimal, is_digit, leading_digits, value_from, largest, leading_number, after_number, NumberAt, NumberBehind}
use Rattle.decimal.specs.declared.Number.{Number}

-- ---- the two equations of `decimal`, and induction along them

last_small : (f n : ℕ) → n < 10 → last_digits (suc f) n ≡ digit n ∷ []
unfolding last_digits
last_small f n h = rw (lt-ltb n 10 h)

last_more : (f n : ℕ) → 10 ≤ n → last_digits (suc f) n ≡ last_digits f (n / 10) ++ digit (n % 10) ∷ []
unfolding last_digits
last_more f n h = rw (le-ltb n 10 h)

small_or_more : (n : ℕ) → (n < 10) ⊎ (10 ≤ n)
small_or_more n = elim (dec_lt n 10) [ yes h ↦ inl h | no h ↦ inr (omega arith) ]

-- any count that is large enough gives the same digits
last_same : (f g n : ℕ) → n < f → n < g → last_digits f n ≡ last_digits g n
last_same zero g n hf hg = absurd (omega arith)
last_same (suc f) zero n hf hg = absurd (omega arith)
last_same (suc f) (suc g) n hf hg =
    ⊎_elim (λ h. last_small f n h ∙ sym (last_small g n h))
    (λ h.
    last_more f n h
    ∙ ap (λ (l : List ℕ). l ++ digit (n % 10) ∷ []) (last_same f g (n / 10) (omega arith) (omega arith))
    ∙ sym (last_more g n h))
    (small_or_more n)

pub decimal_small : (n : ℕ) → n < 10 → decimal n ≡ digit n ∷ []
unfolding decimal
decimal_small n h = last_small n n h

pub decimal_more : (n : ℕ) → 10 ≤ n → decimal n ≡ decimal (n / 10) ++ digit (n % 10) ∷ []
unfolding decimal
decimal_more n h =
    last_more n n h ∙ ap (λ (l : List ℕ). l ++ digit (n % 10) ∷ []) (last_same n (suc (n / 10)) (n / 10) (omega arith) (omega arith))

module _ (P : ℕ → Type 0) (small : (n : ℕ) → n < 10 → P n) (more : (n : ℕ) → 10 ≤ n → P (n / 10) → P n) where
  by_tenths_below : (f n : ℕ) → n < f → P n
  by_tenths_below zero n h = absurd (omega arith)
  by_tenths_below (suc f) n h = ⊎_elim (small n) (λ k. more n k (by_tenths_below f (n / 10) (omega arith))) (small_or_more n)

  -- what holds below 10, and of a number where it holds of its tenth, holds of every number
  pub by_tenths : (n : ℕ) → P n
  by_tenths n = by_tenths_below (suc n) n (omega arith)

-- ---- how many digits a number has

pub length_more : (n : ℕ) → 10 ≤ n → length (decimal n) ≡ length (decimal (n / 10)) + 1
length_more n h = ap length (decimal_more n h) ∙ length-append (decimal (n / 10)) (digit (n % 10) ∷ [])

pub length_small : (n : ℕ) → n < 10 → length (decimal n) ≡ 1
length_small n h = ap length (decimal_small n h)

pub one_digit : (n : ℕ) → 1 ≤ length (decimal n)
one_digit =
    by_tenths (λ (n : ℕ). 1 ≤ length (decimal n)) (λ n h. omega (arith, length_small n h)) (λ n h ih. omega (arith, length_more n h))

pub few_digits : (n : ℕ) → length (decimal n) ≤ n + 1
few_digits =
    by_tenths (λ (n : ℕ). length (decimal n) ≤ n + 1) (λ n h. omega (arith, length_small n h)) (λ n h ih. omega (arith, length_more n h))

-- a larger number has no fewer digits
pub length_mono : (n m : ℕ) → m ≤ n → length (decimal m) ≤ length (decimal n)
length_mono =
    by_tenths (λ (n : ℕ). (m : ℕ) → m ≤ n → length (decimal m) ≤ length (decimal n))
    (λ n h m k. omega (arith, length_small n h, length_small m (omega arith)))
    (λ n h ih m k.
    ⊎_elim (λ s. omega (arith, length_small m s, one_digit n))
    (λ l. omega (arith, length_more n h, length_more m l, ih (m / 10) (omega arith)))
    (small_or_more m))

-- a number between two neighbouring powers of ten
power_digits : (k n : ℕ) → 10 ^ k ≤ n → n < 10 * 10 ^ k → length (decimal n) ≡ k + 1
power_digits zero n low high = length_small n high
power_digits (suc k) n low high =
    let more : 10 ≤ n = omega arith in
    omega (arith, length_more n more, power_digits k (n / 10) (omega arith) (omega arith))

-- 0 has as many digits as 1
pub power_width : (k n : ℕ) → 10 ^ k ≤ max n 1 → max n 1 < 10 * 10 ^ k → k + 1 ≡ length (decimal n)
power_width k zero low high =
    omega (arith, power_digits k 1 low high, length_small 0 (omega arith), length_small 1 (omega arith))
power_width k (suc n) low high = sym (power_digits k (suc n) (omega arith) (omega arith))

-- a number that a u32 holds has at most ten digits
largest_digits : length (decimal largest) ≡ 10
unfolding decimal last_digits
largest_digits = refl

pub ten_digits : (n : ℕ) → n ≤ largest → length (decimal n) ≤ 10
ten_digits n h = omega (arith, length_mono largest n h, largest_digits)

-- ---- the digits of a number are digits, and end where another byte stands

digit_is : (d : ℕ) → d < 10 → is_digit (digit d) ≡ true
digit_is d h = rw (le-leb 48 (48 + d) (omega arith), le-leb (48 + d) 57 (omega arith))

pub digit_low : (b : ℕ) → is_digit b ≡ true → 48 ≤ b
digit_low b e = leb-true 48 b (both_left (leb 48 b) (leb b 57) e)
  where
    both_left : (p q : Bool) → (p && q) ≡ true → p ≡ true
    both_left true q e = refl
    both_left false q e = e

-- digits that stand at the front are read first
leading_cons : (b : ℕ) (bs : List ℕ) → is_digit b ≡ true → leading_digits (b ∷ bs) ≡ b ∷ leading_digits bs
unfolding leading_digits
leading_cons b bs e = rw e

leading_stop : (b : ℕ) (bs : List ℕ) → is_digit b ≡ false → leading_digits (b ∷ bs) ≡ []
unfolding leading_digits
leading_stop b bs e = rw e

pub leading_decimal : (n : ℕ) (rest : List ℕ) → leading_digits (decimal n ++ rest) ≡ decimal n ++ leading_digits rest
leading_decimal =
    by_tenths (λ (n : ℕ). (rest : List ℕ) → leading_digits (decimal n ++ rest) ≡ decimal n ++ leading_digits rest)
    (λ n h rest. rw (decimal_small n h) (leading_cons (digit n) rest (digit_is n h)))
    (λ n h ih rest.
    rw (decimal_more n h, append_assoc (decimal (n / 10)) (digit (n % 10) ∷ []) rest)
    (ih (digit (n % 10) ∷ rest)
    ∙ ap (λ (l : List ℕ). decimal (n / 10) ++ l) (leading_cons (digit (n % 10)) rest (digit_is (n % 10) (omega arith)))
    ∙ sym (append_assoc (decimal (n / 10)) (digit (n % 10) ∷ []) (leading_digits rest))))

-- ---- reading returns what was written

value_append : (most n : ℕ) (xs ys : List ℕ) → value_from most n (xs ++ ys) ≡ value_from most (value_from most n xs) ys
unfolding value_from
value_append most n [] ys = refl
value_append most n (x ∷ xs) ys = value_append most (min most (n * 10 + (x - 48))) xs ys

value_one : (most n d : ℕ) → value_from most n (digit d ∷ []) ≡ min most (n * 10 + d)
unfolding value_from
value_one most n d = omega arith

-- the digits of a number spell it, for every number within the limit
pub value_decimal : (most n : ℕ) → n ≤ most → value_from most 0 (decimal n) ≡ n
value_decimal most =
    by_tenths (λ (n : ℕ). n ≤ most → value_from most 0 (decimal n) ≡ n)
    (λ n h k. rw (decimal_small n h) (value_one most 0 n ∙ omega arith))
    (λ n h ih k.
    rw (decimal_more n h)
    (value_append most 0 (decimal (n / 10)) (digit (n % 10) ∷ [])
    ∙ ap (λ (v : ℕ). value_from most v (digit (n % 10) ∷ [])) (ih (omega arith))
    ∙ value_one most (n / 10) (n % 10)
    ∙ omega arith))

-- so no two numbers have the same digits
pub decimal_injective : (m n : ℕ) → decimal m ≡ decimal n → m ≡ n
decimal_injective m n e =
    sym (value_decimal (m + n) m (omega arith)) ∙ ap (value_from (m + n) 0) e ∙ value_decimal (m + n) n (omega arith)

-- only the number 0 begins with the digit 0
pub no_leading_zero : (n : ℕ) → get_or (decimal n) 0 0 ≡ digit 0 → n ≡ 0
no_leading_zero =
    by_tenths (λ (n : ℕ). get_or (decimal n) 0 0 ≡ digit 0 → n ≡ 0)
    (λ n h e. let f : digit n ≡ digit 0 = sym (ap (λ (l : List ℕ). get_or l 0 0) (decimal_small n h)) ∙ e in omega arith)
    (λ n h ih e.
    let f : n / 10 ≡ 0 =
    ih (sym (ap (λ (l : List ℕ). get_or l 0 0) (decimal_more n h)
    ∙ get_or-append (decimal (n / 10)) (digit (n % 10) ∷ []) 0 0 (one_digit (n / 10))) ∙ e) in
    omega arith)

-- a number that stands before a byte that is no digit is read whole, and reading ends at that byte
module _ (n b : ℕ) (rest : List ℕ) (stop : is_digit b ≡ false) where
  leading_before : leading_digits (decimal n ++ b ∷ rest) ≡ decimal n
  leading_before =
      leading_decimal n (b ∷ rest) ∙ ap (λ (l : List ℕ). decimal n ++ l) (leading_stop b rest stop) ∙ append-nil (decimal n)

  pub number_before : n ≤ largest → leading_number (decimal n ++ b ∷ rest) ≡ n
  unfolding leading_number
  number_before h = ap (value_from largest 0) leading_before ∙ value_decimal largest n h

  pub after_before : after_number (decimal n ++ b ∷ rest) ≡ b ∷ rest
  unfolding after_number
  after_before =
      ap (λ (l : List ℕ). drop (length l) (decimal n ++ b ∷ rest)) leading_before ∙ drop-append_seam (decimal n) (b ∷ rest)

-- ---- a reader that goes byte by byte: what is left to read ends where reading from the start ends

pub record ReadSoFar (s : List ℕ) (at value end : ℕ) : Type 0 where
  pub left : value_from largest value (leading_digits (drop end s)) ≡ leading_number (drop at s)
  pub after : drop (length (leading_digits (drop end s))) (drop end s) ≡ after_number (drop at s)

pub so_far_none : (s : List ℕ) (at : ℕ) → ReadSoFar s at 0 at
unfolding leading_number after_number
so_far_none s at = record { left = refl; after = refl }

module _ {s : List ℕ} {at value end : ℕ} (so_far : ReadSoFar s at value end) where
  pub so_far_more : end < length s → is_digit (get_or s end 0) ≡ true
      → ReadSoFar s at (min largest (value * 10 + (get_or s end 0 - 48))) (end + 1)
  unfolding value_from
  so_far_more h d =
      let b : ℕ = get_or s end 0 in
      let here : drop end s ≡ b ∷ drop (end + 1) s = rw (add-one, drop-cons s end 0) in
      let digits : leading_digits (drop end s) ≡ b ∷ leading_digits (drop (end + 1) s) =
      ap leading_digits here ∙ leading_cons b (drop (end + 1) s) d in
      record {
        left = sym (ap (value_from largest value) digits) ∙ so_far.left;
        after = sym (ap₂ (λ (l m : List ℕ). drop (length l) m) digits here) ∙ so_far.after;
      }

  ended : leading_digits (drop end s) ≡ [] → (value ≡ leading_number (drop at s)) × (drop end s ≡ after_number (drop at s))
  unfolding value_from
  ended e = (
    sym (ap (value_from largest value) e) ∙ so_far.left,
    sym (ap (λ (l : List ℕ). drop (length l) (drop end s)) e) ∙ so_far.after,
  )

  pub so_far_stop : end < length s → is_digit (get_or s end 0) ≡ false → NumberAt s at (record { value = value; end = end })
  so_far_stop h d =
      let found = ended (ap leading_digits (drop-cons s end 0 h) ∙ leading_stop (get_or s end 0) (drop (suc end) s) d) in
      record { value = found.0; after = found.1; within = λ k. omega arith }

  -- the slice ends before another byte
  pub so_far_end : length s ≤ end → NumberAt s at (record { value = value; end = length s })
  unfolding leading_digits
  so_far_end h =
      let none : drop end s ≡ [] = drop_of_length-le s h in
      let found = ended (ap leading_digits none) in
      record { value = found.0; after = drop-length s ∙ sym none ∙ found.1; within = λ k. omega arith }

-- past the end nothing is left to read, and the place stays
pub read_past : (s : List ℕ) (at : ℕ) → length s < at → NumberAt s at (record { value = 0; end = at })
unfolding leading_digits
read_past s at h =
    let none : drop at s ≡ [] = drop_of_length-le s (omega arith) in
    let found = ended (so_far_none s at) (ap leading_digits none) in
    record { value = found.0; after = found.1; within = λ k. omega arith }

-- ---- reading behind a place

module _ (bytes : List ℕ) (at skip : ℕ) where
  past : drop skip (drop at bytes) ≡ drop (at + skip) bytes
  past = drop-drop skip at bytes

  -- nothing stands past the end
  pub number_missing : length bytes < at + skip → NumberBehind bytes at skip (record { value = 0; end = length bytes })
  unfolding leading_number after_number leading_digits value_from
  number_missing h =
      let beyond : length bytes ≤ at + skip = omega arith in
      let none : drop skip (drop at bytes) ≡ [] = past ∙ drop_of_length-le bytes beyond in
      record {
        value = sym (ap leading_number none);
        after = drop-length bytes ∙ sym (ap after_number none);
        within = omega arith;
      }

  pub number_found : {r : Number} → at + skip ≤ length bytes → NumberAt bytes (at + skip) r → NumberBehind bytes at skip r
  number_found h found =
      record {
        value = found.value ∙ sym (ap leading_number past);
        after = found.after ∙ sym (ap after_number past);
        within = found.within h;
      }

-- ---- a writer that goes from the last digit to the first: what it has stored and the digits that are left are the number's

-- the last digits of a number, so many of them, with zeros before the first
pub digits : ℕ → ℕ → List ℕ
digits zero n = []
digits (suc many) n = digits many (n / 10) ++ digit (n % 10) ∷ []

length_digits : (many n : ℕ) → length (digits many n) ≡ many
unfolding digits
length_digits zero n = refl
length_digits (suc many) n =
    length-append (digits many (n / 10)) (digit (n % 10) ∷ []) ∙ omega (arith, length_digits many (n / 10))

-- as many as the number has are the number's
digits_all : (many n : ℕ) → length (decimal n) ≡ many → digits many n ≡ decimal n
unfolding digits
digits_all zero n e = absurd (omega (arith, one_digit n))
digits_all (suc many) n e =
    ⊎_elim
    (λ h.
    let none : many ≡ 0 = omega (arith, length_small n h) in
    let last : n % 10 ≡ n = omega arith in
    rw (none, last) (sym (decimal_small n h)))
    (λ h.
    ap (λ (l : List ℕ). l ++ digit (n % 10) ∷ []) (digits_all many (n / 10) (omega (arith, length_more n h)))
    ∙ sym (decimal_more n h))
    (small_or_more n)

pub record DigitsLeft (out₀ : List ℕ) (at n : ℕ) (out : List ℕ) (i rest : ℕ) : Type 0 where
  pub stored : sets out at (digits (i - at) rest) ≡ sets out₀ at (decimal n)

pub left_all : (out : List ℕ) (at n i : ℕ) → i ≡ at + length (decimal n) → DigitsLeft out at n out i n
left_all out at n i e = record { stored = ap (sets out at) (digits_all (i - at) n (omega arith)) }

module _ {out₀ out : List ℕ} {at n i rest : ℕ} (left : DigitsLeft out₀ at n out i rest) where
  pub left_more : (b : ℕ) → b ≡ digit (rest % 10) → at < i → DigitsLeft out₀ at n (set out (i - 1) b) (i - 1) (rest / 10)
  unfolding digits
  left_more b e h =
      let many : ℕ = i - 1 - at in
      let more : i - at ≡ suc many = omega arith in
      let last : at + length (digits many (rest / 10)) ≡ i - 1 = omega (arith, length_digits many (rest / 10)) in
      let stored : set out (i - 1) b ≡ set out (at + length (digits many (rest / 10))) (digit (rest % 10)) = rw (e, last) in
      record {
        stored =
            ap (λ (l : List ℕ). sets l at (digits many (rest / 10))) stored
            ∙ sym (sets_last_first out at (digits many (rest / 10)) (digit (rest % 10)))
            ∙ ap (λ (m : ℕ). sets out at (digits m rest)) (sym more)
            ∙ left.stored;
      }

  pub left_none : i ≤ at → out ≡ sets out₀ at (decimal n)
  unfolding digits
  left_none h = let none : i - at ≡ 0 = omega arith in ap (λ (m : ℕ). sets out at (digits m rest)) (sym none) ∙ left.stored
