-- A number at the front of some bytes: `read_number` finds it exactly where its decimal digits stand there, with no digit after.
-- Assumes nothing.
use mathlib.Core.Path.{◌≡◌, refl, ◌∙◌, sym, ap}
use mathlib.Core.Bool.{Bool, true, false, cond, ◌&&◌}
use mathlib.Core.List.{List, [], ◌∷◌, ◌++◌, append-nil}
use Prim.Native.Nat.{ℕ, ◌≤◌, ◌+◌}
use native.Mathlib.Omega.{arith}
use lib.Dec.{leb}
use lib.ListN.{length, drop, length-append}
use lib.Seq.{drop-append_seam}
use borrow.Author.Tests.{leb-true, le-leb}
use Rattle.outcome.specs.Answer.{pick}
use Rattle.outcome.specs.Lists.{same}
use Rattle.outcome.proofs.Lists.{same_refl, same_equal}
use Rattle.decimal.specs.Decimal.{decimal, is_digit, leading_digits, largest, leading_number, after_number}
use Rattle.decimal.proofs.Decimal.{leading_decimal, value_decimal, one_digit}
use Rattle.formula.specs.Grammar.{most_number}
use Rattle.formula.specs.Reader.{Front, found, none, read_number}

-- ---- what was found

-- the parts of what was found
pub found_same : {A : Type 0} {a c : A} {r q : List ℕ} → found a r ≡ found c q → (a ≡ c) × (r ≡ q)
found_same e = (cc, cc)

-- something found is not nothing
pub none_found : {A : Type 0} {a : A} {r : List ℕ} → ◌≡◌ {A = Front A} none (found a r) → ⊥
none_found e = let z : ◌≡◌ {A = ℕ} 0 1 = cc in omega arith

-- ---- the digits at the front

-- whether some bytes start with a byte of a kind
abbrev pub starts : (ℕ → Bool) → List ℕ → Bool
starts kind [] = false
starts kind (b ∷ bytes) = kind b

-- bytes that start with no digit have no digits at their front
leading_none : (rest : List ℕ) → starts is_digit rest ≡ false → leading_digits rest ≡ []
unfolding leading_digits
leading_none [] e = refl
leading_none (b ∷ rest) e = rw e

-- the digits at the front and what follows them are all the bytes
leading_split : (bytes : List ℕ) → leading_digits bytes ++ drop (length (leading_digits bytes)) bytes ≡ bytes
unfolding leading_digits
leading_split [] = refl
leading_split (b ∷ bytes) = by_first (is_digit b) (leading_split bytes)
  where
    by_first : (t : Bool) → leading_digits bytes ++ drop (length (leading_digits bytes)) bytes ≡ bytes
        → cond t (b ∷ leading_digits bytes) [] ++ drop (length (cond t (b ∷ leading_digits bytes) [])) (b ∷ bytes)
        ≡ b ∷ bytes
    by_first true whole = ap (λ (l : List ℕ). b ∷ l) whole
    by_first false whole = refl

-- ---- a number that is found stands there

-- both tests of a number hold where one is found
tested : (t u : Bool) {n m : ℕ} {r q : List ℕ} → pick (t && u) (found n r) none ≡ found m q
    → (t ≡ true) × (u ≡ true) × (n ≡ m) × (r ≡ q)
tested true true e = (refl, refl, (found_same e).0, (found_same e).1)
tested true false e = absurd (none_found e)
tested false u e = absurd (none_found e)

-- its digits are read, what follows them is left, and it is small enough
pub number_sound : (bytes rest : List ℕ) (n : ℕ) → read_number bytes ≡ found n rest
    → (decimal n ++ rest ≡ bytes) × (n ≤ most_number)
unfolding read_number after_number
number_sound bytes rest n e =
    let m : ℕ = leading_number bytes in
    let parts = tested (same (leading_digits bytes) (decimal m)) (leb m most_number) e in
    let digits : leading_digits bytes ≡ decimal m = same_equal (leading_digits bytes) (decimal m) (rw parts.0 tt) in
    let low : m ≤ most_number = leb-true m most_number parts.1 in
    let number : m ≡ n = parts.2 in
    let behind : after_number bytes ≡ rest = parts.3 in
    (rw (← number, ← digits, ← behind) (leading_split bytes), rw (← number) low)

-- ---- a number that stands there is found

-- where no digit follows it
pub number_complete : (n : ℕ) (rest : List ℕ) → n ≤ most_number → starts is_digit rest ≡ false
    → read_number (decimal n ++ rest) ≡ found n rest
unfolding read_number leading_number after_number
number_complete n rest h stop =
    let digits : leading_digits (decimal n ++ rest) ≡ decimal n =
    leading_decimal n rest ∙ ap (λ (l : List ℕ). decimal n ++ l) (leading_none rest stop) ∙ append-nil (decimal n) in
    let value = value_decimal largest n (omega arith) in
    rw (digits, value, same_refl (decimal n), le-leb n most_number h, drop-append_seam (decimal n) rest)

-- a number starts with a digit
pub number_starts : (n : ℕ) (rest : List ℕ) → starts is_digit (decimal n ++ rest) ≡ true
number_starts n rest = by_start (starts is_digit (decimal n ++ rest)) refl
  where
    by_start : (t : Bool) → starts is_digit (decimal n ++ rest) ≡ t → starts is_digit (decimal n ++ rest) ≡ true
    by_start true e = e
    by_start false e =
        let nothing : decimal n ++ leading_digits rest ≡ [] =
        sym (leading_decimal n rest) ∙ leading_none (decimal n ++ rest) e in
        let size : length (decimal n) + length (leading_digits rest) ≡ 0 =
        sym (length-append (decimal n) (leading_digits rest)) ∙ ap length nothing in
        absurd (omega (arith, one_digit n, size))
