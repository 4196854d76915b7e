-- Every field of a list is below a limit: as a test, by cons, and by index.
-- Assumes nothing.
use mathlib.Core.Path.{◌≡◌, refl, sym, subst}
use mathlib.Core.Bool.{Bool, true, false}
use mathlib.Core.List.{List, [], ◌∷◌, ◌++◌}
use Prim.Native.Nat.{ℕ, zero, suc, ◌+◌, ◌<◌, ◌≤◌, max}
use native.Mathlib.Numerals.{add-one}
use native.Mathlib.Omega.{arith}
use native.Mathlib.Nat.{le_of_suc-le-suc, not-suc-le-zero, zero-lt-suc, lt_of_lt_of_le}
use borrow.Author.Tests.{lt-ltb, le-ltb}
use lib.Dec.{T, ltb, ltb→lt, lt→ltb}
use lib.ListN.{length, get_or, take, drop}
use lib.Seq.{take-suc}
use mir.Syntax.{w8}
use mir.Val.{Fits}
use Rattle.outcome.specs.Answer.{pick}
use Rattle.packing.specs.Packing.{all_below}

-- ---- tests

-- tests that imply each other are the same
pub same_test : (a b : Bool) → (T a → T b) → (T b → T a) → a ≡ b
same_test true true f g = refl
same_test true false f g = absurd (f tt)
same_test false true f g = absurd (g tt)
same_test false false f g = refl

-- two tests in a row
pub both : (a b : Bool) → T (pick a b false) → T a × T b
both true b t = (tt, t)
both false b t = absurd t

pub both_hold : (a b : Bool) → T a → T b → T (pick a b false)
both_hold true b s t = t
both_hold false b s t = absurd s

pub and-true : (a : Bool) → pick a true false ≡ a
and-true true = refl
and-true false = refl

and-false : (a : Bool) → pick a false false ≡ false
and-false true = refl
and-false false = refl

pub in_a_row : (a b c : Bool) → pick a (pick b c false) false ≡ pick (pick a b false) c false
in_a_row true b c = refl
in_a_row false b c = refl

-- ---- fields below a limit

-- by cons
pub data Below (m : ℕ) : List ℕ → Type 0 where
  none : Below m []
  more : {x : ℕ} {xs : List ℕ} → x < m → Below m xs → Below m (x ∷ xs)

-- the test, both ways
pub below_test : {m : ℕ} {xs : List ℕ} → Below m xs → all_below m xs ≡ true
unfolding all_below
below_test none = refl
below_test {m} (more {x} h b) = rw (lt-ltb x m h) (below_test b)

pub below : (m : ℕ) (xs : List ℕ) → T (all_below m xs) → Below m xs
unfolding all_below
below m [] t = none
below m (x ∷ xs) t =
    let parts : T (ltb x m) × T (all_below m xs) = both (ltb x m) (all_below m xs) t in
    more (ltb→lt x m parts.0) (below m xs parts.1)

pub below_true : (m : ℕ) (xs : List ℕ) → all_below m xs ≡ true → Below m xs
below_true m xs e = below m xs (subst T (sym e) tt)

-- by index, both ways; a slice of bytes knows its elements at every index
pub below_at : {m : ℕ} {xs : List ℕ} → Below m xs → (i : ℕ) → i < length xs → get_or xs i 0 < m
below_at none i h = absurd (not-suc-le-zero h)
below_at (more h b) zero l = h
below_at (more h b) (suc i) l = below_at b i (le_of_suc-le-suc l)

pub below_index : (m : ℕ) (xs : List ℕ) → ((i : ℕ) → i < length xs → get_or xs i 0 < m) → Below m xs
below_index m [] f = none
below_index m (x ∷ xs) f = more (f 0 (zero-lt-suc _)) (below_index m xs (λ i h. f (suc i) (omega arith)))

-- bytes are below 256
pub bytes_below : (xs : List ℕ) → ((i : ℕ) → Fits w8 (get_or xs i 0)) → Below 256 xs
bytes_below xs f = below_index 256 xs (λ i h. (f i).fits)

-- one field that is not below the limit fails the test
pub above_test : (m : ℕ) (xs : List ℕ) (i : ℕ) → i < length xs → m ≤ get_or xs i 0 → all_below m xs ≡ false
unfolding all_below
above_test m [] i h l = absurd (not-suc-le-zero h)
above_test m (x ∷ xs) zero h l = rw (le-ltb x m l)
above_test m (x ∷ xs) (suc i) h l = rw (above_test m xs i (le_of_suc-le-suc h) l) (and-false (ltb x m))

-- the test of two lists in a row
pub append_test : (m : ℕ) (xs ys : List ℕ) → all_below m (xs ++ ys) ≡ pick (all_below m xs) (all_below m ys) false
unfolding all_below
append_test m [] ys = refl
append_test m (x ∷ xs) ys = rw (append_test m xs ys) (in_a_row (ltb x m) (all_below m xs) (all_below m ys))

-- of one field, and of a list with one field more
pub one_test : (m x : ℕ) → all_below m (x ∷ []) ≡ ltb x m
unfolding all_below
one_test m x = and-true (ltb x m)

pub more_test : (m : ℕ) (xs : List ℕ) (i : ℕ) → i < length xs
    → all_below m (take (i + 1) xs) ≡ pick (all_below m (take i xs)) (ltb (get_or xs i 0) m) false
more_test m xs i h =
    rw (add-one, take-suc xs i 0 h, append_test m (take i xs) (get_or xs i 0 ∷ []), one_test m (get_or xs i 0))

-- the larger of two numbers is below where both are
pub larger_test : (a b m : ℕ) → ltb (max a b) m ≡ pick (ltb a m) (ltb b m) false
larger_test a b m =
    same_test (ltb (max a b) m) (pick (ltb a m) (ltb b m) false)
    (λ t.
    let h : max a b < m = ltb→lt (max a b) m t in
    both_hold (ltb a m) (ltb b m) (lt→ltb a m (omega arith)) (lt→ltb b m (omega arith)))
    (λ t.
    let parts : T (ltb a m) × T (ltb b m) = both (ltb a m) (ltb b m) t in
    lt→ltb (max a b) m (omega (arith, ltb→lt a m parts.0, ltb→lt b m parts.1)))

pub below_le : {m n : ℕ} {xs : List ℕ} → m ≤ n → Below m xs → Below n xs
below_le l none = none
below_le l (more h b) = more (lt_of_lt_of_le h l) (below_le l b)

pub below_append : {m : ℕ} {xs ys : List ℕ} → Below m xs → Below m ys → Below m (xs ++ ys)
below_append none c = c
below_append (more h b) c = more h (below_append b c)

pub below_later : {m : ℕ} (xs : List ℕ) {ys : List ℕ} → Below m (xs ++ ys) → Below m ys
below_later [] b = b
below_later (x ∷ xs) (more h b) = below_later xs b

pub below_take : {m : ℕ} {xs : List ℕ} (i : ℕ) → Below m xs → Below m (take i xs)
below_take zero none = none
below_take (suc i) none = none
below_take zero (more h b) = none
below_take (suc i) (more h b) = more h (below_take i b)

pub below_drop : {m : ℕ} {xs : List ℕ} (i : ℕ) → Below m xs → Below m (drop i xs)
below_drop zero none = none
below_drop (suc i) none = none
below_drop zero (more h b) = more h b
below_drop (suc i) (more h b) = below_drop i b
