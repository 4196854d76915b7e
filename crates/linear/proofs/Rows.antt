-- Sums of products, by what is left of them, by their halves, with zeros after them; and the rows of V. Assumes nothing.
use mathlib.Core.Path.{◌≡◌, refl, ◌∙◌, ap}
use mathlib.Core.List.{List, [], ◌∷◌, ◌++◌}
use Prim.Native.Nat.{ℕ, zero, suc, ◌+◌, ◌-◌, ◌*◌, ◌%◌, ◌≤◌, ◌<◌}
use native.Mathlib.Numerals.{add-one}
use native.Mathlib.Omega.{arith}
use lib.Dec.{T, lit<}
use lib.ListN.{length, take, drop, get_or, replicate, drop_of_length-le, length-drop}
use lib.Seq.{drop-cons, drop-drop, drop_at, take-add, take-take, take_at, take_all, length-take-le}
use Rattle.outcome.proofs.Numbers.{product_le}
use Rattle.packing.specs.Packing.{all_below}
use Rattle.packing.proofs.Below.{Below, none, more, below, below_at, below_append, below_take, below_drop}
use Rattle.field.proofs.Congruence.{plus_congruent}
use Rattle.field.proofs.Folds.{folded, fold_congruent}
use Rattle.linear.specs.Linear.{dot}

pub dot_more : (row x : List ℕ) (i : ℕ) → i < length row → i < length x
    → dot (drop i row) (drop i x) ≡ get_or row i 0 * get_or x i 0 + dot (drop (i + 1) row) (drop (i + 1) x)
unfolding dot
dot_more row x i hr hx = rw (add-one, drop-cons row i 0 hr, drop-cons x i 0 hx)

dot_nil : (row : List ℕ) → dot row [] ≡ 0
unfolding dot
dot_nil [] = refl
dot_nil (y ∷ row) = refl

pub dot_end : (row x : List ℕ) (i : ℕ) → length x ≤ i → dot (drop i row) (drop i x) ≡ 0
dot_end row x i h = rw (drop_of_length-le x h) (dot_nil (drop i row))

-- a sum of products by its first h places and the rest
pub dot_split : (row x : List ℕ) (h : ℕ) → dot row x ≡ dot (take h row) (take h x) + dot (drop h row) (drop h x)
unfolding dot
dot_split row x zero = omega arith
dot_split [] x (suc h) = omega arith
dot_split (v ∷ row) [] (suc h) = omega (arith, dot_nil (drop h row))
dot_split (v ∷ row) (y ∷ x) (suc h) =
    omega (arith, dot_split row x h)

-- and by two halves of h places each, written as the code takes them, and what is left after them
pub dot_halves : (row x : List ℕ) (h : ℕ) → dot row x
    ≡ dot (take h row) (take h x) + dot (take (h + h - h) (drop h row)) (take (h + h - h) (drop h x))
    + dot (drop (h + h) row) (drop (h + h) x)
dot_halves row x h =
    let width : h + h - h ≡ h = omega arith in
    let rest : dot (drop h row) (drop h x) ≡
    dot (take h (drop h row)) (take h (drop h x)) + dot (drop (h + h) row) (drop (h + h) x) =
    dot_split (drop h row) (drop h x) h ∙ rw (drop-drop, drop-drop) in
    rw width (omega (arith, dot_split row x h, rest))

-- zeros count nothing, by themselves ..
dot_zeros : (row z : List ℕ) → Below 1 z → dot row z ≡ 0
unfolding dot
dot_zeros [] z b = refl
dot_zeros (v ∷ row) [] b = refl
dot_zeros (v ∷ row) (x ∷ z) (more h b) =
    let nought : x ≡ 0 = omega arith in
    rw nought (omega (arith, dot_zeros row z b))

-- .. and after the places of a vector ..
dot_padded : (row x z : List ℕ) → Below 1 z → dot row (x ++ z) ≡ dot (take (length x) row) x
unfolding dot
dot_padded row [] z b = dot_zeros row z b
dot_padded [] (y ∷ x) z b = refl
dot_padded (v ∷ row) (y ∷ x) z b = ap (λ (n : ℕ). v * y + n) (dot_padded row x z b)

-- .. so that a sum may take more places than the vector has
pub dot_covered : (vs x : List ℕ) (k w : ℕ) → k ≤ w → k ≤ length x → Below 1 (drop k x)
    → dot (take w vs) (take w x) ≡ dot (take k vs) (take k x)
dot_covered vs x k w h l z =
    let width : w ≡ k + (w - k) = omega arith in
    let parts : take w x ≡ take k x ++ take (w - k) (drop k x) = ap (λ (n : ℕ). take n x) width ∙ take-add k (w - k) x in
    ap (λ (xs : List ℕ). dot (take w vs) xs) parts
    ∙ dot_padded (take w vs) (take k x) (take (w - k) (drop k x)) (below_take (w - k) z)
    ∙ rw (length-take-le k x l, take-take k w vs h)

-- a product of two values
pub product_of : (row x : List ℕ) (i : ℕ) → i < length row → i < length x → T (all_below 127 row) → T (all_below 127 x)
    → get_or row i 0 * get_or x i 0 ≤ 15876
product_of row x i hr hx tr tx =
    let a = below_at (below 127 row tr) i hr in
    let b = below_at (below 127 x tx) i hx in
    product_le _ _ 126 126 (omega arith) (omega arith)

-- two products fold to at most 375
pub pair_low : (p q : ℕ) → p ≤ 15876 → q ≤ 15876 → folded (p + q) ≤ 375
pair_low p q hp hq = omega arith

-- two products more, folded
pub pair_step : (sum p q r t whole : ℕ) → (sum + ((p + r) + (q + t))) % 127 ≡ whole % 127
    → (sum + folded (p + q) + (r + t)) % 127 ≡ whole % 127
pair_step sum p q r t whole e =
    ap (λ (n : ℕ). n % 127) (grouped sum (folded (p + q)) (r + t))
    ∙ plus_congruent (sum + (r + t)) (sum + (r + t)) (folded (p + q)) (p + q) refl (fold_congruent (p + q))
    ∙ ap (λ (n : ℕ). n % 127) (regrouped sum p q r t)
    ∙ e
  where
    grouped : (a b c : ℕ) → a + b + c ≡ a + c + b
    grouped a b c = omega arith

    regrouped : (sum p q r t : ℕ) → sum + (r + t) + (p + q) ≡ sum + ((p + r) + (q + t))
    regrouped sum p q r t = omega arith

-- what is left of a list from a place on, as the code takes it
pub rest_taken : (at : ℕ) (xs : List ℕ) → take (length xs - at) (drop at xs) ≡ drop at xs
rest_taken at xs = take_all (length xs - at) (drop at xs) (omega (arith, length-drop at xs))

-- ---- the places that V covers, with zeros after them: the first k of an array of zeros become new

zeros : (m n : ℕ) → 0 < m → Below m (replicate n 0)
zeros m zero h = none
zeros m (suc n) h = more h (zeros m n h)

module _ (k : ℕ) (new : List ℕ) (size : length new ≡ k) (fits : k ≤ 256) where
  pub covered_below : Below 127 new → Below 127 (new ++ drop k (replicate 256 0))
  covered_below b = below_append b (below_drop k (zeros 127 256 (lit< tt)))

  pub covered_zeros : Below 1 (drop k (new ++ drop k (replicate 256 0)))
  covered_zeros = rw (drop_at new (drop k (replicate 256 0)) k size) (below_drop k (zeros 1 256 (lit< tt)))

  pub covered_front : take k (new ++ drop k (replicate 256 0)) ≡ new
  covered_front = take_at new (drop k (replicate 256 0)) k size
