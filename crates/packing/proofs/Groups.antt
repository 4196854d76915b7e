-- A group of fields read as one number, and a number written as fields at a place.
-- Assumes nothing.
use mathlib.Core.Path.{◌≡◌, ◌∙◌, sym, ap}
use mathlib.Core.List.{List, [], ◌∷◌, ◌++◌, append_assoc, append-nil}
use Prim.Native.Nat.{ℕ, suc, ◌+◌, ◌-◌, ◌*◌, ◌/◌, ◌%◌, ◌^◌, ◌<◌, ◌≤◌}
use native.Mathlib.Nat.{mod-lt, le_of_eq, mod-eq_of_lt, add-zero, lt_of_lt_of_le, le_trans, mul-le-mul_left, mul-le-mul_right, sub_self}
use native.Mathlib.Omega.{arith}
use lib.ListN.{length, get_or, take, drop, set, length-append, length-drop, take-append-drop}
use lib.Seq.{drop-cons, set_at, length-take-le, take_at, take_all, drop-length}
use lib.Pow.{pow_pos, pow_mono}
use Rattle.packing.specs.Packing.{number, digits}
use Rattle.packing.proofs.Below.{Below, below_drop}
use Rattle.packing.proofs.Base.{number_take, digits_add, length_digits, digits_join, digits_last}

-- x fields of width a are a number of a * x bits
pub part_below : (a : ℕ) {s : List ℕ} → Below (2 ^ a) s → (i x : ℕ) → number a (take x (drop i s)) < 2 ^ (a * x)
part_below a {s} b i x = rw (number_take a x (below_drop i b)) (mod-lt (number a (drop i s)) (pow_pos (a * x)))

pub part_none : (a : ℕ) (s : List ℕ) (n : ℕ) → number a (take (n - n) s) ≡ 0
unfolding number
part_none a s n = rw (sub_self n)

pub part_more : (a : ℕ) (s : List ℕ) (i x : ℕ) → i < length s
    → number a (take (suc x) (drop i s)) ≡ number a (take x (drop (suc i) s)) * 2 ^ a + get_or s i 0
unfolding number
part_more a s i x h = rw (drop-cons s i 0 h)

-- the number of a group of at most 64 bits fits
pub part_fits : (a : ℕ) {s : List ℕ} → Below (2 ^ a) s → (i x : ℕ) → a * x ≤ 64 → number a (take x (drop i s)) < 2 ^ 64
part_fits a b i x l = lt_of_lt_of_le (part_below a b i x) (pow_mono l)

-- a turn of reading a group from its last field downward: the number so far, shifted up, and the next field
pub gather_more : (a : ℕ) {s : List ℕ} (at n k v : ℕ) → Below (2 ^ a) s → at + n ≤ length s → a * n ≤ 64 → 0 < k → k ≤ n
    → v ≡ number a (take (n - k) (drop (at + k) s))
    → v * 2 ^ a % 2 ^ 64 + get_or s (at + (k - 1)) 0 ≡ number a (take (n - (k - 1)) (drop (at + (k - 1)) s))
gather_more a {s} at n k v b l f p q e =
    let below : ℕ = at + (k - 1) in
    let turns : n - (k - 1) ≡ suc (n - k) = omega arith in
    let place : at + k ≡ suc below = omega arith in
    let bits : a * suc (n - k) ≤ 64 = le_trans (mul-le-mul_left a (omega arith)) f in
    let whole : number a (take (suc (n - k)) (drop below s)) ≡ v * 2 ^ a + get_or s below 0 =
    part_more a s below (n - k) (omega arith)
    ∙ ap (λ (z : ℕ). z * 2 ^ a + get_or s below 0)
    (ap (λ (i : ℕ). number a (take (n - k) (drop i s))) (sym place) ∙ sym e) in
    let small : v * 2 ^ a < 2 ^ 64 = omega (arith, part_fits a b below (suc (n - k)) bits, whole) in
    rw turns (ap (λ (z : ℕ). z + get_or s below 0) (mod-eq_of_lt small) ∙ sym whole)

-- ---- writing

pub stored_none : (d : List ℕ) (at : ℕ) → d ≡ take at d ++ [] ++ drop (at + 0) d
stored_none d at = sym (rw (append-nil, add-zero) (take-append-drop at d))

-- a store after those so far
pub stored_more : (d xs : List ℕ) (at k v : ℕ) → length xs ≡ k → at + k < length d
    → set (take at d ++ xs ++ drop (at + k) d) (at + k) v ≡ take at d ++ (xs ++ v ∷ []) ++ drop (at + (k + 1)) d
stored_more d xs at k v e h =
    let before : length (take at d ++ xs) ≡ at + k =
    length-append (take at d) xs ∙ omega (arith, length-take-le at d (omega arith)) in
    let next : suc (at + k) ≡ at + (k + 1) = omega arith in
    rw (drop-cons d (at + k) 0 h, set_at (take at d ++ xs) (get_or d (at + k) 0) (drop (suc (at + k)) d) v (at + k) before, next)
    (simp append_assoc)

pub digits_more : (b k v : ℕ) → digits b (k + 1) v ≡ digits b k v ++ (v / 2 ^ (b * k) % 2 ^ b) ∷ []
unfolding digits
digits_more b k v = digits_add b k 1 v

-- a digit of at most 8 bits is a byte
pub digit_small : (b left p : ℕ) → b ≤ 8 → p ≡ 2 ^ b → left % p < 256
digit_small b left p h q = rw q (lt_of_lt_of_le (mod-lt left (pow_pos b)) (pow_mono h))

-- a turn of writing: the next digit is the lowest of the number that is left
pub scatter_more : (d e : List ℕ) (at b k v left p : ℕ) → at + k < length d → left ≡ v / 2 ^ (b * k) → p ≡ 2 ^ b
    → e ≡ take at d ++ digits b k v ++ drop (at + k) d
    → set e (at + k) (left % p) ≡ take at d ++ digits b (k + 1) v ++ drop (at + (k + 1)) d
scatter_more d e at b k v left p h l q s =
    rw (s, l, q)
    (stored_more d (digits b k v) at k (v / 2 ^ (b * k) % 2 ^ b) (length_digits b k v) h
    ∙ ap (λ (xs : List ℕ). take at d ++ xs ++ drop (at + (k + 1)) d) (sym (digits_more b k v)))

-- ---- a string read in groups

-- group g lies within a string that has more groups
pub group_fits : (g groups x : ℕ) {n : ℕ} → g < groups → groups * x ≤ n → g * x + x ≤ n
group_fits g groups x h l = omega (arith, mul-le-mul_right x h)

-- groups of x fields of a bits, each as many bits as y of b, stand behind as many bits in both bases
pub group_bits : (a b x y g i j : ℕ) → a * x ≡ b * y → i ≡ g * x → j ≡ g * y → a * i ≡ b * j
group_bits a b x y g i j e p q = rw (p, q) (omega (arith, ap (λ (k : ℕ). g * k) e))

-- one group more: what was made of what stands before place i, and the digits v of the group
pub group_more : (a b : ℕ) {s : List ℕ} (d e : List ℕ) (i j x y v : ℕ) → Below (2 ^ a) s → a * i ≡ b * j → b * y ≤ a * x
    → j + y ≤ length e → v ≡ number a (take x (drop i s)) → take j e ≡ digits b j (number a s)
    → d ≡ take j e ++ digits b y v ++ drop (j + y) e
    → take (j + y) d ≡ digits b (j + y) (number a s)
group_more a b {s} d e i j x y v h bits l fits q so_far made =
    let size : length (digits b j (number a s) ++ digits b y v) ≡ j + y =
    simp (length-append, length_digits) in
    rw (made, so_far, take_at (digits b j (number a s) ++ digits b y v) (drop (j + y) e) (j + y) size, q)
    (sym (digits_join a b i j x y h bits l))

-- the last group, which may have fewer fields
pub group_last : (a b : ℕ) {s : List ℕ} (d e : List ℕ) (i j n v : ℕ) → Below (2 ^ a) s → a * i ≡ b * j
    → j + n ≡ length e → v ≡ number a (take (length s - i) (drop i s)) → take j e ≡ digits b j (number a s)
    → d ≡ take j e ++ digits b n v ++ drop (j + n) e
    → d ≡ digits b (length e) (number a s)
group_last a b {s} d e i j n v h bits fits q so_far made =
    rw (made, so_far, q, fits, drop-length, append-nil, take_all (length s - i) (drop i s) (le_of_eq (length-drop i s)))
    (sym (digits_last a b i j n h bits) ∙ ap (λ (k : ℕ). digits b k (number a s)) fits)

-- the same of whole groups, b fields of a bits for a of b
whole_bits : (a b g : ℕ) → a * (g * b) ≡ b * (g * a)
whole_bits a b g = omega arith

pub whole_more : (a b : ℕ) {s : List ℕ} (d e : List ℕ) (g v : ℕ) → Below (2 ^ a) s → g * a + a ≤ length e
    → v ≡ number a (take b (drop (g * b) s)) → take (g * a) e ≡ digits b (g * a) (number a s)
    → d ≡ take (g * a) e ++ digits b a v ++ drop (g * a + a) e
    → take ((g + 1) * a) d ≡ digits b ((g + 1) * a) (number a s)
whole_more a b {s} d e g v h fits q so_far made =
    let next : (g + 1) * a ≡ g * a + a = omega arith in
    rw next (group_more a b d e (g * b) (g * a) b a v h (whole_bits a b g) (omega arith) fits q so_far made)

pub whole_last : (a b : ℕ) {s : List ℕ} (d e : List ℕ) (groups n v : ℕ) → Below (2 ^ a) s → groups * a + n ≡ length e
    → v ≡ number a (take (length s - groups * b) (drop (groups * b) s)) → take (groups * a) e ≡ digits b (groups * a) (number a s)
    → d ≡ take (groups * a) e ++ digits b n v ++ drop (groups * a + n) e
    → d ≡ digits b (length e) (number a s)
whole_last a b d e groups n v h fits q so_far made =
    group_last a b d e (groups * b) (groups * a) n v h (whole_bits a b groups) fits q so_far made
