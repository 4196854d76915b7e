-- A string of fields and a number: the change of base, for every width.
-- Assumes nothing.
use mathlib.Core.Path.{◌≡◌, refl, ◌∙◌, sym, ap}
use mathlib.Core.List.{List, [], ◌∷◌, ◌++◌}
use Prim.Native.Nat.{ℕ, zero, suc, ◌+◌, ◌-◌, ◌*◌, ◌/◌, ◌%◌, ◌^◌, ◌<◌, ◌≤◌}
use native.Mathlib.Nat.{mul-zero, mul-suc, add_comm, zero-add, suc-add, zero-mod, zero-div, mod-one, div-one, mod-lt, le_of_suc-le-suc}
use native.Mathlib.Numerals.{add-one}
use native.Mathlib.Omega.{arith}
use lib.Arith.{digits_lt}
use lib.Pow.{pow_pos, pow-add, shr-shr, high, low, mod-pow-add, field, mod-mod-pow}
use lib.ListN.{length, get_or, take, drop}
use Rattle.packing.specs.Packing.{number, digits}
use Rattle.packing.proofs.Below.{Below, none, more, below_drop}

-- ---- a number without its i lowest fields

pub shift_none : (w x : ℕ) → x / 2 ^ (w * 0) ≡ x
shift_none w x = rw mul-zero (div-one x)

shift_first : (w i x : ℕ) → x / 2 ^ w / 2 ^ (w * i) ≡ x / 2 ^ (w * suc i)
shift_first w i x = rw (shr-shr, mul-suc, add_comm w (w * i))

pub shift_more : (w i x : ℕ) → x / 2 ^ (w * i) / 2 ^ w ≡ x / 2 ^ (w * (i + 1))
shift_more w i x = rw (shr-shr, add-one, mul-suc)

-- ---- digits

pub length_digits : (w n x : ℕ) → length (digits w n x) ≡ n
unfolding digits
length_digits w zero x = refl
length_digits w (suc n) x = ap suc (length_digits w n (x / 2 ^ w))

pub digits_below : (w n x : ℕ) → Below (2 ^ w) (digits w n x)
unfolding digits
digits_below w zero x = none
digits_below w (suc n) x = more (mod-lt x (pow_pos w)) (digits_below w n (x / 2 ^ w))

-- digit i begins at bit w * i
pub digits_at : (w n x i : ℕ) → i < n → get_or (digits w n x) i 0 ≡ x / 2 ^ (w * i) % 2 ^ w
unfolding digits
digits_at w zero x i h = absurd (omega arith)
digits_at w (suc n) x zero h = rw (shift_none w x)
digits_at w (suc n) x (suc i) h =
    digits_at w n (x / 2 ^ w) i (le_of_suc-le-suc h) ∙ ap (λ (y : ℕ). y % 2 ^ w) (shift_first w i x)

-- further digits are those of the number without its lowest
pub digits_add : (w m n x : ℕ) → digits w (m + n) x ≡ digits w m x ++ digits w n (x / 2 ^ (w * m))
unfolding digits
digits_add w zero n x = rw (zero-add n, shift_none w x)
digits_add w (suc m) n x =
    rw (suc-add m n) (ap (λ (ys : List ℕ). (x % 2 ^ w) ∷ ys)
    (digits_add w m n (x / 2 ^ w) ∙ ap (λ (y : ℕ). digits w m (x / 2 ^ w) ++ digits w n y) (shift_first w m x)))

-- the lowest digits do not see what stands above them
pub digits_mod_pow : (w n k x : ℕ) → w * n ≤ k → digits w n (x % 2 ^ k) ≡ digits w n x
unfolding digits
digits_mod_pow w zero k x h = refl
digits_mod_pow w (suc n) k x h =
    let rest : w * n ≤ k - w = omega (arith, mul-suc w n) in
    let k≡ : k ≡ (k - w) + w = omega (arith, mul-suc w n) in
    rw k≡ (rw (mod-mod-pow x (k - w) w, field x (k - w) w)
    (ap (λ (ys : List ℕ). (x % 2 ^ w) ∷ ys) (digits_mod_pow w n (k - w) (x / 2 ^ w) rest)))

-- ---- number

pub number_below : (w : ℕ) {xs : List ℕ} → Below (2 ^ w) xs → number w xs < 2 ^ (w * length xs)
unfolding number
number_below w none = pow_pos (w * 0)
number_below w (more {x} {xs} h b) =
    rw (mul-suc, pow-add) (digits_lt (number_below w b) h)

pub number_append : (w : ℕ) (xs ys : List ℕ) → number w (xs ++ ys) ≡ number w ys * 2 ^ (w * length xs) + number w xs
unfolding number
number_append w [] ys = omega (arith, ap (λ (k : ℕ). number w ys * 2 ^ k) (mul-zero w))
number_append w (x ∷ xs) ys =
    let powers : 2 ^ (w * suc (length xs)) ≡ 2 ^ (w * length xs) * 2 ^ w = rw (mul-suc, pow-add) in
    rw (number_append w xs ys, powers) (omega arith)

pub number_drop : (w : ℕ) {xs : List ℕ} (i : ℕ) → Below (2 ^ w) xs → number w (drop i xs) ≡ number w xs / 2 ^ (w * i)
unfolding number
number_drop w zero none = sym (zero-div (2 ^ (w * 0)))
number_drop w (suc i) none = sym (zero-div (2 ^ (w * suc i)))
number_drop w zero (more {x} {xs} h b) = sym (shift_none w (number w xs * 2 ^ w + x))
number_drop w (suc i) (more {x} {xs} h b) =
    number_drop w i b ∙ ap (λ (y : ℕ). y / 2 ^ (w * i)) (sym (high (number w xs) w h)) ∙ shift_first w i (number w xs * 2 ^ w + x)

pub number_take : (w : ℕ) {xs : List ℕ} (i : ℕ) → Below (2 ^ w) xs → number w (take i xs) ≡ number w xs % 2 ^ (w * i)
unfolding number
number_take w zero none = sym (zero-mod (2 ^ (w * 0)))
number_take w (suc i) none = sym (zero-mod (2 ^ (w * suc i)))
number_take w zero (more {x} {xs} h b) = rw mul-zero (sym (mod-one (number w xs * 2 ^ w + x)))
number_take w (suc i) (more {x} {xs} h b) =
    rw (mul-suc, mod-pow-add (number w xs * 2 ^ w + x) (w * i) w, high (number w xs) w h, low (number w xs) w h, number_take w i b)

-- a field of the string is the digit of its number at the same place
pub number_at : (w : ℕ) {xs : List ℕ} → Below (2 ^ w) xs → (i : ℕ) → get_or xs i 0 ≡ number w xs / 2 ^ (w * i) % 2 ^ w
unfolding number
number_at w none i = rw (zero-div (2 ^ (w * i)), zero-mod (2 ^ w))
number_at w (more {x} {xs} h b) zero = rw (shift_none w (number w xs * 2 ^ w + x), low (number w xs) w h)
number_at w (more {x} {xs} h b) (suc i) =
    number_at w b i
    ∙ ap (λ (y : ℕ). y / 2 ^ (w * i) % 2 ^ w) (sym (high (number w xs) w h))
    ∙ ap (λ (y : ℕ). y % 2 ^ w) (shift_first w i (number w xs * 2 ^ w + x))

-- ---- there and back

pub number_digits : (w n x : ℕ) → number w (digits w n x) ≡ x % 2 ^ (w * n)
unfolding number digits
number_digits w zero x = rw mul-zero (sym (mod-one x))
number_digits w (suc n) x = rw (mul-suc, mod-pow-add x (w * n) w, number_digits w n (x / 2 ^ w))

pub digits_number : (w : ℕ) {xs : List ℕ} → Below (2 ^ w) xs → digits w (length xs) (number w xs) ≡ xs
unfolding number digits
digits_number w none = refl
digits_number w (more {x} {xs} h b) = rw (low (number w xs) w h, high (number w xs) w h, digits_number w b)

-- Without the lowest fields, where the fields so far and the digits so far are as many bits.
pub digits_last : (a b : ℕ) {s : List ℕ} (i j y : ℕ) → Below (2 ^ a) s → a * i ≡ b * j
    → digits b (j + y) (number a s) ≡ digits b j (number a s) ++ digits b y (number a (drop i s))
digits_last a b {s} i j y h e =
    digits_add b j y (number a s)
    ∙ ap (λ (k : ℕ). digits b j (number a s) ++ digits b y (number a s / 2 ^ k)) (sym e)
    ∙ ap (λ (v : ℕ). digits b j (number a s) ++ digits b y v) (sym (number_drop a i h))

-- A string read in groups: the digits of the whole are those so far and then those of the next x fields alone. It
-- carries the loops of packing, unpacking and sampling.
pub digits_join : (a b : ℕ) {s : List ℕ} (i j x y : ℕ) → Below (2 ^ a) s → a * i ≡ b * j → b * y ≤ a * x
    → digits b (j + y) (number a s) ≡ digits b j (number a s) ++ digits b y (number a (take x (drop i s)))
digits_join a b {s} i j x y h e l =
    digits_last a b i j y h e
    ∙ ap (λ (ys : List ℕ). digits b j (number a s) ++ ys)
    (rw (number_take a x (below_drop i h)) (sym (digits_mod_pow b y (a * x) (number a (drop i s)) l)))
