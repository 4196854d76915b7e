-- Complemented lanes in the operations of a round: a complement passes through ⊕ and a rotation, and turns ∨ into ∧.
-- Assumes nothing.
use mathlib.Core.Path.{◌≡◌, refl, sym, ap, ap₂, ◌∙◌, subst}
use mathlib.Core.Bool.{Bool, true, false}
use Prim.Native.Nat.{ℕ, zero, suc, ◌+◌, ◌-◌, ◌*◌, ◌/◌, ◌%◌, ◌^◌, ◌≤◌, ◌<◌, min, max}
use native.Mathlib.Nat.{mod-lt, pow-suc, mul-mod_left, add-zero, lt_of_le_of_lt}
use native.Mathlib.Omega.{arith}
use lib.Arith.{lt-one}
use lib.Bits.{bit_and, bit_or, bit_xor, differ, and_step, or_step, xor_step, and_lt, or_lt, xor_lt, xor_comm, or_shifted}
use lib.Dec.{lit≤}
use lib.ListN.{get_or}
use lib.Pow.{pow_pos, ones_split, shr_lt, shl-shr, split, high, low, mod-pow-add, ones_sub-lt, shr_le}
use Rattle.keccak.specs.Keccak.{rotl, complement}
use Rattle.keccak.specs.InnerPlanes.{shown, differing, hidden, sided, Parity, Beside}
use Rattle.keccak.proofs.Tables.{rotations}

-- the complement at k bits
abbrev inverse : ℕ → ℕ → ℕ
inverse k a = 2 ^ k - 1 - a

-- it goes bit by bit
module _ (k a : ℕ) where
  inverse_half : a < 2 ^ suc k → inverse (suc k) a / 2 ≡ inverse k (a / 2)
  inverse_half h = let e : 2 ^ suc k ≡ 2 ^ k * 2 = pow-suc 2 k in omega arith

  inverse_odd : a < 2 ^ suc k → inverse (suc k) a % 2 ≡ 1 - a % 2
  inverse_odd h = let e : 2 ^ suc k ≡ 2 ^ k * 2 = pow-suc 2 k in omega arith

  inverse_join : (c : ℕ) → a < 2 ^ k → c < 2 → inverse k a * 2 + (1 - c) ≡ inverse (suc k) (a * 2 + c)
  inverse_join c h l = let e : 2 ^ suc k ≡ 2 ^ k * 2 = pow-suc 2 k in omega arith

  half_lt : a < 2 ^ suc k → a / 2 < 2 ^ k
  half_lt h = let e : 2 ^ suc k ≡ 2 ^ k * 2 = pow-suc 2 k in omega arith

-- the complement where a flag asks for it
abbrev flipped : Bool → ℕ → ℕ → ℕ
flipped true k a = inverse k a
flipped false k a = a

flipped_half : (g : Bool) (k a : ℕ) → a < 2 ^ suc k → flipped g (suc k) a / 2 ≡ flipped g k (a / 2)
flipped_half true k a h = inverse_half k a h
flipped_half false k a h = refl

flipped_odd : (g : Bool) (k a : ℕ) → a < 2 ^ suc k → flipped g (suc k) a % 2 ≡ flipped g 1 (a % 2)
flipped_odd true k a h = inverse_odd k a h
flipped_odd false k a h = refl

flipped_zero : (g : Bool) → flipped g 0 0 ≡ 0
flipped_zero true = refl
flipped_zero false = refl

-- where one operation on complemented bits is the complement of another, it is so on numbers
module _ (g : Bool) (op op' f f' : ℕ → ℕ → ℕ)
    (step : (a b : ℕ) → op a b ≡ op (a / 2) (b / 2) * 2 + f (a % 2) (b % 2))
    (step' : (a b : ℕ) → op' a b ≡ op' (a / 2) (b / 2) * 2 + f' (a % 2) (b % 2))
    (bound : (k a b : ℕ) → a < 2 ^ k → b < 2 ^ k → op' a b < 2 ^ k)
    (none : op 0 0 ≡ 0) (none' : op' 0 0 ≡ 0)
    (bit : (x y : ℕ) → x < 2 → y < 2 → f' x y < 2)
    (dual : (x y : ℕ) → x < 2 → y < 2 → f (1 - x) (flipped g 1 y) ≡ 1 - f' x y) where
  duals : (k a b : ℕ) → a < 2 ^ k → b < 2 ^ k → op (inverse k a) (flipped g k b) ≡ inverse k (op' a b)
  duals zero a b ha hb =
      ap₂ (λ (x y : ℕ). op (inverse 0 x) (flipped g 0 y)) (lt-one ha) (lt-one hb) ∙ ap (op 0) (flipped_zero g) ∙ none
      ∙ sym (ap (inverse 0) (ap₂ op' (lt-one ha) (lt-one hb) ∙ none'))
  duals (suc k) a b ha hb =
      let x : a % 2 < 2 = mod-lt a (pow_pos 1) in
      let y : b % 2 < 2 = mod-lt b (pow_pos 1) in
      step (inverse (suc k) a) (flipped g (suc k) b)
      ∙ ap₂ (λ (p q : ℕ). p * 2 + q)
      (ap₂ op (inverse_half k a ha) (flipped_half g k b hb) ∙ duals k (a / 2) (b / 2) (half_lt k a ha) (half_lt k b hb))
      (ap₂ f (inverse_odd k a ha) (flipped_odd g k b hb) ∙ dual (a % 2) (b % 2) x y)
      ∙ inverse_join k (op' (a / 2) (b / 2)) (f' (a % 2) (b % 2))
      (bound k (a / 2) (b / 2) (half_lt k a ha) (half_lt k b hb)) (bit (a % 2) (b % 2) x y)
      ∙ ap (inverse (suc k)) (sym (step' a b))

-- by the four cases of two bits
cases : (P : ℕ → ℕ → Type 0) → P 0 0 → P 0 1 → P 1 0 → P 1 1 → (x y : ℕ) → x < 2 → y < 2 → P x y
cases P a b c d zero zero hx hy = a
cases P a b c d zero (suc zero) hx hy = b
cases P a b c d (suc zero) zero hx hy = c
cases P a b c d (suc zero) (suc zero) hx hy = d
cases P a b c d zero (suc (suc y)) hx hy = absurd (omega arith)
cases P a b c d (suc zero) (suc (suc y)) hx hy = absurd (omega arith)
cases P a b c d (suc (suc x)) y hx hy = absurd (omega arith)

-- the three laws, at lanes
pub xor_inverse : (a b : ℕ) → a < 2 ^ 64 → b < 2 ^ 64 → bit_xor (complement a) b ≡ complement (bit_xor a b)
xor_inverse =
    duals false bit_xor bit_xor differ differ xor_step xor_step xor_lt refl refl
    (cases (λ x y. differ x y < 2) (omega arith) (omega arith) (omega arith) (omega arith))
    (cases (λ x y. differ (1 - x) y ≡ 1 - differ x y) refl refl refl refl) 64

pub and_inverse : (a b : ℕ) → a < 2 ^ 64 → b < 2 ^ 64 → bit_and (complement a) (complement b) ≡ complement (bit_or a b)
and_inverse =
    duals true bit_and bit_or min max and_step or_step or_lt refl refl
    (cases (λ x y. max x y < 2) (omega arith) (omega arith) (omega arith) (omega arith))
    (cases (λ x y. min (1 - x) (1 - y) ≡ 1 - max x y) refl refl refl refl) 64

pub twice : (a : ℕ) → a < 2 ^ 64 → complement (complement a) ≡ a
twice a h = omega arith

pub complement_lt : (a : ℕ) → complement a < 2 ^ 64
complement_lt a = omega arith

-- a rotation puts the high bits below the low ones
rotated : (r a : ℕ) → r ≤ 64 → a < 2 ^ 64 → rotl a r ≡ a % 2 ^ (64 - r) * 2 ^ r + a / 2 ^ (64 - r)
rotated r a l h =
    let j = 64 - r in
    let e : j + r ≡ 64 = omega arith in
    let e' : r + j ≡ 64 = omega arith in
    ap (λ (x : ℕ). bit_or x (a / 2 ^ j))
    (ap (λ (n : ℕ). a * 2 ^ r % 2 ^ n) (sym e) ∙ mod-pow-add (a * 2 ^ r) j r
    ∙ ap₂ (λ (x y : ℕ). x % 2 ^ j * 2 ^ r + y) (shl-shr a r) (mul-mod_left a (2 ^ r))
    ∙ add-zero (a % 2 ^ j * 2 ^ r))
    ∙ or_shifted (a % 2 ^ j) r (a / 2 ^ j) (shr_lt r j (subst (λ (n : ℕ). a < 2 ^ n) (sym e') h))

-- a complement in two parts
inverse_parts : (j k hi lo : ℕ) → hi < 2 ^ j → lo < 2 ^ k → inverse (j + k) (hi * 2 ^ k + lo) ≡ inverse j hi * 2 ^ k + inverse k lo
inverse_parts j k hi lo h l =
    let u = inverse j hi in
    let e : 2 ^ j - 1 ≡ hi + u = omega arith in
    let m : (2 ^ j - 1) * 2 ^ k ≡ (hi + u) * 2 ^ k = ap (λ (x : ℕ). x * 2 ^ k) e in
    omega (arith, ones_split j k)

rotl_inverse_at : (j r a : ℕ) → j + r ≡ 64 → a < 2 ^ 64 → rotl (complement a) r ≡ complement (rotl a r)
rotl_inverse_at j r a e h =
    let hi = a / 2 ^ j in
    let lo = a % 2 ^ j in
    let low_lt : lo < 2 ^ j = mod-lt a (pow_pos j) in
    let swap : r + j ≡ 64 = omega arith in
    let high_lt : hi < 2 ^ r = shr_lt r j (subst (λ (n : ℕ). a < 2 ^ n) (sym swap) h) in
    let parts : complement a ≡ inverse r hi * 2 ^ j + inverse j lo =
    ap complement (sym (split a j)) ∙ ap (λ (n : ℕ). inverse n (hi * 2 ^ j + lo)) (sym swap) ∙ inverse_parts r j hi lo high_lt low_lt in
    let lower : inverse j lo < 2 ^ j = ones_sub-lt j lo in
    let at : 64 - r ≡ j = omega arith in
    let l : r ≤ 64 = omega arith in
    rotated r (complement a) l (complement_lt a)
    ∙ ap (λ (n : ℕ). complement a % 2 ^ n * 2 ^ r + complement a / 2 ^ n) at
    ∙ ap (λ (x : ℕ). x % 2 ^ j * 2 ^ r + x / 2 ^ j) parts
    ∙ ap₂ (λ (x y : ℕ). x * 2 ^ r + y) (low (inverse r hi) j lower) (high (inverse r hi) j lower)
    ∙ sym (inverse_parts j r lo hi low_lt high_lt)
    ∙ ap (λ (n : ℕ). inverse n (lo * 2 ^ r + hi)) e
    ∙ sym (ap complement (rotated r a l h ∙ ap (λ (n : ℕ). a % 2 ^ n * 2 ^ r + a / 2 ^ n) at))

pub rotl_inverse : (r a : ℕ) → r ≤ 64 → a < 2 ^ 64 → rotl (complement a) r ≡ complement (rotl a r)
rotl_inverse r a l h = rotl_inverse_at (64 - r) r a (omega arith) h

pub rotl_lt : (r a : ℕ) → a < 2 ^ 64 → rotl a r < 2 ^ 64
rotl_lt r a h =
    or_lt 64 (a * 2 ^ r % 2 ^ 64) (a / 2 ^ (64 - r)) (mod-lt (a * 2 ^ r) (pow_pos 64)) (lt_of_le_of_lt (shr_le a (64 - r)) h)

-- the same by flags
pub shown_xor : (f g : Bool) (a b : ℕ) → a < 2 ^ 64 → b < 2 ^ 64 → shown (differing f g) (bit_xor a b) ≡ bit_xor (shown f a) (shown g b)
shown_xor false false a b h l = refl
shown_xor true false a b h l = sym (xor_inverse a b h l)
shown_xor false true a b h l = sym (xor_comm a (complement b) ∙ xor_inverse b a l h ∙ ap complement (xor_comm b a))
shown_xor true true a b h l =
    sym (xor_comm (complement a) (complement b) ∙ xor_inverse b (complement a) l (complement_lt a)
    ∙ ap complement (xor_comm b (complement a) ∙ xor_inverse a b h l) ∙ twice (bit_xor a b) (xor_lt 64 a b h l))

-- with a second operand that is not complemented
shown_plain : (f : Bool) (a b : ℕ) → a < 2 ^ 64 → b < 2 ^ 64 → shown f (bit_xor a b) ≡ bit_xor (shown f a) b
shown_plain false a b h l = refl
shown_plain true a b h l = sym (xor_inverse a b h l)

pub shown_rotl : (f : Bool) (r a : ℕ) → r ≤ 64 → a < 2 ^ 64 → shown f (rotl a r) ≡ rotl (shown f a) r
shown_rotl false r a l h = refl
shown_rotl true r a l h = sym (rotl_inverse r a l h)

-- ---- what a round's functions compute

pub parity_shown : {a b c d e : ℕ} → a < 2 ^ 64 → b < 2 ^ 64 → c < 2 ^ 64 → d < 2 ^ 64 → e < 2 ^ 64
    → Parity a b c d e (bit_xor (bit_xor (bit_xor (bit_xor a b) c) d) e)
parity_shown {a} {b} {c} {d} {e} ha hb hc hd he =
    let ab = bit_xor a b in
    let abc = bit_xor ab c in
    let hab = xor_lt 64 a b ha hb in
    let habc = xor_lt 64 ab c hab hc in
    record {
      by_flags = λ f g h i j.
          let p = differing f g in
          let q = differing p h in
          shown_xor (differing q i) j (bit_xor abc d) e (xor_lt 64 abc d habc hd) he
          ∙ ap (λ (x : ℕ). bit_xor x (shown j e)) (shown_xor q i abc d habc hd)
          ∙ ap (λ (x : ℕ). bit_xor (bit_xor x (shown i d)) (shown j e)) (shown_xor p h ab c hab hc)
          ∙ ap (λ (x : ℕ). bit_xor (bit_xor (bit_xor x (shown h c)) (shown i d)) (shown j e)) (shown_xor f g a b ha hb);
    }

pub beside_shown : {before after turned : ℕ} → before < 2 ^ 64 → after < 2 ^ 64 → turned ≡ rotl after 1
    → Beside before after (bit_xor before turned)
beside_shown {before} {after} hb ha e = record {
  by_flags = λ f g.
      ap (λ (x : ℕ). shown (differing f g) (bit_xor before x)) e
      ∙ shown_xor f g before (rotl after 1) hb (rotl_lt 1 after ha)
      ∙ ap (bit_xor (shown f before)) (shown_rotl g 1 after (lit≤ tt) ha);
}

-- lane i with the sum beside its column, turned
pub brought : (i : ℕ) {a d b : ℕ} → get_or rotations i 0 ≤ 64 → a < 2 ^ 64 → d < 2 ^ 64 → b ≡ rotl (bit_xor a d) (get_or rotations i 0)
    → shown (differing (get_or hidden i false) (get_or sided (i % 5) false)) b
    ≡ rotl (bit_xor (shown (get_or hidden i false) a) (shown (get_or sided (i % 5) false) d)) (get_or rotations i 0)
brought i {a} {d} l ha hd e =
    let f = get_or hidden i false in
    let g = get_or sided (i % 5) false in
    let r = get_or rotations i 0 in
    ap (shown (differing f g)) e ∙ shown_rotl (differing f g) r (bit_xor a d) l (xor_lt 64 a d ha hd)
    ∙ ap (λ (x : ℕ). rotl x r) (shown_xor f g a d ha hd)

-- χ on lanes of which some are complemented. It complements its second operand: so `&` meets a second operand that is
-- complemented, and `|` a third one, with one complement more in the result.
abbrev pub mixed : ℕ → ℕ → ℕ → ℕ
mixed a b c = bit_xor a (bit_and (complement b) c)

module _ (f : Bool) {a b c : ℕ} (ha : a < 2 ^ 64) (hb : b < 2 ^ 64) (hc : c < 2 ^ 64) where
  pub by_neither : shown f (mixed a b c) ≡ mixed (shown f a) b c
  by_neither = shown_plain f a (bit_and (complement b) c) ha (and_lt 64 (complement b) c (complement_lt b) hc)

  pub by_and : shown f (bit_xor a (bit_and b c)) ≡ mixed (shown f a) (complement b) c
  by_and =
      shown_plain f a (bit_and b c) ha (and_lt 64 b c hb hc) ∙ ap (λ (x : ℕ). bit_xor (shown f a) (bit_and x c)) (sym (twice b hb))

  pub by_or : shown (differing f true) (bit_xor a (bit_or b c)) ≡ mixed (shown f a) b (complement c)
  by_or =
      shown_xor f true a (bit_or b c) ha (or_lt 64 b c hb hc) ∙ ap (bit_xor (shown f a)) (sym (and_inverse b c hb hc))

pub by_or_not : (f : Bool) {a b c : ℕ} → a < 2 ^ 64 → b < 2 ^ 64 → c < 2 ^ 64
    → shown (differing f true) (bit_xor a (bit_or b (complement c))) ≡ mixed (shown f a) b c
by_or_not f {a} {b} {c} ha hb hc =
    by_or f ha hb (complement_lt c) ∙ ap (mixed (shown f a) b) (twice c hc)

pub by_or_first : {a b c : ℕ} → a < 2 ^ 64 → b < 2 ^ 64 → c < 2 ^ 64 → bit_xor (complement a) (bit_or b c) ≡ mixed a b (complement c)
by_or_first {a} {b} {c} ha hb hc = by_or true (complement_lt a) hb hc ∙ ap (λ (x : ℕ). mixed x b (complement c)) (twice a ha)
