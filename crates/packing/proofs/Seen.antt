-- The test of unpacked fields: a number that is below 2 ^ w where no field so far was 2 ^ w - 1.
-- Assumes nothing.
use mathlib.Core.Path.{◌≡◌, ◌∙◌, sym, ap}
use mathlib.Core.Bool.{false}
use mathlib.Core.List.{List, [], ◌∷◌}
use Prim.Native.Nat.{ℕ, ◌+◌, ◌-◌, ◌*◌, ◌/◌, ◌%◌, ◌^◌, ◌<◌, ◌≤◌}
use native.Mathlib.Nat.{le_of_eq, div-lt_iff_lt-mul, div-add-mod'}
use native.Mathlib.Omega.{arith}
use borrow.Author.Tests.{lt-ltb}
use lib.Bits.{bit_or, bit_and, or_lt, or_add_and, and_le_r, and_le_l}
use lib.Dec.{T, ltb, ltb→lt, lt→ltb}
use lib.ListN.{length, take, drop, length-drop}
use lib.Seq.{take_all}
use lib.Pow.{pow_pos, pow_mono, pow-add, shr_lt}
use Rattle.outcome.specs.Answer.{pick}
use Rattle.packing.specs.Packing.{number, digits, unpack, spare_zero, all_below}
use Rattle.packing.proofs.Below.{Below, same_test, both, both_hold, and-true, in_a_row, append_test, one_test}
use Rattle.packing.proofs.Base.{digits_join, digits_last, number_drop}
use Rattle.packing.proofs.Groups.{digits_more, digit_small}

-- one field f more
see_one : (w s f : ℕ) → ltb (bit_or s (f + 1)) (2 ^ w) ≡ pick (ltb s (2 ^ w)) (ltb f (2 ^ w - 1)) false
see_one w s f =
    let sums : bit_or s (f + 1) + bit_and s (f + 1) ≡ s + (f + 1) = or_add_and s (f + 1) in
    let left : bit_and s (f + 1) ≤ s = and_le_l s (f + 1) in
    let right : bit_and s (f + 1) ≤ f + 1 = and_le_r s (f + 1) in
    same_test (ltb (bit_or s (f + 1)) (2 ^ w)) (pick (ltb s (2 ^ w)) (ltb f (2 ^ w - 1)) false)
    (λ t.
    let h : bit_or s (f + 1) < 2 ^ w = ltb→lt (bit_or s (f + 1)) (2 ^ w) t in
    both_hold (ltb s (2 ^ w)) (ltb f (2 ^ w - 1)) (lt→ltb s (2 ^ w) (omega arith)) (lt→ltb f (2 ^ w - 1) (omega arith)))
    (λ t.
    let parts : T (ltb s (2 ^ w)) × T (ltb f (2 ^ w - 1)) = both (ltb s (2 ^ w)) (ltb f (2 ^ w - 1)) t in
    let f+1 : f + 1 < 2 ^ w = omega (arith, ltb→lt f (2 ^ w - 1) parts.1) in
    lt→ltb (bit_or s (f + 1)) (2 ^ w) (or_lt w s (f + 1) (ltb→lt s (2 ^ w) parts.0) f+1))

-- a turn over the fields of a number
pub see_more : (w v k seen all left p : ℕ) → left ≡ v / 2 ^ (w * k) → p ≡ 2 ^ w
    → ltb all (2 ^ w) ≡ pick (ltb seen (2 ^ w)) (all_below (2 ^ w - 1) (digits w k v)) false
    → ltb (bit_or all (left % p + 1)) (2 ^ w) ≡ pick (ltb seen (2 ^ w)) (all_below (2 ^ w - 1) (digits w (k + 1) v)) false
see_more w v k seen all left p l q so_far =
    let m : ℕ = 2 ^ w - 1 in
    let f : ℕ = v / 2 ^ (w * k) % 2 ^ w in
    rw (l, q, see_one w all f, so_far, digits_more w k v, append_test m (digits w k v) (f ∷ []), one_test m f)
    (sym (in_a_row (ltb seen (2 ^ w)) (all_below m (digits w k v)) (ltb f m)))

pub see_none : (w v seen : ℕ) → ltb seen (2 ^ w) ≡ pick (ltb seen (2 ^ w)) (all_below (2 ^ w - 1) (digits w 0 v)) false
unfolding digits all_below
see_none w v seen = sym (and-true (ltb seen (2 ^ w)))

pub see_fits : (w all left p : ℕ) → w ≤ 8 → p ≡ 2 ^ w → all < 512 → bit_or all (left % p + 1) < 512
see_fits w all left p h q l =
    or_lt 9 all (left % p + 1) l (omega (arith, digit_small w left p h q))

-- a turn over whole groups of w bytes, which are eight fields each
pub see_group : (w : ℕ) {s : List ℕ} (g v seen r : ℕ) → Below 256 s → v ≡ number 8 (take w (drop (g * w) s))
    → ltb seen (2 ^ w) ≡ all_below (2 ^ w - 1) (digits w (g * 8) (number 8 s))
    → ltb r (2 ^ w) ≡ pick (ltb seen (2 ^ w)) (all_below (2 ^ w - 1) (digits w 8 v)) false
    → ltb r (2 ^ w) ≡ all_below (2 ^ w - 1) (digits w ((g + 1) * 8) (number 8 s))
see_group w {s} g v seen r b q so_far now =
    let m : ℕ = 2 ^ w - 1 in
    let bits : 8 * (g * w) ≡ w * (g * 8) = omega arith in
    let next : (g + 1) * 8 ≡ g * 8 + 8 = omega arith in
    now
    ∙ rw (so_far, q, next, digits_join 8 w (g * w) (g * 8) w 8 b bits (omega arith))
    (sym (append_test m (digits w (g * 8) (number 8 s)) (digits w 8 (number 8 (take w (drop (g * w) s))))))

pub see_no_group : (w : ℕ) (s : List ℕ) → ltb 0 (2 ^ w) ≡ all_below (2 ^ w - 1) (digits w (0 * 8) (number 8 s))
unfolding digits all_below
see_no_group w s = lt-ltb 0 (2 ^ w) (pow_pos w)

-- fields that stand unpacked, of which x is the largest
pub see_largest : (w x : ℕ) (xs : List ℕ) → 0 < w → ((m : ℕ) → 0 < m → ltb x m ≡ all_below m xs)
    → ltb (x + 1) (2 ^ w) ≡ all_below (2 ^ w - 1) xs
see_largest w x xs h largest =
    let two : 2 ≤ 2 ^ w = pow_mono h in
    same_test (ltb (x + 1) (2 ^ w)) (ltb x (2 ^ w - 1))
    (λ t. lt→ltb x (2 ^ w - 1) (omega (arith, ltb→lt (x + 1) (2 ^ w) t)))
    (λ t. lt→ltb (x + 1) (2 ^ w) (omega (arith, ltb→lt x (2 ^ w - 1) t)))
    ∙ largest (2 ^ w - 1) (omega arith)

-- a number has at most j + k bits where it has at most j without its k lowest
shift_test : (x j k : ℕ) → ltb x (2 ^ (j + k)) ≡ ltb (x / 2 ^ k) (2 ^ j)
shift_test x j k =
    same_test (ltb x (2 ^ (j + k))) (ltb (x / 2 ^ k) (2 ^ j))
    (λ t. lt→ltb (x / 2 ^ k) (2 ^ j) (shr_lt j k (ltb→lt x (2 ^ (j + k)) t)))
    (λ t.
    lt→ltb x (2 ^ (j + k))
    (rw (pow-add 2 j k) ((div-lt_iff_lt-mul (pow_pos k)).0 (ltb→lt (x / 2 ^ k) (2 ^ j) t))))

-- ---- the fields past the whole groups, of which v is the number

module _ (w n : ℕ) {s : List ℕ} (b : Below 256 s) (v : ℕ)
    (q : v ≡ number 8 (take (length s - n / 8 * w) (drop (n / 8 * w) s))) where
  whole : n / 8 * 8 + n % 8 ≡ n
  whole = div-add-mod' n 8

  rest : v ≡ number 8 (drop (n / 8 * w) s)
  rest = q ∙ ap (number 8) (take_all (length s - n / 8 * w) (drop (n / 8 * w) s) (le_of_eq (length-drop (n / 8 * w) s)))

  pub see_rest : (seen r : ℕ)
      → ltb seen (2 ^ w) ≡ all_below (2 ^ w - 1) (digits w (n / 8 * 8) (number 8 s))
      → ltb r (2 ^ w) ≡ pick (ltb seen (2 ^ w)) (all_below (2 ^ w - 1) (digits w (n % 8) v)) false
      → ltb r (2 ^ w) ≡ all_below (2 ^ w - 1) (unpack w n s)
  unfolding unpack
  see_rest seen r so_far now =
      let m : ℕ = 2 ^ w - 1 in
      let bits : 8 * (n / 8 * w) ≡ w * (n / 8 * 8) = omega arith in
      now
      ∙ rw (so_far, rest)
      (sym (append_test m (digits w (n / 8 * 8) (number 8 s)) (digits w (n % 8) (number 8 (drop (n / 8 * w) s)))))
      ∙ ap (all_below m) (sym (digits_last 8 w (n / 8 * w) (n / 8 * 8) (n % 8) b bits))
      ∙ ap (λ (k : ℕ). all_below m (digits w k (number 8 s))) whole

  -- the bits above their fields are the spare bits of the string
  pub spare_rest : spare_zero w n s ≡ ltb v (2 ^ (n % 8 * w))
  unfolding spare_zero
  spare_rest =
      let bits : w * n ≡ n % 8 * w + 8 * (n / 8 * w) = omega (arith, ap (λ (k : ℕ). w * k) whole) in
      rw (rest, number_drop 8 (n / 8 * w) b, bits) (shift_test (number 8 s) (n % 8 * w) (8 * (n / 8 * w)))
