-- The permutation keeps every lane below 2^64. Assumes nothing.
use mathlib.Core.List.{List, [], ◌∷◌, ◌++◌}
use Prim.Native.Nat.{ℕ, zero, suc, ◌+◌, ◌*◌, ◌%◌, ◌^◌, ◌<◌}
use native.Mathlib.Nat.{mod-lt}
use native.Mathlib.Omega.{arith}
use lib.Bits.{and_lt, xor_lt}
use lib.Dec.{lit<}
use lib.ListN.{get_or, set}
use lib.Pow.{pow_pos}
use Rattle.keccak.specs.Keccak.{lane, row, state, complement, keccak_f, rounds, round, iota, round_constant, constant_bits, rc, chi, pi, rho, offsets, theta, added, beside, parities}
use Rattle.keccak.proofs.Complement.{complement_lt, rotl_lt}

-- every number of the list is below 2^64
abbrev pub Words : List ℕ → Type 0
Words [] = Unit {0}
Words (a ∷ s) = (a < 2 ^ 64) × Words s

pub words_at : (s : List ℕ) → Words s → (i : ℕ) → get_or s i 0 < 2 ^ 64
words_at [] w i = lit< tt
words_at (a ∷ s) w zero = w.0
words_at (a ∷ s) w (suc i) = words_at s w.1 i

words_set : (s : List ℕ) → Words s → (i : ℕ) {v : ℕ} → v < 2 ^ 64 → Words (set s i v)
words_set [] w i h = tt
words_set (a ∷ s) w zero h = (h, w.1)
words_set (a ∷ s) w (suc i) h = (w.0, words_set s w.1 i h)

words_row : (f : ℕ → ℕ) → ((x : ℕ) → f x < 2 ^ 64) → Words (row f)
words_row f h = (h 0, (h 1, (h 2, (h 3, (h 4, tt)))))

words_append : (s t : List ℕ) → Words s → Words t → Words (s ++ t)
words_append [] t v w = w
words_append (a ∷ s) t v w = (v.0, words_append s t v.1 w)

words_state : (f : ℕ → ℕ → ℕ) → ((x y : ℕ) → f x y < 2 ^ 64) → Words (state f)
words_state f h =
    let plane : (y : ℕ) → Words (row (λ x. f x y)) = λ y. words_row (λ x. f x y) (λ x. h x y) in
    let p : ℕ → List ℕ = λ y. row (λ x. f x y) in
    let w1 = words_append (p 0) (p 1) (plane 0) (plane 1) in
    let w2 = words_append (p 0 ++ p 1) (p 2) w1 (plane 2) in
    let w3 = words_append (p 0 ++ p 1 ++ p 2) (p 3) w2 (plane 3) in
    words_append (p 0 ++ p 1 ++ p 2 ++ p 3) (p 4) w3 (plane 4)

-- ---- the steps

rc_lt : (t : ℕ) → rc t < 2
unfolding rc
rc_lt t = mod-lt _ (pow_pos 1)

constant_lt : (k : ℕ) → round_constant k < 2 ^ 64
unfolding round_constant constant_bits
constant_lt k =
    let bit : (j : ℕ) → rc (j + 7 * k) < 2 = λ j. rc_lt (j + 7 * k) in
    omega (arith, bit 0, bit 1, bit 2, bit 3, bit 4, bit 5, bit 6)

module _ (s : List ℕ) (w : Words s) where
  at : (x y : ℕ) → lane s x y < 2 ^ 64
  at x y = words_at s w (x % 5 + 5 * (y % 5))

  words_parities : Words (parities s)
  unfolding parities
  words_parities =
      words_row _ (λ x.
      xor_lt 64 _ _ (xor_lt 64 _ _ (xor_lt 64 _ _ (xor_lt 64 _ _ (at x 0) (at x 1)) (at x 2)) (at x 3)) (at x 4))

  words_beside : Words (beside s)
  unfolding beside
  words_beside =
      words_row _ (λ x. xor_lt 64 _ _ (words_at s w ((x + 4) % 5)) (rotl_lt 1 _ (words_at s w ((x + 1) % 5))))

  words_added : (d : List ℕ) → Words d → Words (added s d)
  unfolding added
  words_added d v = words_state _ (λ x y. xor_lt 64 _ _ (at x y) (words_at d v x))

  words_rho : Words (rho s)
  unfolding rho
  words_rho = words_state _ (λ x y. rotl_lt (lane offsets x y) (lane s x y) (at x y))

  words_pi : Words (pi s)
  unfolding pi
  words_pi = words_state _ (λ x y. at (x + 3 * y) x)

  words_chi : Words (chi s)
  unfolding chi
  words_chi =
      words_state _ (λ x y.
      let b = lane s (x + 1) y in
      xor_lt 64 _ _ (at x y) (and_lt 64 (complement b) (lane s (x + 2) y) (complement_lt b) (at (x + 2) y)))

  words_iota : (k : ℕ) → Words (iota k s)
  unfolding iota
  words_iota k = words_set s w 0 (xor_lt 64 _ _ (at 0 0) (constant_lt k))

words_rounds : (s : List ℕ) → Words s → (k : ℕ) → Words (rounds k s)
unfolding rounds round theta
words_rounds s w zero = w
words_rounds s w (suc k) =
    let r = rounds k s in
    let v = words_rounds s w k in
    let d = beside (parities r) in
    let vt = words_added r v d (words_beside (parities r) (words_parities r v)) in
    let t = added r d in
    words_iota (chi (pi (rho t))) (words_chi (pi (rho t)) (words_pi (rho t) (words_rho t vt))) k

pub words_keccak_f : (s : List ℕ) → Words s → Words (keccak_f s)
unfolding keccak_f
words_keccak_f s w = words_rounds s w 24
