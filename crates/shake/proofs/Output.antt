-- What comes out: its length, its prefixes, its bytes, and the output block by block. Assumes nothing.
use mathlib.Core.Path.{◌≡◌, refl, ◌∙◌, sym, ap}
use mathlib.Core.Logic.{⊎_elim}
use mathlib.Core.List.{List, [], ◌∷◌, ◌++◌, append_assoc}
use Prim.Native.Nat.{ℕ, zero, suc, ◌+◌, ◌-◌, ◌*◌, ◌/◌, ◌%◌, ◌<◌, ◌≤◌}
use native.Mathlib.Nat.{eq-zero-or-pos, le_refl, zero-add, mul-zero}
use native.Mathlib.Omega.{arith}
use lib.ListN.{length, get_or, take, drop, replicate, length-append, length-take}
use lib.Seq.{length-take-le, take-take, take-append-le, take-append-add}
use borrow.Rule.Slice.PartMut.{mid_of, put_mid}
use Rattle.std.proofs.lemmas.List.Edits.{length-between}
use Rattle.std.proofs.lemmas.Slice.{take-put_mid}
use Rattle.keccak.specs.Keccak.{keccak_f}
use Rattle.keccak.proofs.Laws.{length_keccak_f}
use Rattle.shake.specs.Shake.{low_bytes, bytes_of, absorb_blocks, squeeze_blocks, squeezed, absorbed, shake, shake128, lanes_of, xor_lanes, padded}
use Rattle.shake.specs.InnerFold.{Bytes}
use Rattle.shake.proofs.Lanes.{bytes_take, bytes_append}

pub length_low_bytes : (n x : ℕ) → length (low_bytes n x) ≡ n
unfolding low_bytes
length_low_bytes zero x = refl
length_low_bytes (suc n) x = ap suc (length_low_bytes n (x / 256))

pub length_bytes_of : (s : List ℕ) → length (bytes_of s) ≡ 8 * length s
unfolding bytes_of
length_bytes_of [] = refl
length_bytes_of (x ∷ s) =
    length-append (low_bytes 8 x) (bytes_of s) ∙ omega (arith, length_low_bytes 8 x, length_bytes_of s)

take_low_bytes : (j n x : ℕ) → j ≤ n → take j (low_bytes n x) ≡ low_bytes j x
unfolding low_bytes
take_low_bytes zero n x h = refl
take_low_bytes (suc j) zero x h = absurd (omega arith)
take_low_bytes (suc j) (suc n) x h = ap (λ (r : List ℕ). x % 256 ∷ r) (take_low_bytes j n (x / 256) (omega arith))

-- the bytes up to place j of lane k
pub take_bytes_of : (s : List ℕ) (k j : ℕ) → k < length s → j ≤ 8
    → take (8 * k + j) (bytes_of s) ≡ take (8 * k) (bytes_of s) ++ low_bytes j (get_or s k 0)
unfolding bytes_of
take_bytes_of [] k j h g = absurd (omega arith)
take_bytes_of (x ∷ s) zero j h g =
    simp (mul-zero, zero-add)
    (take-append-le j (low_bytes 8 x) (bytes_of s) (omega (arith, length_low_bytes 8 x)) ∙ take_low_bytes j 8 x g)
take_bytes_of (x ∷ s) (suc k) j h g =
    let past : (n : ℕ) → take (8 + n) (low_bytes 8 x ++ bytes_of s) ≡ low_bytes 8 x ++ take n (bytes_of s) =
    λ n. ap (λ (l : ℕ). take (l + n) (low_bytes 8 x ++ bytes_of s)) (sym (length_low_bytes 8 x)) ∙ take-append-add (low_bytes 8 x) (bytes_of s) n in
    let lane : 8 * suc k + j ≡ 8 + (8 * k + j) = omega arith in
    let start : 8 * suc k ≡ 8 + 8 * k = omega arith in
    ap (λ (n : ℕ). take n (low_bytes 8 x ++ bytes_of s)) lane
    ∙ past (8 * k + j)
    ∙ ap (λ (r : List ℕ). low_bytes 8 x ++ r) (take_bytes_of s k j (omega arith) g)
    ∙ sym (append_assoc (low_bytes 8 x) (take (8 * k) (bytes_of s)) (low_bytes j (get_or s k 0)))
    ∙ ap (λ (r : List ℕ). r ++ low_bytes j (get_or s k 0)) (sym (ap (λ (n : ℕ). take n (low_bytes 8 x ++ bytes_of s)) start ∙ past (8 * k)))

-- the bytes of lane k, up to place e of the state
pub put_bytes : (s : List ℕ) (k e : ℕ) (out ys : List ℕ) → k < length s → 8 * k ≤ e → e ≤ 8 * k + 8 → e ≤ length out
    → take (8 * k) out ≡ take (8 * k) (bytes_of s) → ys ≡ low_bytes (length (mid_of (8 * k) (e - 8 * k) out)) (get_or s k 0)
    → take e (put_mid (8 * k) (e - 8 * k) out ys) ≡ take e (bytes_of s)
put_bytes s k e out ys inside h g room done lane =
    let n = e - 8 * k in
    let written : ys ≡ low_bytes n (get_or s k 0) = lane ∙ ap (λ (j : ℕ). low_bytes j (get_or s k 0)) (length-between out (8 * k) e room) in
    let place : 8 * k + n ≡ e = omega arith in
    take-put_mid (8 * k) n out ys e (omega (arith, ap length written, length_low_bytes n (get_or s k 0))) (omega arith)
    ∙ ap (λ (r : List ℕ). r ++ ys) done
    ∙ ap (λ (r : List ℕ). take (8 * k) (bytes_of s) ++ r) written
    ∙ sym (take_bytes_of s k n inside (omega arith))
    ∙ ap (λ (j : ℕ). take j (bytes_of s)) place

bytes_low_bytes : (n x : ℕ) → Bytes (low_bytes n x)
unfolding low_bytes
bytes_low_bytes zero x i = omega arith
bytes_low_bytes (suc n) x zero = omega arith
bytes_low_bytes (suc n) x (suc i) = bytes_low_bytes n (x / 256) i

bytes_bytes_of : (s : List ℕ) → Bytes (bytes_of s)
unfolding bytes_of
bytes_bytes_of [] = λ i. omega arith
bytes_bytes_of (x ∷ s) = bytes_append (low_bytes 8 x) (bytes_of s) (bytes_low_bytes 8 x) (bytes_bytes_of s)

bytes_squeeze_blocks : (rate n : ℕ) (s : List ℕ) → Bytes (squeeze_blocks rate n s)
unfolding squeeze_blocks
bytes_squeeze_blocks rate zero s = λ i. omega arith
bytes_squeeze_blocks rate (suc n) s =
    bytes_append (take rate (bytes_of s)) (squeeze_blocks rate n (keccak_f s))
    (bytes_take rate (bytes_of s) (bytes_bytes_of s)) (bytes_squeeze_blocks rate n (keccak_f s))

pub bytes_shake : (rate : ℕ) (m : List ℕ) (d : ℕ) → Bytes (shake rate m d)
unfolding shake squeezed
bytes_shake rate m d = bytes_take d (squeeze_blocks rate d (absorbed rate m)) (bytes_squeeze_blocks rate d (absorbed rate m))

-- ---- blocks

module _ (rate : ℕ) (some : 0 < rate) where
  block_some : (s : List ℕ) → length s ≡ 25 → 0 < length (take rate (bytes_of s))
  block_some s e = omega (arith, length-take rate (bytes_of s), length_bytes_of s)

  squeeze_blocks_long : (n : ℕ) (s : List ℕ) → length s ≡ 25 → n ≤ length (squeeze_blocks rate n s)
  unfolding squeeze_blocks
  squeeze_blocks_long zero s e = omega arith
  squeeze_blocks_long (suc n) s e =
      omega (
        arith,
        length-append (take rate (bytes_of s)) (squeeze_blocks rate n (keccak_f s)),
        block_some s e,
        squeeze_blocks_long n (keccak_f s) (length_keccak_f s),
      )

  -- more blocks than enough change nothing
  squeeze_blocks_enough : (n d k : ℕ) (s : List ℕ) → length s ≡ 25 → d ≤ n → d ≤ k
      → take d (squeeze_blocks rate n s) ≡ take d (squeeze_blocks rate k s)
  unfolding squeeze_blocks
  squeeze_blocks_enough zero zero k s e hn hk = refl
  squeeze_blocks_enough zero (suc d) k s e hn hk = absurd (omega arith)
  squeeze_blocks_enough (suc n) zero k s e hn hk = refl
  squeeze_blocks_enough (suc n) (suc d) zero s e hn hk = absurd (omega arith)
  squeeze_blocks_enough (suc n) (suc d) (suc k) s e hn hk =
      let block = take rate (bytes_of s) in
      let xs = squeeze_blocks rate n (keccak_f s) in
      let ys = squeeze_blocks rate k (keccak_f s) in
      let some_in = block_some s e in
      ⊎_elim
      (λ (h : suc d - length block ≡ 0).
      let inside : suc d ≤ length block = omega arith in
      take-append-le (suc d) block xs inside ∙ sym (take-append-le (suc d) block ys inside))
      (λ (h : 0 < suc d - length block).
      let j = suc d - length block in
      let sum : suc d ≡ length block + j = omega arith in
      rw sum
      (take-append-add block xs j
      ∙ ap (λ (r : List ℕ). block ++ r) (squeeze_blocks_enough n j k (keccak_f s) (length_keccak_f s) (omega arith) (omega arith))
      ∙ sym (take-append-add block ys j)))
      (eq-zero-or-pos (suc d - length block))

  length_squeezed : (d : ℕ) (s : List ℕ) → length s ≡ 25 → length (squeezed rate d s) ≡ d
  unfolding squeezed
  length_squeezed d s e = length-take-le d (squeeze_blocks rate d s) (squeeze_blocks_long d s e)

  squeezed_prefix : (d j : ℕ) (s : List ℕ) → length s ≡ 25 → take d (squeezed rate (d + j) s) ≡ squeezed rate d s
  unfolding squeezed
  squeezed_prefix d j s e =
      take-take d (d + j) (squeeze_blocks rate (d + j) s) (omega arith)
      ∙ squeeze_blocks_enough (d + j) d d s e (omega arith) (le_refl d)

  -- the last block, and a whole block before others
  pub squeezed_last : (d : ℕ) (s : List ℕ) → length s ≡ 25 → rate ≤ 200 → d ≤ rate → squeezed rate d s ≡ take d (bytes_of s)
  unfolding squeezed squeeze_blocks
  squeezed_last zero s e fits h = refl
  squeezed_last (suc d) s e fits h =
      take-append-le (suc d) (take rate (bytes_of s)) (squeeze_blocks rate d (keccak_f s))
      (omega (arith, length-take rate (bytes_of s), length_bytes_of s))
      ∙ take-take (suc d) rate (bytes_of s) h

  pub squeezed_more : (j : ℕ) (s : List ℕ) → length s ≡ 25 → rate ≤ 200
      → squeezed rate (rate + j) s ≡ take rate (bytes_of s) ++ squeezed rate j (keccak_f s)
  unfolding squeezed squeeze_blocks
  squeezed_more j s e fits =
      let block = take rate (bytes_of s) in
      let size : length block ≡ rate = length-take-le rate (bytes_of s) (omega (arith, length_bytes_of s)) in
      let others = squeeze_blocks rate (rate + j - 1) (keccak_f s) in
      let more : rate + j ≡ suc (rate + j - 1) = omega arith in
      ap (λ (n : ℕ). take (rate + j) (squeeze_blocks rate n s)) more
      ∙ ap (λ (n : ℕ). take (n + j) (block ++ others)) (sym size)
      ∙ take-append-add block others j
      ∙ ap (λ (r : List ℕ). block ++ r) (squeeze_blocks_enough (rate + j - 1) j j (keccak_f s) (length_keccak_f s) (omega arith) (le_refl j))

  -- a block is written and others are left; the last block is written
  pub put_block : (i n : ℕ) (s out ys : List ℕ) → length s ≡ 25 → rate ≤ 200 → i + rate ≤ n → n ≤ length out
      → ys ≡ take (length (mid_of i (i + rate - i) out)) (bytes_of s)
      → take (i + rate) (put_mid i (i + rate - i) out ys) ++ squeezed rate (n - (i + rate)) (keccak_f s) ≡ take i out ++ squeezed rate (n - i) s
  put_block i n s out ys e fits h g block =
      let size : length (mid_of i (i + rate - i) out) ≡ rate = length-between out i (i + rate) (omega arith) ∙ omega arith in
      let written : ys ≡ take rate (bytes_of s) = block ∙ ap (λ (j : ℕ). take j (bytes_of s)) size in
      let long : length ys ≡ rate = ap length written ∙ length-take-le rate (bytes_of s) (omega (arith, length_bytes_of s)) in
      let left = n - (i + rate) in
      let sum : rate + left ≡ n - i = omega arith in
      ap (λ (r : List ℕ). r ++ squeezed rate left (keccak_f s)) (take-put_mid i (i + rate - i) out ys (i + rate) (omega arith) (omega arith))
      ∙ append_assoc (take i out) ys (squeezed rate left (keccak_f s))
      ∙ ap (λ (r : List ℕ). take i out ++ r)
      (ap (λ (r : List ℕ). r ++ squeezed rate left (keccak_f s)) written ∙ sym (squeezed_more left s e fits) ∙ ap (λ (j : ℕ). squeezed rate j s) sum)

  pub put_last : (i n : ℕ) (s out ys : List ℕ) → length s ≡ 25 → rate ≤ 200 → i ≤ n → n - i ≤ rate → n ≤ length out
      → ys ≡ take (length (mid_of i (n - i) out)) (bytes_of s)
      → take n (put_mid i (n - i) out ys) ≡ take i out ++ squeezed rate (n - i) s
  put_last i n s out ys e fits h last g block =
      let written : ys ≡ take (n - i) (bytes_of s) = block ∙ ap (λ (j : ℕ). take j (bytes_of s)) (length-between out i n g) in
      let long : length ys ≡ n - i = ap length written ∙ length-take-le (n - i) (bytes_of s) (omega (arith, length_bytes_of s)) in
      take-put_mid i (n - i) out ys n (omega arith) (omega arith)
      ∙ ap (λ (r : List ℕ). take i out ++ r) (written ∙ sym (squeezed_last (n - i) s e fits last))

-- ---- the laws of SHAKE's output

length_absorb_blocks : (rate n : ℕ) (s p : List ℕ) → length s ≡ 25 → length (absorb_blocks rate n s p) ≡ 25
unfolding absorb_blocks
length_absorb_blocks rate zero s p e = e
length_absorb_blocks rate (suc n) s p e =
    let next = xor_lanes s (lanes_of 25 (take rate p)) in
    length_absorb_blocks rate n (keccak_f next) (drop rate p) (length_keccak_f next)

pub length_absorbed : (rate : ℕ) (m : List ℕ) → length (absorbed rate m) ≡ 25
unfolding absorbed
length_absorbed rate m = length_absorb_blocks rate (length (padded rate m) / rate) (replicate 25 0) (padded rate m) refl

pub length_shake : (rate : ℕ) (m : List ℕ) (d : ℕ) → 0 < rate → length (shake rate m d) ≡ d
unfolding shake
length_shake rate m d some = length_squeezed rate some d (absorbed rate m) (length_absorbed rate m)

-- a shorter output is the start of a longer one
pub shake_prefix : (rate : ℕ) (m : List ℕ) (d j : ℕ) → 0 < rate → take d (shake rate m (d + j)) ≡ shake rate m d
unfolding shake
shake_prefix rate m d j some = squeezed_prefix rate some d j (absorbed rate m) (length_absorbed rate m)

pub length_shake128 : (m : List ℕ) (d : ℕ) → length (shake128 m d) ≡ d
unfolding shake128
length_shake128 m d = length_shake 168 m d (omega arith)
