-- The library's conversions between a lane and eight bytes are those of the standard. Assumes nothing.
use Rattle.std.proofs.Common.{◌≡◌, ℕ, zero, suc, ◌+◌, ◌*◌, ◌/◌, ◌%◌, ◌^◌, ◌<◌, ◌≤◌, List, [], ◌∷◌, length, get_or, take, drop, refl, sym, ap, ◌∙◌, arith, drop_of_length-le, w64, div-one, pow-suc, drop-drop}
use Rattle.std.proofs.Math.Nat.{div-div-eq-div-mul}
use Rattle.std.specs.Int.{bytes_low_first, to_le_bytes, from_le_bytes}
use Rattle.std.specs.Simd.{first_chunks}
use Rattle.shake.specs.Shake.{little, low_bytes}

little_at : (p : List ℕ) (k : ℕ) → little (drop k p) ≡ get_or p k 0 + 256 * little (drop (suc k) p)
unfolding little
little_at [] zero = refl
little_at [] (suc k) = refl
little_at (b ∷ p) zero = refl
little_at (b ∷ p) (suc k) = little_at p k

pub from_le_bytes_little : (p : List ℕ) → length p ≤ 8 → from_le_bytes w64 p ≡ little p
unfolding little
from_le_bytes_little p h =
    let none : little (drop 8 p) ≡ 0 = ap little (drop_of_length-le p {i = 8} h) in
    omega (
      arith,
      little_at p 0,
      little_at p 1,
      little_at p 2,
      little_at p 3,
      little_at p 4,
      little_at p 5,
      little_at p 6,
      little_at p 7,
    )

low_first : (i n m x : ℕ) → n ≤ m → take n (bytes_low_first i m x) ≡ low_bytes n (x / 256 ^ i)
unfolding low_bytes
low_first i zero m x h = refl
low_first i (suc n) zero x h = absurd (omega arith)
low_first zero (suc n) (suc m) x h = rw (div-one x) (ap (λ (r : List ℕ). x % 256 ∷ r) (low_first 1 n m x (omega arith)))
low_first (suc i) (suc n) (suc m) x h =
    ap (λ (r : List ℕ). x / 256 ^ suc i % 256 ∷ r)
    (low_first (suc (suc i)) n m x (omega arith)
    ∙ ap (low_bytes n) (ap (λ (d : ℕ). x / d) (pow-suc 256 (suc i)) ∙ sym (div-div-eq-div-mul x (256 ^ suc i) 256)))

pub take_to_le_bytes : (n x : ℕ) → n ≤ 8 → take n (to_le_bytes w64 x) ≡ low_bytes n x
take_to_le_bytes n x h = low_first 0 n 8 x h ∙ ap (low_bytes n) (div-one x)

-- chunk k of a part
pub first_chunks_at : (k m : ℕ) (p d : List ℕ) → k < m → get_or (first_chunks 8 m p) k d ≡ take 8 (drop (8 * k) p)
first_chunks_at k zero p d h = absurd (omega arith)
first_chunks_at zero (suc m) p d h = refl
first_chunks_at (suc k) (suc m) p d h =
    let place : 8 + 8 * k ≡ 8 * suc k = omega arith in
    first_chunks_at k m (drop 8 p) d (omega arith) ∙ ap (take 8) (drop-drop (8 * k) 8 p ∙ ap (λ (n : ℕ). drop n p) place)
