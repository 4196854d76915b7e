-- The number form is "from the lowest bit of the first byte upward": bit k of the number is bit k % 8 of byte
-- k / 8, and bit b of field i is bit w * i + b.
-- Assumes nothing.
use mathlib.Core.Path.{◌≡◌, ◌∙◌, sym, ap}
use mathlib.Core.List.{List}
use Prim.Native.Nat.{ℕ, ◌+◌, ◌-◌, ◌*◌, ◌/◌, ◌%◌, ◌^◌, ◌<◌}
use native.Mathlib.Nat.{mod-lt, div-add-mod}
use native.Mathlib.Omega.{arith}
use lib.ListN.{get_or}
use lib.Pow.{shr-shr, field, mod-mod-pow}
use Rattle.packing.specs.Packing.{number, unpack}
use Rattle.packing.proofs.Below.{Below}
use Rattle.packing.proofs.Base.{number_at}
use Rattle.packing.proofs.RoundTrip.{unpack_at}

abbrev pub bit : ℕ → ℕ → ℕ
bit x k = x / 2 ^ k % 2

-- the bits of a field of width w that begins at bit s
pub bit_field : (w s x b : ℕ) → b < w → bit (x / 2 ^ s % 2 ^ w) b ≡ bit x (s + b)
bit_field w s x b h =
    let w≡ : w ≡ (w - b - 1 + 1) + b = omega arith in
    let y : ℕ = x / 2 ^ s in
    ap (λ (k : ℕ). y % 2 ^ k / 2 ^ b % 2) w≡
    ∙ ap (λ (z : ℕ). z % 2) (field y (w - b - 1 + 1) b)
    ∙ mod-mod-pow (y / 2 ^ b) (w - b - 1) 1
    ∙ ap (λ (z : ℕ). z % 2) (shr-shr x s b)

-- bit k of a string's number is bit k % w of field k / w
pub bit_number : (w : ℕ) {xs : List ℕ} → 0 < w → Below (2 ^ w) xs → (k : ℕ)
    → bit (number w xs) k ≡ bit (get_or xs (k / w) 0) (k % w)
bit_number w {xs} h b k =
    ap (bit (number w xs)) (sym (div-add-mod k w))
    ∙ sym (bit_field w (w * (k / w)) (number w xs) (k % w) (mod-lt k h))
    ∙ ap (λ (x : ℕ). bit x (k % w)) (sym (number_at w b (k / w)))

-- of bytes
pub bit_bytes : {bytes : List ℕ} → Below 256 bytes → (k : ℕ) → bit (number 8 bytes) k ≡ bit (get_or bytes (k / 8) 0) (k % 8)
bit_bytes b k = bit_number 8 (omega arith) b k

-- bit b of field i of a packed string is bit w * i + b, counted from the lowest bit of the first byte
pub bit_unpacked : (w n : ℕ) {bytes : List ℕ} → Below 256 bytes → (i b : ℕ) → i < n → b < w
    → bit (get_or (unpack w n bytes) i 0) b ≡ bit (get_or bytes ((w * i + b) / 8) 0) ((w * i + b) % 8)
bit_unpacked w n {bytes} h i b l k =
    ap (λ (x : ℕ). bit x b) (unpack_at w n bytes i l) ∙ bit_field w (w * i) (number 8 bytes) b k ∙ bit_bytes h (w * i + b)
