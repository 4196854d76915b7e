-- Packing and unpacking undo each other, for every width; the sizes, and what the fields and bytes are below.
-- Assumes nothing.
use mathlib.Core.Path.{◌≡◌, ◌∙◌, sym, ap}
use mathlib.Core.Bool.{true}
use mathlib.Core.List.{List}
use Prim.Native.Nat.{ℕ, ◌*◌, ◌/◌, ◌%◌, ◌^◌, ◌<◌, ◌≤◌}
use native.Mathlib.Nat.{mod-eq_of_lt, lt_of_lt_of_le}
use borrow.Author.Tests.{lt-ltb}
use lib.Dec.{T, ltb→lt}
use lib.ListN.{length, get_or}
use lib.Pow.{pow_mono}
use Rattle.packing.specs.Packing.{number, size, pack, unpack, spare_zero, all_below}
use Rattle.packing.proofs.Below.{Below, below, below_le}
use Rattle.packing.proofs.Sizes.{size_enough}
use Rattle.packing.proofs.Base.{length_digits, digits_below, digits_at, number_below, number_digits, digits_number}

-- ---- sizes and ranges

pub length_pack : (w : ℕ) (xs : List ℕ) → length (pack w xs) ≡ size w (length xs)
unfolding pack
length_pack w xs = length_digits 8 (size w (length xs)) (number w xs)

pub length_unpack : (w n : ℕ) (bytes : List ℕ) → length (unpack w n bytes) ≡ n
unfolding unpack
length_unpack w n bytes = length_digits w n (number 8 bytes)

pub pack_below : (w : ℕ) (xs : List ℕ) → Below 256 (pack w xs)
unfolding pack
pack_below w xs = digits_below 8 (size w (length xs)) (number w xs)

pub unpack_below : (w n : ℕ) (bytes : List ℕ) → Below (2 ^ w) (unpack w n bytes)
unfolding unpack
unpack_below w n bytes = digits_below w n (number 8 bytes)

-- field i begins at bit w * i of the bytes, and has w bits
pub unpack_at : (w n : ℕ) (bytes : List ℕ) (i : ℕ) → i < n
    → get_or (unpack w n bytes) i 0 ≡ number 8 bytes / 2 ^ (w * i) % 2 ^ w
unfolding unpack
unpack_at w n bytes i h = digits_at w n (number 8 bytes) i h

-- ---- the number of the packed bytes is that of the fields

pub number_pack : (w : ℕ) {xs : List ℕ} → Below (2 ^ w) xs → number 8 (pack w xs) ≡ number w xs
unfolding pack
number_pack w {xs} b =
    number_digits 8 (size w (length xs)) (number w xs)
    ∙ mod-eq_of_lt (lt_of_lt_of_le (number_below w b) (pow_mono (size_enough w (length xs))))

pub number_unpack : (w n : ℕ) (bytes : List ℕ) → T (spare_zero w n bytes) → number w (unpack w n bytes) ≡ number 8 bytes
unfolding unpack spare_zero
number_unpack w n bytes t = number_digits w n (number 8 bytes) ∙ mod-eq_of_lt (ltb→lt _ _ t)

-- packing leaves the spare bits zero
pub pack_spare : (w : ℕ) {xs : List ℕ} → Below (2 ^ w) xs → spare_zero w (length xs) (pack w xs) ≡ true
unfolding spare_zero
pack_spare w {xs} b = rw (number_pack w b) (lt-ltb _ _ (number_below w b))

-- ---- there and back

pub unpack_pack_below : (w : ℕ) {xs : List ℕ} → Below (2 ^ w) xs → unpack w (length xs) (pack w xs) ≡ xs
unfolding unpack
unpack_pack_below w b = rw (number_pack w b) (digits_number w b)

pub unpack_pack : (w m : ℕ) (xs : List ℕ) → m ≤ 2 ^ w → T (all_below m xs) → unpack w (length xs) (pack w xs) ≡ xs
unpack_pack w m xs l t = unpack_pack_below w (below_le l (below m xs t))

pub pack_unpack : (w n : ℕ) (bytes : List ℕ) → Below 256 bytes → length bytes ≡ size w n → T (spare_zero w n bytes)
    → pack w (unpack w n bytes) ≡ bytes
unfolding pack
pack_unpack w n bytes b e t =
    rw (length_unpack w n bytes, number_unpack w n bytes t, ← e) (digits_number 8 b)

-- ---- one string of fields has one packed form, and one packed form one string of fields

pub pack_injective : (w : ℕ) {xs ys : List ℕ} → Below (2 ^ w) xs → Below (2 ^ w) ys → length xs ≡ length ys
    → pack w xs ≡ pack w ys → xs ≡ ys
pack_injective w {xs} {ys} b c l e =
    sym (unpack_pack_below w b)
    ∙ ap (λ (n : ℕ). unpack w n (pack w xs)) l
    ∙ ap (λ (bytes : List ℕ). unpack w (length ys) bytes) e
    ∙ unpack_pack_below w c

pub unpack_injective : (w n : ℕ) (bytes other : List ℕ) → Below 256 bytes → Below 256 other
    → length bytes ≡ size w n → length other ≡ size w n → T (spare_zero w n bytes) → T (spare_zero w n other)
    → unpack w n bytes ≡ unpack w n other → bytes ≡ other
unpack_injective w n bytes other b c l k s t e =
    sym (pack_unpack w n bytes b l s) ∙ ap (λ (xs : List ℕ). pack w xs) e ∙ pack_unpack w n other c k t
