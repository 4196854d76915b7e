-- "Packing": fields of a fixed width laid into bytes, from the lowest bit of the first byte upward.
-- A string of fields of width w is a number in base 2 ^ w, the first field lowest; the same number in base 256
-- is the packed string. That field i begins at bit w * i is a law (proofs/Bits).
-- Assumes nothing.
use Rattle.std.specs.Prelude.{Bool, true, false, List, [], ◌∷◌, ℕ, zero, suc, ◌+◌, ◌*◌, ◌/◌, ◌%◌, ◌^◌, ltb, eqb, length}
use Rattle.outcome.specs.Answer.{Check, ◌unless◌, bad_size, bad_field, pick, Answers}

-- the number whose digits in base 2 ^ w are the list, the lowest first
unfoldable pub number : ℕ → List ℕ → ℕ
number w [] = 0
number w (x ∷ xs) = number w xs * 2 ^ w + x

-- the lowest n digits of x in base 2 ^ w, the lowest first
unfoldable pub digits : ℕ → ℕ → ℕ → List ℕ
digits w zero x = []
digits w (suc n) x = (x % 2 ^ w) ∷ digits w n (x / 2 ^ w)

-- how many bytes n fields of width w take
abbrev pub size : ℕ → ℕ → ℕ
size w n = (w * n + 7) / 8

unfoldable pub pack : ℕ → List ℕ → List ℕ
pack w xs = digits 8 (size w (length xs)) (number w xs)

unfoldable pub unpack : ℕ → ℕ → List ℕ → List ℕ
unpack w n bytes = digits w n (number 8 bytes)

-- the bits past the n fields are zero
unfoldable pub spare_zero : ℕ → ℕ → List ℕ → Bool
spare_zero w n bytes = ltb (number 8 bytes) (2 ^ (w * n))

-- every field is below m
unfoldable pub all_below : ℕ → List ℕ → Bool
all_below m [] = true
all_below m (x ∷ xs) = pick (ltb x m) (all_below m xs) false

-- the tests of packing xs into a buffer of some bytes: its size; fields below m
unfoldable pub pack_checks : ℕ → ℕ → List ℕ → ℕ → List Check
pack_checks w m xs bytes =
    bad_size unless eqb bytes (size w (length xs)) ∷
    bad_field unless all_below m xs ∷
    []

-- the tests of unpacking n fields: the size; fields below m; no spare bit of 1
unfoldable pub unpack_checks : ℕ → ℕ → ℕ → List ℕ → List Check
unpack_checks w m n bytes =
    bad_size unless eqb (length bytes) (size w n) ∷
    bad_field unless all_below m (unpack w n bytes) ∷
    bad_field unless spare_zero w n bytes ∷
    []

-- ---- what the entries promise, of a buffer that held `old`: the answer r, and what the buffer holds then

-- packing fields of width w below m, as many as there are
abbrev pub Packs : (w m : ℕ) (fields old : List ℕ) (r : ℕ) (new : List ℕ) → Type 0
Packs w m fields old = Answers (pack_checks w m fields (length old)) (pack w fields) old

-- unpacking as many fields as the buffer has places
abbrev pub Unpacks : (w m : ℕ) (packed old : List ℕ) (r : ℕ) (new : List ℕ) → Type 0
Unpacks w m packed old = Answers (unpack_checks w m (length old) packed) (unpack w (length old) packed) old

-- values have 7 bits and are below 127, exponents 3 bits and below 7
abbrev pub PacksValues : (values old : List ℕ) (r : ℕ) (new : List ℕ) → Type 0
PacksValues = Packs 7 127

abbrev pub UnpacksValues : (packed old : List ℕ) (r : ℕ) (new : List ℕ) → Type 0
UnpacksValues = Unpacks 7 127

abbrev pub PacksExponents : (exponents old : List ℕ) (r : ℕ) (new : List ℕ) → Type 0
PacksExponents = Packs 3 7

abbrev pub UnpacksExponents : (packed old : List ℕ) (r : ℕ) (new : List ℕ) → Type 0
UnpacksExponents = Unpacks 3 7
