-- Numbers in decimal, as bytes: no leading zero and no sign (document 01, "Profile line").
-- Assumes nothing.
use Rattle.std.specs.Prelude.{Bool, cond, ◌&&◌, List, [], ◌∷◌, ◌++◌, ℕ, zero, suc, ◌+◌, ◌-◌, ◌*◌, ◌/◌, ◌%◌, min, ◌≤◌, ◌≡◌, leb, ltb, length, drop}
use Rattle.std.proofs.lemmas.List.Edits.{sets}
use Rattle.decimal.specs.declared.Number.{Number}

-- the byte of a digit: `0` is 48
abbrev pub digit : ℕ → ℕ
digit d = 48 + d

-- the last `most` digits of n, or all of them where there are no more
unfoldable pub last_digits : ℕ → ℕ → List ℕ
last_digits zero n = []
last_digits (suc most) n =
    let longer : List ℕ = last_digits most (n / 10) ++ digit (n % 10) ∷ [] in
    cond (ltb n 10) (digit n ∷ []) longer

-- n in decimal: below 10 its digit, else its tenth in decimal and then its last digit. n has at most n + 1 digits.
unfoldable pub decimal : ℕ → List ℕ
decimal n = last_digits (suc n) n

abbrev pub is_digit : ℕ → Bool
is_digit b = leb 48 b && leb b 57

-- the digits with which a list of bytes begins
unfoldable pub leading_digits : List ℕ → List ℕ
leading_digits [] = []
leading_digits (b ∷ bs) = cond (is_digit b) (b ∷ leading_digits bs) []

-- the number that digits spell after the number n; above `most` it stays at `most`, however many digits follow
unfoldable pub value_from : ℕ → ℕ → List ℕ → ℕ
value_from most n [] = n
value_from most n (b ∷ bs) = value_from most (min most (n * 10 + (b - 48))) bs

-- the largest number that a u32 holds
abbrev pub largest : ℕ
largest = 4294967295

-- the number with which a list of bytes begins, 0 where it begins with no digit, and what follows it
unfoldable pub leading_number : List ℕ → ℕ
leading_number bs = value_from largest 0 (leading_digits bs)

unfoldable pub after_number : List ℕ → List ℕ
after_number bs = drop (length (leading_digits bs)) bs

-- what was read at a place of a slice: the number there, the place after it, no further than the slice's end
pub record NumberAt (bytes : List ℕ) (at : ℕ) (r : Number) : Type 0 where
  pub value : r.value ≡ leading_number (drop at bytes)
  pub after : drop r.end bytes ≡ after_number (drop at bytes)
  pub within : at ≤ length bytes → r.end ≤ length bytes

-- the same, some bytes behind a place
pub record NumberBehind (bytes : List ℕ) (at skip : ℕ) (r : Number) : Type 0 where
  pub value : r.value ≡ leading_number (drop skip (drop at bytes))
  pub after : drop r.end bytes ≡ after_number (drop skip (drop at bytes))
  pub within : r.end ≤ length bytes

-- some bytes have room in a buffer from a place on
pub record Room (buffer : List ℕ) (at : ℕ) (bytes : List ℕ) : Type 0 where
  pub room : at + length bytes ≤ length buffer

-- they were stored there, and this is the place after them
pub record Appended (old : List ℕ) (at : ℕ) (bytes buffer : List ℕ) (next : ℕ) : Type 0 where
  pub place : next ≡ at + length bytes
  pub stored : buffer ≡ sets old at bytes
