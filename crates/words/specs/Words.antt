-- Numbers of four bytes, low byte first, as images hold them.
-- Assumes nothing.
use Rattle.std.specs.Prelude.{List, [], ◌∷◌, ℕ, ◌+◌, ◌*◌, ◌/◌, ◌%◌, ◌<◌, get_or}

-- the number that four bytes spell
abbrev pub number : ℕ → ℕ → ℕ → ℕ → ℕ
number a b c d = a + 256 * (b + 256 * (c + 256 * d))

-- the number at a place of an image
unfoldable pub word_at : List ℕ → ℕ → ℕ
word_at image at = number (get_or image at 0) (get_or image (at + 1) 0) (get_or image (at + 2) 0) (get_or image (at + 3) 0)

-- a number's four bytes
abbrev pub word : ℕ → List ℕ
word n = n % 256 ∷ n / 256 % 256 ∷ n / 65536 % 256 ∷ n / 16777216 % 256 ∷ []

-- which numbers have four bytes
abbrev pub Small : ℕ → Type 0
Small n = n < 4294967296
