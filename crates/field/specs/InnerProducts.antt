-- The table of products (document 02, M-102), as it is lent. Assumes nothing.
use Rattle.std.specs.Prelude.{◌≡◌, List, ℕ, ◌+◌, ◌*◌, ◌<◌, get_or}
use Rattle.field.specs.Field.{times_power}

-- each of the 889 products at its place
unfoldable pub Products : List ℕ → Type 0
Products t = (a x : ℕ) → a < 7 → x < 127 → get_or t (a * 127 + x) 0 ≡ times_power a x

-- the products of the value x and each power, by its exponent
unfoldable pub Multiples : ℕ → List ℕ → Type 0
Multiples x t = (a : ℕ) → a < 7 → get_or t a 0 ≡ times_power a x
