-- Vectors place by place, and the syndrome: a vector times H transposed, where H is V followed by the identity.
-- V is the list of its values row by row, each row k long.
-- Assumes nothing.
use mathlib.Core.List.{List, [], ◌∷◌, map, zip_with}
use Rattle.std.specs.Prelude.{ℕ, ◌+◌, ◌*◌, ◌%◌, take, drop}
use Rattle.field.specs.Field.{power, times_power, respond, less, minus, plus}

-- the vector of the powers of exponents
unfoldable pub powers : List ℕ → List ℕ
powers es = map power es

-- 2^σ times x
unfoldable pub scaled : List ℕ → List ℕ → List ℕ
scaled σ xs = zip_with times_power σ xs

-- y = u' + β · 2^e'
unfoldable pub response : ℕ → List ℕ → List ℕ → List ℕ
response β us es = zip_with (respond β) us es

-- σ = key exponents minus e' modulo 7
unfoldable pub transformation : List ℕ → List ℕ → List ℕ
transformation key es = zip_with minus key es

-- the sum modulo 7 of a transformation and mask exponents
unfoldable pub opened : List ℕ → List ℕ → List ℕ
opened σ es = zip_with plus σ es

-- x − β · s
unfoldable pub less_times : ℕ → List ℕ → List ℕ → List ℕ
less_times β xs s = zip_with (less β) xs s

-- the plain sum of the products
unfoldable pub dot : List ℕ → List ℕ → ℕ
dot [] ys = 0
dot (x ∷ xs) [] = 0
dot (x ∷ xs) (y ∷ ys) = x * y + dot xs ys

-- for each b the next row of vs times a, plus b: a row of V times the first k places, and the identity's place
unfoldable pub rows_times : ℕ → List ℕ → List ℕ → List ℕ → List ℕ
rows_times k vs a [] = []
rows_times k vs a (b ∷ bs) = ((dot (take k vs) a + b) % 127) ∷ rows_times k (drop k vs) a bs

-- x times H transposed
unfoldable pub syndrome : ℕ → List ℕ → List ℕ → List ℕ
syndrome k vs x = rows_times k vs (take k x) (drop k x)
