-- The two steps in which a response is made. Assumes nothing.
use mathlib.Core.List.{List, map, zip_with}
use Rattle.std.specs.Prelude.{ℕ, ◌+◌, ◌%◌}
use Rattle.field.specs.Field.{times_power}

-- b times the powers of exponents
unfoldable pub multiplied : ℕ → List ℕ → List ℕ
multiplied b es = map (λ (e : ℕ). times_power e b) es

-- the sums of two vectors
unfoldable pub added : List ℕ → List ℕ → List ℕ
added us xs = zip_with (λ (u x : ℕ). (u + x) % 127) us xs
