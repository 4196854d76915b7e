-- Places of the vectors: values are below 127, exponents below 7.
-- Assumes nothing.
use mathlib.Core.List.{List, [], ◌∷◌, zip_with}
use Prim.Native.Nat.{ℕ, ◌+◌, ◌<◌}
use native.Mathlib.Omega.{arith}
use native.Mathlib.Nat.{mod-lt}
use lib.Dec.{lit<}
use lib.ListN.{take, drop}
use Rattle.packing.proofs.Below.{Below, none, more}
use Rattle.field.specs.Field.{times_power, respond, less, minus, plus}
use Rattle.linear.specs.Linear.{scaled, response, transformation, opened, less_times, dot, rows_times, syndrome}

-- where every result is below m, whatever the places are
pub below_places : (m : ℕ) (f : ℕ → ℕ → ℕ) → ((x y : ℕ) → f x y < m) → (xs ys : List ℕ) → Below m (zip_with f xs ys)
unfolding zip_with
below_places m f h [] ys = none
below_places m f h (x ∷ xs) [] = none
below_places m f h (x ∷ xs) (y ∷ ys) = more (h x y) (below_places m f h xs ys)

pub below_scaled : (σ xs : List ℕ) → Below 127 (scaled σ xs)
unfolding scaled
below_scaled σ xs = below_places 127 times_power (λ x y. omega arith) σ xs

pub below_response : (β : ℕ) (us es : List ℕ) → Below 127 (response β us es)
unfolding response
below_response β us es = below_places 127 (respond β) (λ x y. omega arith) us es

pub below_transformation : (key es : List ℕ) → Below 7 (transformation key es)
unfolding transformation
below_transformation key es = below_places 7 minus (λ x y. omega arith) key es

pub below_opened : (σ es : List ℕ) → Below 7 (opened σ es)
unfolding opened
below_opened σ es = below_places 7 plus (λ x y. omega arith) σ es

pub below_less_times : (β : ℕ) (xs s : List ℕ) → Below 127 (less_times β xs s)
unfolding less_times
below_less_times β xs s = below_places 127 (less β) (λ x y. omega arith) xs s

pub below_rows_times : (k : ℕ) (vs a bs : List ℕ) → Below 127 (rows_times k vs a bs)
unfolding rows_times
below_rows_times k vs a [] = none
below_rows_times k vs a (b ∷ bs) = more (mod-lt (dot (take k vs) a + b) (lit< tt)) (below_rows_times k (drop k vs) a bs)

pub below_syndrome : (k : ℕ) (vs x : List ℕ) → Below 127 (syndrome k vs x)
unfolding syndrome
below_syndrome k vs x = below_rows_times k vs (take k x) (drop k x)
