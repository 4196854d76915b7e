-- Lengths of vectors made place by place, and of a syndrome.
-- Assumes nothing.
use mathlib.Core.Path.{◌≡◌, refl, ◌∙◌, ap}
use mathlib.Core.List.{List, [], ◌∷◌, zip_with}
use Prim.Native.Nat.{ℕ, suc, ◌-◌}
use native.Mathlib.Omega.{arith}
use lib.ListN.{length, take, drop, length-map, length-drop}
use Rattle.field.specs.Field.{power, times_power, respond, less, minus, plus}
use Rattle.linear.specs.Linear.{powers, scaled, response, transformation, opened, less_times, rows_times, syndrome}

-- of two vectors of one length
pub length_places : (f : ℕ → ℕ → ℕ) (xs ys : List ℕ) (n : ℕ) → length xs ≡ n → length ys ≡ n → length (zip_with f xs ys) ≡ n
unfolding zip_with
length_places f [] ys n a b = a
length_places f (x ∷ xs) [] n a b = b
length_places f (x ∷ xs) (y ∷ ys) n a b =
    omega (arith, length_places f xs ys (length xs) refl (omega arith))

pub length_powers : (es : List ℕ) → length (powers es) ≡ length es
unfolding powers
length_powers es = length-map es power

pub length_scaled : (σ xs : List ℕ) (n : ℕ) → length σ ≡ n → length xs ≡ n → length (scaled σ xs) ≡ n
unfolding scaled
length_scaled = length_places times_power

pub length_response : (β : ℕ) (us es : List ℕ) (n : ℕ) → length us ≡ n → length es ≡ n → length (response β us es) ≡ n
unfolding response
length_response β = length_places (respond β)

pub length_transformation : (key es : List ℕ) (n : ℕ) → length key ≡ n → length es ≡ n → length (transformation key es) ≡ n
unfolding transformation
length_transformation = length_places minus

pub length_opened : (σ es : List ℕ) (n : ℕ) → length σ ≡ n → length es ≡ n → length (opened σ es) ≡ n
unfolding opened
length_opened = length_places plus

pub length_less_times : (β : ℕ) (xs s : List ℕ) (n : ℕ) → length xs ≡ n → length s ≡ n → length (less_times β xs s) ≡ n
unfolding less_times
length_less_times β = length_places (less β)

pub length_rows_times : (k : ℕ) (vs a bs : List ℕ) → length (rows_times k vs a bs) ≡ length bs
unfolding rows_times
length_rows_times k vs a [] = refl
length_rows_times k vs a (b ∷ bs) = ap suc (length_rows_times k (drop k vs) a bs)

-- n − k places, whatever the rows are
pub length_syndrome : (k : ℕ) (vs x : List ℕ) → length (syndrome k vs x) ≡ length x - k
unfolding syndrome
length_syndrome k vs x = length_rows_times k vs (take k x) (drop k x) ∙ length-drop k x
