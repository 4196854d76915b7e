-- Powers are multiples of 1; responses are sums with multiples.
-- Assumes nothing.
use mathlib.Core.Path.{◌≡◌, refl, ◌∙◌, ap}
use mathlib.Core.List.{List, [], ◌∷◌, map, zip_with}
use Prim.Native.Nat.{ℕ, ◌+◌, ◌%◌, ◌<◌}
use native.Mathlib.Omega.{arith}
use lib.Dec.{T}
use Rattle.packing.specs.Packing.{all_below}
use Rattle.packing.proofs.Below.{Below, none, more, below}
use Rattle.field.specs.Field.{power, times_power, respond}
use Rattle.field.proofs.Products.{power_value}
use Rattle.linear.specs.Linear.{powers, response}
use Rattle.linear.specs.InnerSteps.{multiplied, added}

-- maps of two functions that agree below a limit
map_below : (m : ℕ) (f g : ℕ → ℕ) → ((x : ℕ) → x < m → f x ≡ g x) → (xs : List ℕ) → Below m xs → map f xs ≡ map g xs
map_below m f g same [] none = refl
map_below m f g same (x ∷ xs) (more h b) =
    ap (λ (y : ℕ). y ∷ map f xs) (same x h) ∙ ap (λ (ys : List ℕ). g x ∷ ys) (map_below m f g same xs b)

pub below_multiplied : (b : ℕ) (es : List ℕ) → Below 127 (multiplied b es)
unfolding multiplied
below_multiplied b [] = none
below_multiplied b (e ∷ es) = more {x = times_power e b} (omega arith) (below_multiplied b es)

pub powers_multiplied : (es : List ℕ) → T (all_below 7 es) → multiplied 1 es ≡ powers es
unfolding multiplied powers
powers_multiplied es low = map_below 7 (λ (e : ℕ). times_power e 1) power power_value es (below 7 es low)

-- at one place
summed : (b u e : ℕ) → (u + times_power e b) % 127 ≡ respond b u e
summed b u e = omega arith

pub response_added : (b : ℕ) (us es : List ℕ) → added us (multiplied b es) ≡ response b us es
unfolding multiplied added response zip_with
response_added b [] es = refl
response_added b (u ∷ us) [] = refl
response_added b (u ∷ us) (e ∷ es) =
    ap (λ (y : ℕ). y ∷ added us (multiplied b es)) (summed b u e) ∙ ap (λ (ys : List ℕ). respond b u e ∷ ys) (response_added b us es)
