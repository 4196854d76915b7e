-- The one relation behind both halves of duty 3: a vector is another one plus β times a third, modulo 127, place by
-- place. The syndrome keeps it, since it is linear.
-- Assumes nothing.
use mathlib.Core.Path.{◌≡◌, refl, ◌∙◌, sym, ap}
use mathlib.Core.List.{List, [], ◌∷◌, zip_with}
use Prim.Native.Nat.{ℕ, zero, suc, ◌+◌, ◌*◌, ◌%◌}
use native.Mathlib.Nat.{mod-mod}
use native.Mathlib.Omega.{arith}
use lib.ListN.{length, take, drop}
use Rattle.field.proofs.Congruence.{plus_congruent, times_congruent}
use Rattle.field.proofs.Place.{scaled_response}
use Rattle.linear.specs.Linear.{powers, scaled, response, opened, dot, rows_times, syndrome}

-- x is w + β g
pub data Combined (β : ℕ) : List ℕ → List ℕ → List ℕ → Type 0 where
  none : Combined β [] [] []
  more : {x w g : ℕ} {xs ws gs : List ℕ} → x % 127 ≡ (w + β * g) % 127 → Combined β xs ws gs
      → Combined β (x ∷ xs) (w ∷ ws) (g ∷ gs)

-- the scaled response is the scaled mask values plus β times the powers of the opened exponents
pub combined : (β : ℕ) (σ us es : List ℕ) (n : ℕ) → length σ ≡ n → length us ≡ n → length es ≡ n
    → Combined β (scaled σ (response β us es)) (scaled σ us) (powers (opened σ es))
unfolding zip_with powers scaled response opened
combined β [] us es n a b c = none
combined β (s ∷ σ) [] es n a b c = absurd (omega arith)
combined β (s ∷ σ) (u ∷ us) [] n a b c = absurd (omega arith)
combined β (s ∷ σ) (u ∷ us) (e ∷ es) n a b c =
    more (scaled_response β s u e) (combined β σ us es (length σ) refl (omega arith) (omega arith))

pub combined_take : {β : ℕ} {xs ws gs : List ℕ} (k : ℕ) → Combined β xs ws gs → Combined β (take k xs) (take k ws) (take k gs)
combined_take zero none = none
combined_take (suc k) none = none
combined_take zero (more e c) = none
combined_take (suc k) (more e c) = more e (combined_take k c)

pub combined_drop : {β : ℕ} {xs ws gs : List ℕ} (k : ℕ) → Combined β xs ws gs → Combined β (drop k xs) (drop k ws) (drop k gs)
combined_drop zero none = none
combined_drop (suc k) none = none
combined_drop zero (more e c) = more e c
combined_drop (suc k) (more e c) = combined_drop k c

-- sums of products
sums : (β v w g a b : ℕ) → v * (w + β * g) + (a + β * b) ≡ v * w + a + β * (v * g + b)
sums β v w g a b = omega arith

pub combined_dot : {β : ℕ} {xs ws gs : List ℕ} (vs : List ℕ) → Combined β xs ws gs
    → dot vs xs % 127 ≡ (dot vs ws + β * dot vs gs) % 127
unfolding dot
combined_dot [] c = omega arith
combined_dot (v ∷ vs) none = omega arith
combined_dot {β} (v ∷ vs) (more {x} {w} {g} {xs} {ws} {gs} e c) =
    plus_congruent (v * x) (v * (w + β * g)) (dot vs xs) (dot vs ws + β * dot vs gs)
    (times_congruent v x (w + β * g) e)
    (combined_dot vs c)
    ∙ ap (λ (a : ℕ). a % 127) (sums β v w g (dot vs ws) (dot vs gs))

-- one row: its products, and the identity's place
row : (β v x b w c g : ℕ) → v % 127 ≡ (b + β * c) % 127 → x % 127 ≡ (w + β * g) % 127
    → (v + x) % 127 % 127 ≡ ((b + w) % 127 + β * ((c + g) % 127)) % 127
row β v x b w c g e f =
    mod-mod (v + x) 127
    ∙ plus_congruent v (b + β * c) x (w + β * g) e f
    ∙ ap (λ (a : ℕ). a % 127) (grouped β b c w g)
    ∙ plus_congruent (b + w) ((b + w) % 127) (β * (c + g)) (β * ((c + g) % 127)) (sym (mod-mod (b + w) 127))
    (times_congruent β (c + g) ((c + g) % 127) (sym (mod-mod (c + g) 127)))
  where
    grouped : (β b c w g : ℕ) → (b + β * c) + (w + β * g) ≡ (b + w) + β * (c + g)
    grouped β b c w g = omega arith

-- all rows, and so the syndrome
combined_rows : {β : ℕ} {xs ws gs xs' ws' gs' : List ℕ} (k : ℕ) (vs : List ℕ) → Combined β xs ws gs → Combined β xs' ws' gs'
    → Combined β (rows_times k vs xs xs') (rows_times k vs ws ws') (rows_times k vs gs gs')
unfolding rows_times
combined_rows k vs r none = none
combined_rows {β} {xs} {ws} {gs} k vs r (more {x} {w} {g} e c) =
    more
    (row β (dot (take k vs) xs) x (dot (take k vs) ws) w (dot (take k vs) gs) g (combined_dot (take k vs) r) e)
    (combined_rows k (drop k vs) r c)

pub combined_syndrome : {β : ℕ} {xs ws gs : List ℕ} (k : ℕ) (vs : List ℕ) → Combined β xs ws gs
    → Combined β (syndrome k vs xs) (syndrome k vs ws) (syndrome k vs gs)
unfolding syndrome
combined_syndrome k vs c = combined_rows k vs (combined_take k c) (combined_drop k c)
