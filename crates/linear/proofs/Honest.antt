-- An honest response: − β s takes the key away, and the syndrome of the scaled mask values is left.
-- Assumes nothing.
use mathlib.Core.Path.{◌≡◌, refl, ◌∙◌, sym}
use mathlib.Core.List.{List, ◌∷◌, zip_with}
use Prim.Native.Nat.{ℕ}
use native.Mathlib.Omega.{arith}
use lib.ListN.{length}
use Rattle.packing.proofs.Below.{Below, none, more}
use Rattle.field.proofs.Place.{plus_minus, less_whole}
use Rattle.linear.specs.Linear.{powers, scaled, response, transformation, opened, less_times, syndrome}
use Rattle.linear.proofs.Sizes.{length_transformation}
use Rattle.linear.proofs.Ranges.{below_syndrome}
use Rattle.linear.proofs.Combined.{Combined, none, more, combined, combined_syndrome}

-- the transformation and the mask exponents open the key exponents
pub opened_transformation : {key es : List ℕ} → Below 7 key → Below 7 es → length es ≡ length key
    → opened (transformation key es) es ≡ key
unfolding zip_with opened transformation
opened_transformation none none e = refl
opened_transformation none (more l c) e = refl
opened_transformation (more h b) none e = absurd (omega arith)
opened_transformation (more {x = a} h b) (more {x = x} l c) e =
    λ i. plus_minus a x h l i ∷ opened_transformation b c (omega arith) i

-- where x is w + β s, x − β s is w
pub less_times_combined : {β : ℕ} {xs ws s : List ℕ} → Combined β xs ws s → Below 127 ws → Below 127 s
    → less_times β xs s ≡ ws
unfolding zip_with less_times
less_times_combined none bw bs = refl
less_times_combined {β} (more {x} {w} {g} e c) (more h b) (more l d) =
    λ i. less_whole β x w g l h e i ∷ less_times_combined c b d i

pub honest : (n k β : ℕ) (vs key us es : List ℕ) → length key ≡ n → length us ≡ n → length es ≡ n → Below 7 key → Below 7 es
    → less_times β (syndrome k vs (scaled (transformation key es) (response β us es))) (syndrome k vs (powers key))
    ≡ syndrome k vs (scaled (transformation key es) us)
honest n k β vs key us es lk lu le bk be =
    let σ : List ℕ = transformation key es in
    let c : Combined β (scaled σ (response β us es)) (scaled σ us) (powers (opened σ es)) =
    combined β σ us es n (length_transformation key es n lk le) lu le in
    let d : Combined β (scaled σ (response β us es)) (scaled σ us) (powers key) =
    rw (opened_transformation bk be (le ∙ sym lk)) at c in
    less_times_combined
    (combined_syndrome k vs d)
    (below_syndrome k vs (scaled σ us))
    (below_syndrome k vs (powers key))
