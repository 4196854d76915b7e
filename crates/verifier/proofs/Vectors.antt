-- Vectors by how they were made. Assumes nothing.
use mathlib.Core.Path.{◌≡◌, ◌∙◌, ap}
use mathlib.Core.List.{List}
use Prim.Native.Nat.{ℕ, ◌-◌}
use lib.ListN.{length}
use Rattle.packing.proofs.Below.{Below}
use Rattle.linear.specs.Linear.{scaled, syndrome, less_times}
use Rattle.linear.proofs.Kept.{kept_below}
use Rattle.linear.proofs.Sizes.{length_scaled, length_syndrome, length_less_times}
use Rattle.packing.specs.InnerVector.{Vector}

-- what equals a list of that length and range
pub made : (m n : ℕ) {xs ys : List ℕ} → xs ≡ ys → length ys ≡ n → Below m ys → Vector m n xs
made m n {ys = ys} e l b = rw e (record { long = l; ranged = kept_below m ys b })

-- the length of the syndrome of a reply
pub length_less : (β n k : ℕ) (vs s es ys : List ℕ) → length es ≡ n → length ys ≡ n → length s ≡ n - k
    → length (less_times β (syndrome k vs (scaled es ys)) s) ≡ n - k
length_less β n k vs s es ys le ly ls =
    length_less_times β (syndrome k vs (scaled es ys)) s (n - k)
    (length_syndrome k vs (scaled es ys) ∙ ap (λ (x : ℕ). x - k) (length_scaled es ys n le ly)) ls
