-- One transformation and one mask answer two different first challenges with one and the same syndrome s̃. Then their
-- sum opens the key: its powers have the key's syndrome.
-- Assumes nothing.
use mathlib.Core.Path.{◌≡◌, refl}
use mathlib.Core.List.{List, ◌∷◌, zip_with}
use Prim.Native.Nat.{ℕ, ◌-◌, ◌≤◌}
use native.Mathlib.Omega.{arith}
use lib.ListN.{length}
use Rattle.packing.proofs.Below.{Below, none, more}
use Rattle.field.specs.Field.{less}
use Rattle.field.proofs.Place.{two_challenges}
use Rattle.linear.specs.Linear.{powers, scaled, response, opened, less_times, syndrome}
use Rattle.linear.proofs.Sizes.{length_powers, length_opened, length_syndrome}
use Rattle.linear.proofs.Ranges.{below_syndrome}
use Rattle.linear.proofs.Combined.{Combined, none, more, combined, combined_syndrome}

module _ (β β' : ℕ) (l : β ≤ 126) (l' : β' ≤ 126) (differ : β ≡ β' → ⊥) where
  two_combined : {xs xs' ws gs s : List ℕ} → Combined β xs ws gs → Combined β' xs' ws gs → Below 127 gs → Below 127 s
      → length s ≡ length gs → less_times β xs s ≡ less_times β' xs' s → gs ≡ s
  unfolding zip_with less_times
  two_combined none none b none e left = refl
  two_combined none none b (more h c) e left = absurd (omega arith)
  two_combined (more p c) (more q d) b none e left = absurd (omega arith)
  two_combined (more {x} {w} {g} {xs} p c) (more {x = x'} {xs = xs'} q d) (more h b) (more {x = y} {xs = s} h' b') e left =
      let here : less β x y ≡ less β' x' y = cc in
      let rest : less_times β xs s ≡ less_times β' xs' s = cc in
      λ i. two_challenges β β' x x' w g y l l' differ h h' p q here i ∷ two_combined c d b b' (omega arith) rest i

  pub opening : (n k : ℕ) (vs σ us es s : List ℕ) → length σ ≡ n → length us ≡ n → length es ≡ n → length s ≡ n - k
      → Below 127 s
      → less_times β (syndrome k vs (scaled σ (response β us es))) s
      ≡ less_times β' (syndrome k vs (scaled σ (response β' us es))) s
      → syndrome k vs (powers (opened σ es)) ≡ s
  opening n k vs σ us es s lσ lu le ls bs left =
      let opens : List ℕ = powers (opened σ es) in
      let size : length s ≡ length (syndrome k vs opens) =
      omega (arith, length_syndrome k vs opens, length_powers (opened σ es), length_opened σ es n lσ le) in
      two_combined
      (combined_syndrome k vs (combined β σ us es n lσ lu le))
      (combined_syndrome k vs (combined β' σ us es n lσ lu le))
      (below_syndrome k vs opens)
      bs
      size
      left
