-- Vectors that are made on the way, in range. Assumes nothing.
use mathlib.Core.Path.{◌≡◌}
use mathlib.Core.List.{List}
use Prim.Native.Nat.{ℕ}
use lib.Dec.{T}
use Rattle.std.proofs.lemmas.Bool.Decides.{nat_tests}
use Rattle.std.proofs.lemmas.Grind.{common_steps}
use Rattle.outcome.proofs.Checks.{number_positive}
use Rattle.packing.specs.Packing.{all_below}
use Rattle.packing.proofs.Below.{Below}
use Rattle.parameters.specs.declared.Params.{Params}
use Rattle.sampling.proofs.Kept.{sample_below}
use Rattle.linear.specs.Linear.{response, transformation, scaled, syndrome}
use Rattle.linear.proofs.Kept.{kept_below}
use Rattle.linear.proofs.Ranges.{below_response, below_transformation, below_scaled, below_syndrome}
use Rattle.scheme.specs.Key.{matrix, matrix_count, matrix_block, key_exponents}
use Rattle.scheme.specs.Round.{mask_exponents, mask_values, mask_block}
use Rattle.scheme.proofs.PartsStrings.{below_exponents, below_mask}

pub ranged : (m : ℕ) {part v : List ℕ} → part ≡ v → Below m v → T (all_below m part)
ranged m {part} {v} e b = rw e (kept_below m v b)

pub transformation_ranged : (key es : List ℕ) → T (all_below 7 (transformation key es))
transformation_ranged key es = kept_below 7 _ (below_transformation key es)

pub scaled_ranged : (σ us : List ℕ) → T (all_below 127 (scaled σ us))
scaled_ranged σ us = kept_below 127 _ (below_scaled σ us)

pub syndrome_ranged : (k : ℕ) (vs x : List ℕ) → T (all_below 127 (syndrome k vs x))
syndrome_ranged k vs x = kept_below 127 _ (below_syndrome k vs x)

pub response_ranged : (β : ℕ) (us es : List ℕ) → T (all_below 127 (response β us es))
response_ranged β us es = kept_below 127 _ (below_response β us es)

pub values_ranged : (p : Params) (seed salt : List ℕ) (i : ℕ) → T (all_below 127 (mask_values p seed salt i))
unfolding mask_values
values_ranged p seed salt i = kept_below 127 _ (sample_below 7 127 0 p.n (mask_block p seed salt i))

pub exponents_ranged : (p : Params) (seed salt : List ℕ) (i : ℕ) → T (all_below 7 (mask_exponents p seed salt i))
exponents_ranged p seed salt i = kept_below 7 _ (below_mask p seed salt i)

pub matrix_ranged : (p : Params) (public : List ℕ) → T (all_below 127 (matrix p public))
unfolding matrix
matrix_ranged p public = kept_below 127 _ (sample_below 7 127 0 (matrix_count p) (matrix_block p public))

pub key_ranged : (p : Params) (private : List ℕ) → T (all_below 7 (key_exponents p private))
unfolding key_exponents
key_ranged p private = kept_below 7 _ (below_exponents p _)

-- what the check adds to its own search where vectors are made, where masks are drawn, and where the key is
pub ruleset ranges = (common_steps, transformation_ranged, scaled_ranged, syndrome_ranged, response_ranged)

pub ruleset masks = (common_steps, number_positive, values_ranged, exponents_ranged)

pub ruleset keys = (common_steps, nat_tests, number_positive, matrix_ranged, key_ranged)
