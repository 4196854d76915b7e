-- What a string gives: as many bytes as are asked for; and where a draw suffices, as many places as there are to fill,
-- each in its range.
-- Assumes nothing.
use mathlib.Core.Path.{◌≡◌}
use mathlib.Core.List.{List}
use Prim.Native.Nat.{ℕ}
use lib.Dec.{T}
use lib.ListN.{length}
use Rattle.outcome.specs.Answer.{first_refusal}
use Rattle.outcome.proofs.Checks.{passed}
use Rattle.packing.proofs.Below.{Below}
use Rattle.parameters.specs.declared.Params.{Params}
use Rattle.parameters.specs.Sound.{Sound}
use Rattle.shake.proofs.Output.{length_shake}
use Rattle.sampling.proofs.Kept.{sample_below, length_sample}
use Rattle.scheme.specs.Strings.{bytes_from, digest, mask_exponents_string}
use Rattle.scheme.specs.Key.{exponents_from, exponents_drawn}
use Rattle.scheme.specs.Round.{mask_exponents, mask_block, mask_values, round_draws}

pub length_bytes : (p : Params) → Sound p → (string : List ℕ) (count : ℕ) → length (bytes_from p string count) ≡ count
unfolding bytes_from
length_bytes p sound string count = length_shake p.rate string count sound.rate

pub length_digest : (p : Params) → Sound p → (string : List ℕ) → length (digest p string) ≡ p.digest
unfolding digest
length_digest p sound string = length_bytes p sound string p.digest

pub length_exponents : (p : Params) (string : List ℕ) → T (exponents_drawn p string) → length (exponents_from p string) ≡ p.n
unfolding exponents_from exponents_drawn
length_exponents p string t = length_sample 3 7 0 p.n (bytes_from p string p.exponents) t

pub below_exponents : (p : Params) (string : List ℕ) → Below 7 (exponents_from p string)
unfolding exponents_from
below_exponents p string = sample_below 3 7 0 p.n (bytes_from p string p.exponents)

-- e' and u' of a round
module _ (p : Params) (seed salt : List ℕ) (i : ℕ) where
  pub below_mask : Below 7 (mask_exponents p seed salt i)
  unfolding mask_exponents
  below_mask = below_exponents p (mask_exponents_string seed salt i)

  module _ (drawn : first_refusal (round_draws p seed salt i) ≡ 0) where
    pub length_mask : length (mask_exponents p seed salt i) ≡ p.n
    unfolding mask_exponents round_draws
    length_mask = length_exponents p (mask_exponents_string seed salt i) (passed (round_draws p seed salt i) drawn).0

    pub length_values : length (mask_values p seed salt i) ≡ p.n
    unfolding mask_values round_draws
    length_values = length_sample 7 127 0 p.n (mask_block p seed salt i) (passed (round_draws p seed salt i) drawn).1.0
