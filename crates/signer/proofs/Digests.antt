-- The digests of the hashed strings, as they come out of the sponge. Assumes nothing.
use mathlib.Core.Path.{◌≡◌, refl}
use mathlib.Core.List.{List, ◌∷◌, ◌++◌}
use Prim.Native.Nat.{ℕ}
use Rattle.shake.specs.Shake.{shake}
use Rattle.packing.specs.Packing.{pack, digits}
use Rattle.parameters.specs.declared.Params.{Params}
use Rattle.scheme.specs.Strings.{
  bytes_from,
  digest,
  commitment0_string,
  commitment1_string,
  response_string,
  all_commitments0_string,
  all_commitments1_string,
  commitments_string,
  aggregate,
  joined,
}
use Rattle.signer.proofs.Loops.{parts}
use Rattle.signer.proofs.Ranges.{ranges}

module _ (p : Params) where
  pub c0_is : (s̃ σ salt : List ℕ) (i : ℕ) → digest p (commitment0_string s̃ σ salt i)
      ≡ shake p.rate (0 ∷ pack 7 s̃ ++ pack 3 σ ++ salt ++ digits 8 2 i) p.digest
  unfolding digest bytes_from commitment0_string
  c0_is s̃ σ salt i = refl

  pub c1_is : (us es salt : List ℕ) (i : ℕ) → digest p (commitment1_string us es salt i)
      ≡ shake p.rate (1 ∷ pack 7 us ++ pack 3 es ++ salt ++ digits 8 2 i) p.digest
  unfolding digest bytes_from commitment1_string
  c1_is us es salt i = refl

  pub h_is : (y : List ℕ) → digest p (response_string y) ≡ shake p.rate (2 ∷ pack 7 y) p.digest
  unfolding digest bytes_from response_string
  h_is y = refl

  pub aggregate_is : (c0s : List ℕ) → aggregate p c0s ≡ shake p.rate (3 ∷ c0s) p.digest
  unfolding aggregate digest bytes_from all_commitments0_string
  aggregate_is c0s = refl

  pub joined_is : (c0 c1s : List ℕ) → joined p c0 c1s
      ≡ shake p.rate (5 ∷ c0 ++ shake p.rate (4 ∷ c1s) p.digest) p.digest
  unfolding joined digest bytes_from all_commitments1_string commitments_string
  joined_is c0 c1s = refl

-- what the check adds to its own search where digests are made
pub ruleset digests = (parts, ranges, c0_is, c1_is, h_is, aggregate_is, joined_is)
