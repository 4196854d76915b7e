-- The public key of a private seed, as the verifier reads it.
-- Assumes nothing.
use mathlib.Core.Path.{◌≡◌, ◌∙◌, ap}
use mathlib.Core.List.{List, [], ◌∷◌}
use Prim.Native.Nat.{ℕ, ◌-◌, ◌*◌}
use native.Mathlib.Omega.{arith}
use lib.ListN.{length, drop, length-append, length-drop}
use lib.Seq.{take_at, drop_at}
use Rattle.outcome.specs.Answer.{Check, ◌unless◌, short_draw, first_refusal}
use Rattle.outcome.proofs.Checks.{passed, both_passed}
use Rattle.packing.specs.Packing.{pack}
use Rattle.packing.proofs.Below.{Below}
use Rattle.parameters.specs.declared.Params.{Params}
use Rattle.parameters.specs.Sound.{Sound}
use Rattle.linear.specs.Linear.{powers}
use Rattle.linear.proofs.Sizes.{length_powers, length_syndrome}
use Rattle.linear.proofs.Ranges.{below_syndrome}
use Rattle.scheme.specs.Strings.{key_exponents_string, key_seeds_string}
use Rattle.scheme.specs.Key.{
  key_seeds,
  secret_seed,
  public_seed,
  matrix,
  matrix_drawn,
  key_exponents,
  exponents_drawn,
  key_syndrome,
  public_key,
  key_size,
  key_draws,
  seed_of,
  syndrome_of,
  key_fields,
}
use Rattle.scheme.proofs.PartsStrings.{length_bytes, length_exponents, below_exponents}
use Rattle.scheme.proofs.PartsPacked.{Packed, packed}

-- What the verifier and the rounds find: seed and syndrome as they were made, the size, the tests of the fields and of V;
-- and the key exponents, as many as there are and in their range.
pub record Read (p : Params) (private : List ℕ) : Type 0 where
  pub seed : seed_of p (public_key p private) ≡ public_seed p private
  pub syndrome : syndrome_of p (public_key p private) ≡ key_syndrome p private
  pub sized : length (public_key p private) ≡ key_size p
  pub fields : first_refusal (key_fields p (public_key p private)) ≡ 0
  pub drawn : first_refusal (short_draw unless matrix_drawn p (seed_of p (public_key p private)) ∷ []) ≡ 0
  pub long : length (key_exponents p private) ≡ p.n
  pub ranged : Below 7 (key_exponents p private)

module _ (p : Params) (sound : Sound p) (private : List ℕ) (drawn : first_refusal (key_draws p private) ≡ 0) where
  abbrev key : List ℕ
  key = public_key p private

  abbrev matrix_draw : List Check
  matrix_draw = short_draw unless matrix_drawn p (public_seed p private) ∷ []

  abbrev exponents_draw : List Check
  exponents_draw = short_draw unless exponents_drawn p (key_exponents_string (secret_seed p private)) ∷ []

  draws : (first_refusal matrix_draw ≡ 0) × (first_refusal exponents_draw ≡ 0)
  unfolding key_draws
  draws = both_passed matrix_draw exponents_draw drawn

  length_public : length (public_seed p private) ≡ p.digest
  unfolding public_seed key_seeds
  length_public =
      length-drop p.digest (key_seeds p private) ∙
      ap (λ (k : ℕ). k - p.digest) (length_bytes p sound (key_seeds_string private) (2 * p.digest)) ∙
      omega arith

  length_key : length (key_exponents p private) ≡ p.n
  unfolding key_exponents
  length_key =
      length_exponents p (key_exponents_string (secret_seed p private))
      (passed exponents_draw draws.1).0

  below_key : Below 7 (key_exponents p private)
  unfolding key_exponents
  below_key = below_exponents p (key_exponents_string (secret_seed p private))

  packed_s : Packed 7 127 (p.n - p.k) (key_syndrome p private)
  unfolding key_syndrome
  packed_s =
      let vs : List ℕ = matrix p (public_seed p private) in
      let xs : List ℕ = powers (key_exponents p private) in
      packed 7 127 (p.n - p.k) (key_syndrome p private) (omega arith) (below_syndrome p.k vs xs)
      (length_syndrome p.k vs xs ∙ ap (λ (n : ℕ). n - p.k) (length_powers (key_exponents p private) ∙ length_key))

  seed_read : seed_of p key ≡ public_seed p private
  unfolding seed_of public_key
  seed_read = take_at (public_seed p private) _ p.digest length_public

  behind : drop p.digest key ≡ pack 7 (key_syndrome p private)
  unfolding public_key
  behind = drop_at (public_seed p private) _ p.digest length_public

  syndrome_read : syndrome_of p key ≡ key_syndrome p private
  unfolding syndrome_of
  syndrome_read = rw behind packed_s.fields

  key_sized : length key ≡ key_size p
  unfolding public_key
  key_sized = rw (length-append (public_seed p private) (pack 7 (key_syndrome p private)), length_public, packed_s.long)

  key_fields_lem : first_refusal (key_fields p key) ≡ 0
  unfolding key_fields
  key_fields_lem = rw (syndrome_read, behind, packed_s.ranged, packed_s.spare)

  key_matrix : first_refusal (short_draw unless matrix_drawn p (seed_of p key) ∷ []) ≡ 0
  key_matrix = rw seed_read draws.0

  pub read : Read p private
  read =
      record {
        seed = seed_read;
        syndrome = syndrome_read;
        sized = key_sized;
        fields = key_fields_lem;
        drawn = key_matrix;
        long = length_key;
        ranged = below_key;
      }
