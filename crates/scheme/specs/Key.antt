-- "Key": secret and public seed from the private seed, V, the key exponents, the syndrome s, the public key.
-- Assumes nothing.
use Rattle.std.specs.Prelude.{Bool, List, [], ◌∷◌, ◌++◌, ℕ, ◌+◌, ◌-◌, ◌*◌, eqb, length, take, drop}
use Rattle.outcome.specs.Answer.{Check, ◌unless◌, bad_size, short_draw, bad_field}
use Rattle.packing.specs.Packing.{pack, unpack, size, all_below, spare_zero}
use Rattle.parameters.specs.declared.Params.{Params}
use Rattle.sampling.specs.Sampling.{sample, enough, yield}
use Rattle.linear.specs.Linear.{powers, syndrome}
use Rattle.scheme.specs.Strings.{bytes_from, key_exponents_string, key_seeds_string, matrix_string}

module _ (p : Params) where
  -- both seeds: twice a digest's bytes; the secret one first
  unfoldable pub key_seeds : List ℕ → List ℕ
  key_seeds private = bytes_from p (key_seeds_string private) (2 * p.digest)

  unfoldable pub secret_seed : List ℕ → List ℕ
  secret_seed private = take p.digest (key_seeds private)

  unfoldable pub public_seed : List ℕ → List ℕ
  public_seed private = drop p.digest (key_seeds private)

  -- V, (n - k) rows of k values, and whether its block yields them
  abbrev pub matrix_count : ℕ
  matrix_count = (p.n - p.k) * p.k

  unfoldable pub matrix_block : List ℕ → List ℕ
  matrix_block public = bytes_from p (matrix_string public) p.matrix

  unfoldable pub matrix : List ℕ → List ℕ
  matrix public = sample 7 127 0 matrix_count (matrix_block public)

  unfoldable pub matrix_drawn : List ℕ → Bool
  matrix_drawn public = enough matrix_count (yield 7 127 0 (matrix_block public))

  -- n exponents from a string, for key and masks, and whether its block yields them
  unfoldable pub exponents_from : List ℕ → List ℕ
  exponents_from string = sample 3 7 0 p.n (bytes_from p string p.exponents)

  unfoldable pub exponents_drawn : List ℕ → Bool
  exponents_drawn string = enough p.n (yield 3 7 0 (bytes_from p string p.exponents))

  -- the key exponents
  unfoldable pub key_exponents : List ℕ → List ℕ
  key_exponents private = exponents_from (key_exponents_string (secret_seed private))

  -- s: the powers of the key exponents times H transposed
  unfoldable pub key_syndrome : List ℕ → List ℕ
  key_syndrome private = syndrome p.k (matrix (public_seed private)) (powers (key_exponents private))

  -- the public key: the public seed, then s packed
  unfoldable pub public_key : List ℕ → List ℕ
  public_key private = public_seed private ++ pack 7 (key_syndrome private)

  abbrev pub key_size : ℕ
  key_size = p.digest + size 7 (p.n - p.k)

  -- the draws that a key takes
  unfoldable pub key_draws : List ℕ → List Check
  key_draws private =
      short_draw unless matrix_drawn (public_seed private) ∷
      short_draw unless exponents_drawn (key_exponents_string (secret_seed private)) ∷
      []

  -- making a key: the private seed, and how many bytes are lent for the key
  unfoldable pub make_key_checks : List ℕ → ℕ → List Check
  make_key_checks private lent =
      bad_size unless eqb (length private) p.digest ∷
      bad_size unless eqb lent key_size ∷
      [] ++ key_draws private

  -- a key that is given: its public seed, its syndrome, and the tests of its fields
  unfoldable pub seed_of : List ℕ → List ℕ
  seed_of key = take p.digest key

  unfoldable pub syndrome_of : List ℕ → List ℕ
  syndrome_of key = unpack 7 (p.n - p.k) (drop p.digest key)

  unfoldable pub key_fields : List ℕ → List Check
  key_fields key =
      bad_field unless all_below 127 (syndrome_of key) ∷
      bad_field unless spare_zero 7 (p.n - p.k) (drop p.digest key) ∷
      []
