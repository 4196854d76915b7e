-- Every hashed string, named once. Each begins with its tag byte; vectors enter packed; ‖ is _++_.
-- Assumes nothing.
use Rattle.std.specs.Prelude.{List, ◌∷◌, ◌++◌, ℕ}
use Rattle.packing.specs.Packing.{pack, digits}
use Rattle.parameters.specs.declared.Params.{Params}
use Rattle.shake.specs.Shake.{shake}

-- the bytes that a string gives, and its digest
unfoldable pub bytes_from : Params → List ℕ → ℕ → List ℕ
bytes_from p string count = shake p.rate string count

unfoldable pub digest : Params → List ℕ → List ℕ
digest p string = bytes_from p string p.digest

-- the round i, from 1, in two bytes, low byte first
abbrev pub round_number : ℕ → List ℕ
round_number i = digits 8 2 i

-- the strings behind the digests that are compared or signed: tags 0 to 6

-- c0(i): the syndrome s̃ of the scaled mask values, and the transformation σ
unfoldable pub commitment0_string : List ℕ → List ℕ → List ℕ → ℕ → List ℕ
commitment0_string s̃ σ salt i = 0 ∷ pack 7 s̃ ++ pack 3 σ ++ salt ++ round_number i

-- c1(i): the mask values u' and the mask exponents e'
unfoldable pub commitment1_string : List ℕ → List ℕ → List ℕ → ℕ → List ℕ
commitment1_string u e salt i = 1 ∷ pack 7 u ++ pack 3 e ++ salt ++ round_number i

-- h(i): the response y
unfoldable pub response_string : List ℕ → List ℕ
response_string y = 2 ∷ pack 7 y

-- c0, c1: all c0(i), all c1(i); c: both; h: all h(i)
unfoldable pub all_commitments0_string : List ℕ → List ℕ
all_commitments0_string all = 3 ∷ all

unfoldable pub all_commitments1_string : List ℕ → List ℕ
all_commitments1_string all = 4 ∷ all

unfoldable pub commitments_string : List ℕ → List ℕ → List ℕ
commitments_string c0 c1 = 5 ∷ c0 ++ c1

unfoldable pub all_responses_string : List ℕ → List ℕ
all_responses_string all = 6 ∷ all

-- the strings that are drawn from: tags 7 to 13

-- first challenges; second challenge
unfoldable pub first_challenges_string : List ℕ → List ℕ → List ℕ → List ℕ
first_challenges_string c salt msg = 7 ∷ c ++ salt ++ msg

unfoldable pub second_challenge_string : List ℕ → List ℕ → List ℕ → List ℕ → List ℕ → List ℕ
second_challenge_string c β h salt msg = 8 ∷ c ++ pack 7 β ++ h ++ salt ++ msg

-- the seeds of the rounds
unfoldable pub round_seeds_string : List ℕ → List ℕ → List ℕ
round_seeds_string master salt = 9 ∷ master ++ salt

-- exponents: the key's from the secret seed, a round's mask exponents e' from its seed
unfoldable pub key_exponents_string : List ℕ → List ℕ
key_exponents_string secret = 10 ∷ secret

unfoldable pub mask_exponents_string : List ℕ → List ℕ → ℕ → List ℕ
mask_exponents_string seed salt i = 10 ∷ seed ++ salt ++ round_number i

-- a round's mask values u'
unfoldable pub mask_values_string : List ℕ → List ℕ → ℕ → List ℕ
mask_values_string seed salt i = 11 ∷ seed ++ salt ++ round_number i

-- secret and public seed; V
unfoldable pub key_seeds_string : List ℕ → List ℕ
key_seeds_string private = 12 ∷ private

unfoldable pub matrix_string : List ℕ → List ℕ
matrix_string public = 13 ∷ public

-- c0, the aggregate of all c0(i): the digest of 3 ‖ all c0(i)
unfoldable pub aggregate : Params → List ℕ → List ℕ
aggregate p c0s = digest p (all_commitments0_string c0s)

-- c, from an aggregate of the c0(i) and all c1(i): the digest of 5 ‖ c0 ‖ c1, c1 being the digest of 4 ‖ all c1(i)
unfoldable pub joined : Params → List ℕ → List ℕ → List ℕ
joined p c0 c1s = digest p (commitments_string c0 (digest p (all_commitments1_string c1s)))
