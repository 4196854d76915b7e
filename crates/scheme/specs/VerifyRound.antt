-- The round examiner: one round of the verifier, given its challenges and commitments.
-- i, β and the challenge are numbers that may be anything; under a challenge other than 0 and 1 the reply's size
-- is not looked at.
-- Assumes nothing.
use Rattle.std.specs.Prelude.{Bool, true, List, [], ◌∷◌, ◌++◌, ℕ, eqb, leb, length}
use Rattle.outcome.specs.Answer.{Check, ◌unless◌, bad_size, short_draw, bad_field, mismatch, pick, first_refusal}
use Rattle.outcome.specs.Lists.{same}
use Rattle.parameters.specs.declared.Params.{Params}
use Rattle.scheme.specs.Strings.{digest, response_string}
use Rattle.scheme.specs.Key.{key_size, seed_of, syndrome_of, key_fields, matrix, matrix_drawn}
use Rattle.scheme.specs.Round.{reply_size, reply_checks, reply_string, reply_response}

module _ (p : Params) where
  abbrev pub reply_sized : ℕ → List ℕ → Bool
  reply_sized b reply = pick (leb b 1) (eqb (length reply) (reply_size p b)) true

  -- the sizes
  unfoldable pub verify_round_sizes : List ℕ → List ℕ → List ℕ → List ℕ → List ℕ → ℕ → List ℕ → List Check
  verify_round_sizes key salt c0 c1 h b reply =
      bad_size unless eqb (length key) (key_size p) ∷
      bad_size unless eqb (length salt) p.digest ∷
      bad_size unless eqb (length c0) p.digest ∷
      bad_size unless eqb (length c1) p.digest ∷
      bad_size unless eqb (length h) p.digest ∷
      bad_size unless reply_sized b reply ∷
      []

  -- the numbers i, β and challenge
  unfoldable pub verify_round_numbers : ℕ → ℕ → ℕ → List Check
  verify_round_numbers i β b =
      bad_field unless leb 1 i ∷
      bad_field unless leb i p.t ∷
      bad_field unless leb 1 β ∷
      bad_field unless leb β 126 ∷
      bad_field unless leb b 1 ∷
      []

  -- the round: the reply, then the matching commitment and h(i)
  unfoldable pub verify_round_reply : (vs s salt : List ℕ) (i β b : ℕ) (reply matching h : List ℕ) → List Check
  verify_round_reply vs s salt i β b reply matching h =
      reply_checks p b reply salt i ++
      (mismatch unless same matching (digest p (reply_string p vs s b β reply salt i)) ∷
      mismatch unless same h (digest p (response_string (reply_response p b β reply salt i))) ∷
      [])

  unfoldable pub verify_round_checks : List ℕ → List ℕ → ℕ → List ℕ → List ℕ → ℕ → List ℕ → ℕ → List ℕ → List Check
  verify_round_checks key salt i c0 c1 β h b reply =
      verify_round_sizes key salt c0 c1 h b reply ++
      (key_fields p key ++
      (verify_round_numbers i β b ++
      (short_draw unless matrix_drawn p (seed_of p key) ∷
      verify_round_reply (matrix p (seed_of p key)) (syndrome_of p key) salt i β b reply (pick (eqb b 1) c1 c0) h)))

  -- the round examiner's answer
  unfoldable pub verify_round : List ℕ → List ℕ → ℕ → List ℕ → List ℕ → ℕ → List ℕ → ℕ → List ℕ → ℕ
  verify_round key salt i c0 c1 β h b reply = first_refusal (verify_round_checks key salt i c0 c1 β h b reply)
