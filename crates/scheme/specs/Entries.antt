-- What the entries of the scheme answer, for the sizes of a category: the one result, and the final content of what was lent
-- (document 01, table "Returned" and the paragraph after it).
-- Assumes nothing.
use Rattle.std.specs.Prelude.{◌≡◌, List, ℕ, length}
use Rattle.outcome.specs.Answer.{Answers}
use Rattle.parameters.specs.declared.Params.{Params}
use Rattle.sampling.specs.Entry.{AnswersSample, AnswersShuffle}
use Rattle.scheme.specs.Key.{matrix_count, make_key_checks, public_key}
use Rattle.scheme.specs.Sign.{sign_checks, signature}
use Rattle.scheme.specs.Verify.{verify}
use Rattle.scheme.specs.VerifyRound.{verify_round}

module _ (p : Params) where
  -- the five draws over a lent block
  abbrev pub SamplesMatrix : (block old : List ℕ) (r : ℕ) (new : List ℕ) → Type 0
  SamplesMatrix = AnswersSample 7 127 0 (matrix_count p) p.matrix

  abbrev pub SamplesExponents : (block old : List ℕ) (r : ℕ) (new : List ℕ) → Type 0
  SamplesExponents = AnswersSample 3 7 0 p.n p.exponents

  abbrev pub SamplesMaskValues : (block old : List ℕ) (r : ℕ) (new : List ℕ) → Type 0
  SamplesMaskValues = AnswersSample 7 127 0 p.n p.mask

  abbrev pub SamplesFirstChallenges : (block old : List ℕ) (r : ℕ) (new : List ℕ) → Type 0
  SamplesFirstChallenges = AnswersSample 7 126 1 p.t p.first

  abbrev pub SamplesSecondChallenge : (block old : List ℕ) (r : ℕ) (new : List ℕ) → Type 0
  SamplesSecondChallenge = AnswersShuffle p.t p.w p.second

  -- the public key of a private seed
  abbrev pub MakesKey : (private old : List ℕ) (r : ℕ) (new : List ℕ) → Type 0
  MakesKey private old = Answers (make_key_checks p private (length old)) (public_key p private) old

  -- the signature of a message
  abbrev pub Signs : (private master salt msg old : List ℕ) (r : ℕ) (new : List ℕ) → Type 0
  Signs private master salt msg old =
      Answers (sign_checks p private master salt msg (length old)) (signature p private master salt msg) old

  -- whether a signature is one of the message under the key
  abbrev pub Verifies : (key msg sig : List ℕ) (r : ℕ) → Type 0
  Verifies key msg sig r = r ≡ verify p key msg sig

  -- one round, given its challenges and commitments
  abbrev pub VerifiesRound : (key salt : List ℕ) (i : ℕ) (c0 c1 : List ℕ) (β : ℕ) (h : List ℕ) (b : ℕ) (reply : List ℕ) (r : ℕ)
      → Type 0
  VerifiesRound key salt i c0 c1 β h b reply r = r ≡ verify_round p key salt i c0 c1 β h b reply
