-- One round: what its seed draws, and what its reply tells the verifier and the round examiner.
-- The reply to the second challenge 1 is the round's seed; the reply to 0 is y and σ, packed.
-- Assumes nothing.
use Rattle.std.specs.Prelude.{List, [], ◌∷◌, ℕ, ◌+◌, eqb, take, drop}
use Rattle.outcome.specs.Answer.{Check, ◌unless◌, short_draw, bad_field, pick}
use Rattle.packing.specs.Packing.{unpack, size, all_below, spare_zero}
use Rattle.parameters.specs.declared.Params.{Params}
use Rattle.sampling.specs.Sampling.{sample, enough, yield}
use Rattle.linear.specs.Linear.{syndrome, scaled, response, less_times}
use Rattle.scheme.specs.Strings.{bytes_from, commitment0_string, commitment1_string, mask_exponents_string, mask_values_string}
use Rattle.scheme.specs.Key.{exponents_from, exponents_drawn}

module _ (p : Params) where
  -- e' and u' of a seed, a salt and a round. Document 01 calls both a mask.
  unfoldable pub mask_exponents : List ℕ → List ℕ → ℕ → List ℕ
  mask_exponents seed salt i = exponents_from p (mask_exponents_string seed salt i)

  unfoldable pub mask_block : List ℕ → List ℕ → ℕ → List ℕ
  mask_block seed salt i = bytes_from p (mask_values_string seed salt i) p.mask

  unfoldable pub mask_values : List ℕ → List ℕ → ℕ → List ℕ
  mask_values seed salt i = sample 7 127 0 p.n (mask_block seed salt i)

  -- the draws that a round's seed takes
  unfoldable pub round_draws : List ℕ → List ℕ → ℕ → List Check
  round_draws seed salt i =
      short_draw unless exponents_drawn p (mask_exponents_string seed salt i) ∷
      short_draw unless enough p.n (yield 7 127 0 (mask_block seed salt i)) ∷
      []

  -- bytes of a packed response y and of a packed transformation σ; of the reply to a second challenge
  abbrev pub values_size : ℕ
  values_size = size 7 p.n

  abbrev pub reply_size : ℕ → ℕ
  reply_size b = pick (eqb b 1) p.seed (values_size + size 3 p.n)

  -- y and σ of a reply to 0
  unfoldable pub reply_values : List ℕ → List ℕ
  reply_values reply = unpack 7 p.n (take values_size reply)

  unfoldable pub reply_exponents : List ℕ → List ℕ
  reply_exponents reply = unpack 3 p.n (drop values_size reply)

  unfoldable pub reply_fields : List ℕ → List Check
  reply_fields reply =
      bad_field unless all_below 127 (reply_values reply) ∷
      bad_field unless spare_zero 7 p.n (take values_size reply) ∷
      bad_field unless all_below 7 (reply_exponents reply) ∷
      bad_field unless spare_zero 3 p.n (drop values_size reply) ∷
      []

  -- the tests of a reply to the second challenge b
  unfoldable pub reply_checks : ℕ → List ℕ → List ℕ → ℕ → List Check
  reply_checks b reply salt i = pick (eqb b 1) (round_draws reply salt i) (reply_fields reply)

  -- what a reply gives under a key (V and s) and a first challenge β: the response, ..
  unfoldable pub reply_response : ℕ → ℕ → List ℕ → List ℕ → ℕ → List ℕ
  reply_response b β reply salt i =
      pick (eqb b 1) (response β (mask_values reply salt i) (mask_exponents reply salt i)) (reply_values reply)

  -- .. the syndrome s̃ = (2^σ times y) H transposed − β s, under 0, ..
  unfoldable pub reply_syndrome : List ℕ → List ℕ → ℕ → List ℕ → List ℕ
  reply_syndrome vs s β reply =
      less_times β (syndrome p.k vs (scaled (reply_exponents reply) (reply_values reply))) s

  -- .. and the string behind the matching commitment: c1(i) under 1, c0(i) under 0
  unfoldable pub reply_string : List ℕ → List ℕ → ℕ → ℕ → List ℕ → List ℕ → ℕ → List ℕ
  reply_string vs s b β reply salt i =
      pick (eqb b 1) (commitment1_string (mask_values reply salt i) (mask_exponents reply salt i) salt i)
      (commitment0_string (reply_syndrome vs s β reply) (reply_exponents reply) salt i)
