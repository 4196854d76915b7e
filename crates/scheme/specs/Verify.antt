-- "The checker": verifying a signature, as Figure 5 of CROSS 1.1 recomputes it.
-- Assumes nothing.
use Rattle.std.specs.Prelude.{List, [], ◌∷◌, ◌++◌, ℕ, ◌+◌, ◌*◌, eqb, leb, length, take, drop, get_or}
use Rattle.outcome.specs.Answer.{Check, ◌unless◌, bad_size, short_draw, mismatch, pick, first_refusal}
use Rattle.outcome.specs.Lists.{flat, total, same}
use Rattle.parameters.specs.declared.Params.{Params}
use Rattle.scheme.specs.Strings.{digest, aggregate, joined, response_string, all_responses_string}
use Rattle.scheme.specs.Key.{key_size, seed_of, syndrome_of, key_fields, matrix, matrix_drawn}
use Rattle.scheme.specs.Round.{reply_size, reply_checks, reply_string, reply_response}
use Rattle.scheme.specs.Sign.{
  first_challenges,
  first_drawn,
  second_challenges,
  second_drawn,
  part_size,
  signature_size,
  message_max,
}

module _ (p : Params) where
  -- One round, from its part of the signature, under V and s of the key: its number i, and its challenges β and b.
  module _ (vs s salt : List ℕ) (i β b : ℕ) (part : List ℕ) where
    -- the reply and its tests
    unfoldable pub reply_in : List ℕ
    reply_in = take (reply_size p b) part

    unfoldable pub checks_in : List Check
    checks_in = reply_checks p b reply_in salt i

    -- the commitment that the part brings, and the one that its reply gives: c1(i) under 1, c0(i) under 0
    unfoldable pub brought_in : List ℕ
    brought_in = drop (reply_size p b) part

    unfoldable pub given_in : List ℕ
    given_in = digest p (reply_string p vs s b β reply_in salt i)

    unfoldable pub c0_in : List ℕ
    c0_in = pick (eqb b 1) brought_in given_in

    unfoldable pub c1_in : List ℕ
    c1_in = pick (eqb b 1) given_in brought_in

    unfoldable pub h_in : List ℕ
    h_in = digest p (response_string (reply_response p b β reply_in salt i))

  -- where part j begins among the rounds under the second challenges b
  abbrev pub offset : List ℕ → ℕ → ℕ
  offset b = total (λ i. part_size p (get_or b i 0))

  -- All rounds, one part behind the other, under first challenges β and second challenges b.
  module _ (vs s salt rounds β b : List ℕ) where
    unfoldable pub part_at : ℕ → List ℕ
    part_at j = take (part_size p (get_or b j 0)) (drop (offset b j) rounds)

    unfoldable pub checks_at : ℕ → List Check
    checks_at j = checks_in vs s salt (j + 1) (get_or β j 0) (get_or b j 0) (part_at j)

    unfoldable pub c0_at : ℕ → List ℕ
    c0_at j = c0_in vs s salt (j + 1) (get_or β j 0) (get_or b j 0) (part_at j)

    unfoldable pub c1_at : ℕ → List ℕ
    c1_at j = c1_in vs s salt (j + 1) (get_or β j 0) (get_or b j 0) (part_at j)

    unfoldable pub h_at : ℕ → List ℕ
    h_at j = h_in vs s salt (j + 1) (get_or β j 0) (get_or b j 0) (part_at j)

  -- c and h compared with what an aggregate of the c0(i), all c1(i) and all h(i) give
  unfoldable pub differences : (c h root c1s hs : List ℕ) → List Check
  differences c h root c1s hs =
      mismatch unless same c (joined p root c1s) ∷
      mismatch unless same h (digest p (all_responses_string hs)) ∷
      []

  -- Over the pieces of a signature, under V and s of the key: both draws, the rounds upward, then c and h.
  module _ (vs s salt c h rounds msg : List ℕ) where
    unfoldable pub β : List ℕ
    β = first_challenges p c salt msg

    unfoldable pub b : List ℕ
    b = second_challenges p c β h salt msg

    unfoldable pub rounds_checks : List Check
    rounds_checks =
        flat (checks_at vs s salt rounds β b) p.t ++
        differences c h (aggregate p (flat (c0_at vs s salt rounds β b) p.t))
        (flat (c1_at vs s salt rounds β b) p.t)
        (flat (h_at vs s salt rounds β b) p.t)

    unfoldable pub piece_checks : List Check
    piece_checks =
        short_draw unless first_drawn p c salt msg ∷
        short_draw unless second_drawn p c β h salt msg ∷
        rounds_checks

  -- the pieces of a signature: salt, c, h, rounds
  unfoldable pub salt_of : List ℕ → List ℕ
  salt_of sig = take p.digest sig

  unfoldable pub c_of : List ℕ → List ℕ
  c_of sig = take p.digest (drop p.digest sig)

  unfoldable pub h_of : List ℕ → List ℕ
  h_of sig = take p.digest (drop (2 * p.digest) sig)

  unfoldable pub rounds_of : List ℕ → List ℕ
  rounds_of sig = drop (3 * p.digest) sig

  -- verifying: the sizes of key, message and signature, key fields, V, then the signature
  unfoldable pub verify_sizes : (key msg sig : ℕ) → List Check
  verify_sizes key msg sig =
      bad_size unless eqb key (key_size p) ∷
      bad_size unless leb msg message_max ∷
      bad_size unless eqb sig (signature_size p) ∷
      []

  unfoldable pub verify_checks : List ℕ → List ℕ → List ℕ → List Check
  verify_checks key msg sig =
      verify_sizes (length key) (length msg) (length sig) ++
      (key_fields p key ++
      (short_draw unless matrix_drawn p (seed_of p key) ∷
      piece_checks (matrix p (seed_of p key)) (syndrome_of p key) (salt_of sig) (c_of sig) (h_of sig) (rounds_of sig) msg))

  -- the verifier's answer
  unfoldable pub verify : List ℕ → List ℕ → List ℕ → ℕ
  verify key msg sig = first_refusal (verify_checks key msg sig)
