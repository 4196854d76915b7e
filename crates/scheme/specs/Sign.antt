-- "Signing": the signature's bytes from private seed, master seed, salt and message.
-- Round j from 0 is the paper's round i = j + 1.
-- Assumes nothing.
use Rattle.std.specs.Prelude.{Bool, List, [], ◌∷◌, ◌++◌, ℕ, ◌+◌, ◌-◌, ◌*◌, eqb, leb, length, take, drop, get_or}
use Rattle.outcome.specs.Answer.{Check, ◌unless◌, bad_size, short_draw, pick}
use Rattle.outcome.specs.Lists.{flat}
use Rattle.packing.specs.Packing.{pack}
use Rattle.parameters.specs.declared.Params.{Params}
use Rattle.sampling.specs.Sampling.{sample, enough, yield}
use Rattle.sampling.specs.Shuffle.{shuffle, shuffles}
use Rattle.linear.specs.Linear.{syndrome, scaled, response, transformation}
use Rattle.scheme.specs.Strings.{
  bytes_from,
  digest,
  aggregate,
  joined,
  commitment0_string,
  commitment1_string,
  response_string,
  all_responses_string,
  first_challenges_string,
  second_challenge_string,
  round_seeds_string,
}
use Rattle.scheme.specs.Key.{public_seed, matrix, key_exponents, key_draws}
use Rattle.scheme.specs.Round.{mask_exponents, mask_values, round_draws, reply_size}

-- the longest message
abbrev pub message_max : ℕ
message_max = 65536

module _ (p : Params) where
  -- first challenges β from c, salt and message: t of them, 1 to 126
  unfoldable pub first_block : List ℕ → List ℕ → List ℕ → List ℕ
  first_block c salt msg = bytes_from p (first_challenges_string c salt msg) p.first

  unfoldable pub first_challenges : List ℕ → List ℕ → List ℕ → List ℕ
  first_challenges c salt msg = sample 7 126 1 p.t (first_block c salt msg)

  unfoldable pub first_drawn : List ℕ → List ℕ → List ℕ → Bool
  first_drawn c salt msg = enough p.t (yield 7 126 1 (first_block c salt msg))

  -- second challenges: t of them, w ones
  unfoldable pub second_block : List ℕ → List ℕ → List ℕ → List ℕ → List ℕ → List ℕ
  second_block c β h salt msg = bytes_from p (second_challenge_string c β h salt msg) p.second

  unfoldable pub second_challenges : List ℕ → List ℕ → List ℕ → List ℕ → List ℕ → List ℕ
  second_challenges c β h salt msg = shuffle p.t p.w (second_block c β h salt msg)

  unfoldable pub second_drawn : List ℕ → List ℕ → List ℕ → List ℕ → List ℕ → Bool
  second_drawn c β h salt msg = shuffles p.t (second_block c β h salt msg)

  -- a round's part of the signature: reply and the commitment that the reply does not give
  abbrev pub part_size : ℕ → ℕ
  part_size b = reply_size p b + p.digest

  abbrev pub signature_size : ℕ
  signature_size = 3 * p.digest + p.w * part_size 1 + (p.t - p.w) * part_size 0

  -- the seeds of the rounds, and that of round j
  unfoldable pub round_seeds : List ℕ → List ℕ → List ℕ
  round_seeds master salt = bytes_from p (round_seeds_string master salt) (p.t * p.seed)

  unfoldable pub round_seed : List ℕ → List ℕ → ℕ → List ℕ
  round_seed master salt j = take p.seed (drop (p.seed * j) (round_seeds master salt))

  -- Round j, for any seeds of the rounds: e', u' and c1(i).
  module _ (seed : ℕ → List ℕ) (salt : List ℕ) where
    unfoldable pub e' : ℕ → List ℕ
    e' j = mask_exponents p (seed j) salt (j + 1)

    unfoldable pub u' : ℕ → List ℕ
    u' j = mask_values p (seed j) salt (j + 1)

    unfoldable pub c1 : ℕ → List ℕ
    c1 j = digest p (commitment1_string (u' j) (e' j) salt (j + 1))

    -- the draws: round after round
    unfoldable pub seed_draws : List Check
    seed_draws = flat (λ j. round_draws p (seed j) salt (j + 1)) p.t

    -- under first challenges β: y, h(i), and h of all rounds
    module _ (β : List ℕ) where
      unfoldable pub y : ℕ → List ℕ
      y j = response (get_or β j 0) (u' j) (e' j)

      unfoldable pub hᵢ : ℕ → List ℕ
      hᵢ j = digest p (response_string (y j))

      unfoldable pub h_of_all : List ℕ
      h_of_all = digest p (all_responses_string (flat hᵢ p.t))

  -- Under the key exponents: σ.
  unfoldable pub σ : (key : List ℕ) (seed : ℕ → List ℕ) (salt : List ℕ) → ℕ → List ℕ
  σ key seed salt j = transformation key (e' seed salt j)

  -- Under V as well: s̃, c0(i), and the aggregate of all c0(i).
  module _ (vs key : List ℕ) (seed : ℕ → List ℕ) (salt : List ℕ) where
    unfoldable pub s̃ : ℕ → List ℕ
    s̃ j = syndrome p.k vs (scaled (σ key seed salt j) (u' seed salt j))

    unfoldable pub c0 : ℕ → List ℕ
    c0 j = digest p (commitment0_string (s̃ j) (σ key seed salt j) salt (j + 1))

    unfoldable pub c0_of_all : List ℕ
    c0_of_all = aggregate p (flat c0 p.t)

    -- the part of round j under the challenges β and b: seed and c0(i) under 1; y, σ and c1(i) under 0
    unfoldable pub part : (β b : List ℕ) → ℕ → List ℕ
    part β b j =
        pick (eqb (get_or b j 0) 1) (seed j ++ c0 j) (pack 7 (y seed salt β j) ++ pack 3 (σ key seed salt j) ++ c1 seed salt j)

  -- From an aggregate of the c0(i) on: c; with a message the first challenges, h and the second challenges.
  module _ (seed : ℕ → List ℕ) (salt root : List ℕ) where
    unfoldable pub c : List ℕ
    c = joined p root (flat (c1 seed salt) p.t)

    module _ (msg : List ℕ) where
      unfoldable pub β : List ℕ
      β = first_challenges c salt msg

      unfoldable pub h : List ℕ
      h = h_of_all seed salt β

      unfoldable pub b : List ℕ
      b = second_challenges c β h salt msg

      -- the draws: the first, then the second challenges
      unfoldable pub challenge_draws : List Check
      challenge_draws = short_draw unless first_drawn c salt msg ∷ short_draw unless second_drawn c β h salt msg ∷ []

  -- The signature under V and the key exponents, for any seeds of the rounds: salt, c, h, then the parts.
  module _ (vs key : List ℕ) (seed : ℕ → List ℕ) (salt msg : List ℕ) where
    unfoldable pub signature_from : List ℕ
    signature_from =
        let root : List ℕ = c0_of_all vs key seed salt in
        salt ++ c seed salt root ++ h seed salt root msg
        ++ flat (part vs key seed salt (β seed salt root msg) (b seed salt root msg)) p.t

    unfoldable pub sign_draws : List Check
    sign_draws = seed_draws seed salt ++ challenge_draws seed salt (c0_of_all vs key seed salt) msg

  -- the signature of a message
  unfoldable pub signature : List ℕ → List ℕ → List ℕ → List ℕ → List ℕ
  signature private master salt msg =
      signature_from (matrix p (public_seed p private)) (key_exponents p private) (round_seed master salt) salt msg

  -- signing, with how many bytes are lent for the signature: sizes, key draws, then those of the signature
  unfoldable pub sign_sizes : List ℕ → List ℕ → List ℕ → List ℕ → ℕ → List Check
  sign_sizes private master salt msg lent =
      bad_size unless eqb (length private) p.digest ∷
      bad_size unless eqb (length master) p.seed ∷
      bad_size unless eqb (length salt) p.digest ∷
      bad_size unless leb (length msg) message_max ∷
      bad_size unless eqb lent signature_size ∷
      []

  unfoldable pub sign_checks : List ℕ → List ℕ → List ℕ → List ℕ → ℕ → List Check
  sign_checks private master salt msg lent =
      sign_sizes private master salt msg lent ++
      (key_draws p private ++
      sign_draws (matrix p (public_seed p private)) (key_exponents p private) (round_seed master salt) salt msg)
