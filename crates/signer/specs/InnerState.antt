-- What the signer keeps of each round between committing and replying: its state u' ‖ e' ‖ c0(i) ‖ c1(i), and what
-- is read out of such a state again. The definitions of `scheme` say what each of them is; no message enters a state.
-- Round j from 0 is the paper's round i = j + 1.
-- Assumes nothing.
use Rattle.std.specs.Prelude.{◌≡◌, List, [], ◌∷◌, ◌++◌, ℕ, ◌+◌, ◌*◌, ◌<◌, eqb, length, take, drop, get_or}
use Rattle.outcome.specs.Answer.{Check, ◌unless◌, short_draw, first_refusal, pick, Answers}
use Rattle.outcome.specs.Lists.{flat}
use Rattle.packing.specs.Packing.{pack}
use Rattle.packing.specs.InnerVector.{Vector}
use Rattle.parameters.specs.declared.Params.{Params}
use Rattle.linear.specs.Linear.{response, transformation, scaled, syndrome}
use Rattle.scheme.specs.Strings.{digest, commitment0_string, commitment1_string, response_string, all_responses_string}
use Rattle.scheme.specs.Sign.{u', e', c0, c1, second_challenges, second_drawn, sign_draws, signature_from}

-- Checks that all refuse as short, with what they leave in a lent buffer where they pass.
pub record Drawn (checks : List Check) (made : List ℕ) (r : ℕ) (lent : List ℕ) : Type 0 where
  pub answer : r ≡ first_refusal checks
  pub content : r ≡ 0 → lent ≡ made

module _ (p : Params) where
  abbrev pub state_size : ℕ
  state_size = 2 * p.n + 2 * p.digest

  -- the state of round j, from the seeds of the rounds
  unfoldable pub round_state : (vs key : List ℕ) (seed : ℕ → List ℕ) (salt : List ℕ) → ℕ → List ℕ
  round_state vs key seed salt j = u' p seed salt j ++ e' p seed salt j ++ c0 p vs key seed salt j ++ c1 p seed salt j

  -- the string of c0(i) from V, the key exponents and the masks u' and e', and the state that they give
  abbrev pub syndrome_string : (vs key us es salt : List ℕ) → ℕ → List ℕ
  syndrome_string vs key us es salt i =
      commitment0_string (syndrome p.k vs (scaled (transformation key es) us)) (transformation key es) salt i

  abbrev pub state_from : (vs key us es salt : List ℕ) → ℕ → List ℕ
  state_from vs key us es salt i =
      us ++ es ++ digest p (syndrome_string vs key us es salt i) ++ digest p (commitment1_string us es salt i)

  -- the seed and the state of round j among those of all rounds
  abbrev pub seed_at : List ℕ → ℕ → List ℕ
  seed_at seeds j = take p.seed (drop (p.seed * j) seeds)

  abbrev pub state_at : List ℕ → ℕ → List ℕ
  state_at states j = take state_size (drop (state_size * j) states)

  -- u', e', c0(i) and c1(i) of a state
  abbrev pub values_of : List ℕ → List ℕ
  values_of state = take p.n state

  abbrev pub exponents_of : List ℕ → List ℕ
  exponents_of state = take p.n (drop p.n state)

  abbrev pub c0_of : List ℕ → List ℕ
  c0_of state = take p.digest (drop (2 * p.n) state)

  abbrev pub c1_of : List ℕ → List ℕ
  c1_of state = take p.digest (drop (2 * p.n + p.digest) state)

  -- the digests at an offset of all states; all c0(i) and all c1(i)
  abbrev pub digests_at : ℕ → List ℕ → List ℕ
  digests_at offset states = flat (λ j. take p.digest (drop offset (state_at states j))) p.t

  abbrev pub c0s : List ℕ → List ℕ
  c0s states = digests_at (2 * p.n) states

  abbrev pub c1s : List ℕ → List ℕ
  c1s states = digests_at (2 * p.n + p.digest) states

  -- y under a first challenge, and the part of a round: seed and c0(i) under 1; y, σ and c1(i) under 0
  unfoldable pub response_of : ℕ → List ℕ → List ℕ
  response_of β state = response β (values_of state) (exponents_of state)

  unfoldable pub part_of : (key : List ℕ) (β b : ℕ) (seed state : List ℕ) → List ℕ
  part_of key β b seed state =
      pick (eqb b 1) (seed ++ c0_of state)
      (pack 7 (response_of β state) ++ pack 3 (transformation key (exponents_of state)) ++ c1_of state)

  -- Over the states of all rounds, under first challenges β: h(i), h, and under second challenges b the parts.
  module _ (states β : List ℕ) where
    unfoldable pub h_at : ℕ → List ℕ
    h_at j = digest p (response_string (response_of (get_or β j 0) (state_at states j)))

    unfoldable pub h_of : List ℕ
    h_of = digest p (all_responses_string (flat h_at p.t))

    unfoldable pub part_at : (key seeds b : List ℕ) → ℕ → List ℕ
    part_at key seeds b j = part_of key (get_or β j 0) (get_or b j 0) (seed_at seeds j) (state_at states j)

    -- what replying answers, with c: one more draw, then the signature
    abbrev pub Replied : (key seeds salt msg c old : List ℕ) (r : ℕ) (new : List ℕ) → Type 0
    Replied key seeds salt msg c =
        Answers (short_draw unless second_drawn p c β h_of salt msg ∷ [])
        (salt ++ c ++ h_of ++ flat (part_at key seeds (second_challenges p c β h_of salt msg)) p.t)

  -- a state with u' and e' in their ranges, and the states of all rounds
  pub record State (state : List ℕ) : Type 0 where
    pub sized : length state ≡ state_size
    pub values : Vector 127 p.n (values_of state)
    pub exponents : Vector 7 p.n (exponents_of state)

  pub record States (states : List ℕ) : Type 0 where
    pub all_sized : length states ≡ p.t * state_size
    pub each : (j : ℕ) → j < p.t → State (state_at states j)

  -- what signing answers under V, key exponents and seeds of the rounds
  abbrev pub SignedWith : (vs key : List ℕ) (seed : ℕ → List ℕ) (salt msg old : List ℕ) (r : ℕ) (new : List ℕ) → Type 0
  SignedWith vs key seed salt msg = Answers (sign_draws p vs key seed salt msg) (signature_from p vs key seed salt msg)
