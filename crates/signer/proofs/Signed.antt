-- From the states of the rounds in lent scratch to the definitions of the signature. Assumes nothing.
use mathlib.Core.Path.{◌≡◌, refl, ◌∙◌, ap, sym, subst}
use mathlib.Core.List.{List, [], ◌∷◌, ◌++◌, append_assoc, append-nil}
use Prim.Native.Nat.{ℕ, zero, suc, ◌+◌, ◌*◌, ◌<◌}
use native.Mathlib.Nat.{mul_comm, mul-suc, mul-zero}
use native.Mathlib.Omega.{arith}
use lib.Dec.{eqb}
use lib.ListN.{length, take, drop, get_or, length-append}
use lib.Seq.{take_at, drop_at, take_all}
use Rattle.outcome.specs.declared.refusal.Refusal.{Refusal}
use Rattle.outcome.specs.Answer.{Check, ◌unless◌, short_draw, number_of, first_refusal, pick}
use Rattle.outcome.specs.Lists.{flat, total}
use Rattle.outcome.proofs.Checks.{number_positive}
use Rattle.outcome.proofs.Answering.{stops, goes_on}
use Rattle.outcome.proofs.Lists.{flat_ext, flat_part, length_flat, flat_passed}
use Rattle.packing.specs.Packing.{pack}
use Rattle.packing.specs.InnerVector.{Vector}
use Rattle.parameters.specs.declared.Params.{Params}
use Rattle.parameters.specs.Sound.{Sound}
use Rattle.linear.specs.Linear.{response, transformation}
use Rattle.scheme.specs.Strings.{digest, response_string, all_responses_string, aggregate, joined}
use Rattle.scheme.specs.Round.{round_draws}
use Rattle.scheme.specs.Sign.{
  first_challenges,
  first_drawn,
  second_challenges,
  second_drawn,
  round_seeds,
  round_seed,
  seed_draws,
  challenge_draws,
  sign_draws,
  signature_from,
}
use Rattle.scheme.specs.Sign as sign
use Rattle.scheme.proofs.PartsStrings.{length_digest, length_mask, length_values}
use Rattle.signer.specs.InnerState.{
  state_size,
  seed_at,
  state_at,
  c0_of,
  c1_of,
  c0s,
  c1s,
  round_state,
  response_of,
  h_at,
  h_of,
  part_of,
  part_at,
  States,
  Replied,
  SignedWith,
}
use Rattle.signer.proofs.Ranges.{values_ranged, exponents_ranged}

-- four lists in a row, taken apart again
pub record Row (u e a b : List ℕ) (n d : ℕ) (row : List ℕ) : Type 0 where
  pub first : take n row ≡ u
  pub second : take n (drop n row) ≡ e
  pub third : take d (drop (2 * n) row) ≡ a
  pub fourth : take d (drop (2 * n + d) row) ≡ b
  pub long : length row ≡ 2 * n + 2 * d

in_row : (u e a b : List ℕ) (n d : ℕ) → length u ≡ n → length e ≡ n → length a ≡ d → length b ≡ d →
    Row u e a b n d (u ++ e ++ a ++ b)
in_row u e a b n d lu le la lb =
    let past_two = append_assoc (u ++ e) a b in
    let past_one = past_two ∙ append_assoc u e (a ++ b) in
    let two_long : length (u ++ e) ≡ 2 * n = omega (arith, length-append u e) in
    let three_long : length (u ++ e ++ a) ≡ 2 * n + d = omega (arith, length-append (u ++ e) a) in
    record {
      first = rw past_one (take_at u (e ++ (a ++ b)) n lu);
      second = rw (past_one, drop_at u (e ++ (a ++ b)) n lu) (take_at e (a ++ b) n le);
      third = rw (past_two, drop_at (u ++ e) (a ++ b) (2 * n) two_long) (take_at a b d la);
      fourth = rw (drop_at (u ++ e ++ a) b (2 * n + d) three_long) (take_all d b (omega arith));
      long = omega (arith, length-append (u ++ e ++ a) b);
    }

total_same : (s m : ℕ) → total (λ _. s) m ≡ s * m
unfolding total
total_same s zero = sym (mul-zero s)
total_same s (suc m) = rw (total_same s m, mul-suc s m)

-- ---- the rounds, where no draw of theirs was short

module _ (p : Params) (sound : Sound p) (vs key : List ℕ) (seed : ℕ → List ℕ) (salt : List ℕ)
    (drawn : first_refusal (seed_draws p seed salt) ≡ 0) where
  abbrev stateⱼ : ℕ → List ℕ
  stateⱼ = round_state p vs key seed salt

  drawnⱼ : (j : ℕ) → j < p.t → first_refusal (round_draws p (seed j) salt (j + 1)) ≡ 0
  unfolding seed_draws
  drawnⱼ = flat_passed (λ j. round_draws p (seed j) salt (j + 1)) p.t drawn

  values : (j : ℕ) → j < p.t → Vector 127 p.n (sign.u' p seed salt j)
  unfolding sign.u'
  values j l =
      record {
        long = length_values p (seed j) salt (j + 1) (drawnⱼ j l);
        ranged = values_ranged p (seed j) salt (j + 1);
      }

  exponents : (j : ℕ) → j < p.t → Vector 7 p.n (sign.e' p seed salt j)
  unfolding sign.e'
  exponents j l =
      record {
        long = length_mask p (seed j) salt (j + 1) (drawnⱼ j l);
        ranged = exponents_ranged p (seed j) salt (j + 1);
      }

  abbrev Rowⱼ : ℕ → List ℕ → Type 0
  Rowⱼ j =
      Row (sign.u' p seed salt j) (sign.e' p seed salt j) (sign.c0 p vs key seed salt j) (sign.c1 p seed salt j) p.n
      p.digest

  state_row : (j : ℕ) → j < p.t → Rowⱼ j (stateⱼ j)
  unfolding round_state sign.c0 sign.c1
  state_row j l =
      in_row (sign.u' p seed salt j) (sign.e' p seed salt j) (sign.c0 p vs key seed salt j) (sign.c1 p seed salt j)
      p.n p.digest (values j l).long (exponents j l).long (length_digest p sound _) (length_digest p sound _)

  -- what is read out of the states is what the definitions say
  module _ {states : List ℕ} (held : states ≡ flat stateⱼ p.t) where
    state_at_lem : (j : ℕ) → j < p.t → state_at p states j ≡ stateⱼ j
    state_at_lem j l =
        (let here = sym (total_same (state_size p) j) in
        let all = held ∙ sym (append-nil (flat stateⱼ p.t)) in
        λ i. take (state_size p) (drop (here i) (all i)))
        ∙ flat_part stateⱼ (λ _. state_size p) p.t (λ j l. (state_row j l).long) [] j l

    row : (j : ℕ) → j < p.t → Rowⱼ j (state_at p states j)
    row j l = subst (Rowⱼ j) (sym (state_at_lem j l)) (state_row j l)

    pub states_good : States p states
    states_good =
        record {
          all_sized =
              ap length held
              ∙ length_flat stateⱼ (λ _. state_size p) p.t (λ j l. (state_row j l).long)
              ∙ total_same (state_size p) p.t
              ∙ mul_comm (state_size p) p.t;
          each = λ j l.
              record {
                sized = (row j l).long;
                values = rw (row j l).first (values j l);
                exponents = rw (row j l).second (exponents j l);
              };
        }

    -- the aggregate, c, h and the parts
    pub root_is : aggregate p (c0s p states) ≡ sign.c0_of_all p vs key seed salt
    unfolding sign.c0_of_all
    root_is =
        ap (aggregate p) (flat_ext (λ j. c0_of p (state_at p states j)) (sign.c0 p vs key seed salt) p.t
        (λ j l. (row j l).third))

    pub c_is : (root : List ℕ) → joined p root (c1s p states) ≡ sign.c p seed salt root
    unfolding sign.c
    c_is root =
        ap (joined p root)
        (flat_ext (λ j. c1_of p (state_at p states j)) (sign.c1 p seed salt) p.t (λ j l. (row j l).fourth))

    h_is : (β : List ℕ) → h_of p states β ≡ sign.h_of_all p seed salt β
    unfolding h_of h_at response_of sign.h_of_all sign.hᵢ sign.y
    h_is β =
        ap (λ (all : List ℕ). digest p (all_responses_string all))
        (flat_ext (h_at p states β) (sign.hᵢ p seed salt β) p.t
        (λ j l. λ i. digest p (response_string (response (get_or β j 0) ((row j l).first i) ((row j l).second i)))))

    parts_are : (seeds β b : List ℕ) → ((j : ℕ) → seed_at p seeds j ≡ seed j) →
        flat (part_at p states β key seeds b) p.t ≡ flat (sign.part p vs key seed salt β b) p.t
    unfolding part_at part_of response_of sign.part sign.y sign.σ
    parts_are seeds β b own =
        flat_ext (part_at p states β key seeds b) (sign.part p vs key seed salt β b) p.t
        (λ j l. λ i.
        pick (eqb (get_or b j 0) 1) (own j i ++ (row j l).third i)
        (pack 7 (response (get_or β j 0) ((row j l).first i) ((row j l).second i)) ++
        pack 3 (transformation key ((row j l).second i)) ++
        (row j l).fourth i))

-- ---- the answers, where the seeds of the rounds are parts of one string

module _ (p : Params) (vs key seeds salt msg : List ℕ) where
  abbrev seedⱼ : ℕ → List ℕ
  seedⱼ = seed_at p seeds

  abbrev root : List ℕ
  root = sign.c0_of_all p vs key seedⱼ salt

  abbrev challenges : List Check
  challenges = challenge_draws p seedⱼ salt root msg

  abbrev second_draw : List Check
  second_draw =
      short_draw unless
      second_drawn p (sign.c p seedⱼ salt root) (sign.β p seedⱼ salt root msg) (sign.h p seedⱼ salt root msg) salt msg ∷
      []

  pub rounds_short : (r : Refusal) → number_of r ≡ first_refusal (seed_draws p seedⱼ salt)
      → number_of r ≡ first_refusal (sign_draws p vs key seedⱼ salt msg)
  unfolding sign_draws
  rounds_short r e = stops (seed_draws p seedⱼ salt) challenges e (number_positive r)

  module _
      (drawn : 0 ≡ first_refusal (seed_draws p seedⱼ salt))
      {c : List ℕ}
      (c_same : c ≡ sign.c p seedⱼ salt root)
    where
      -- the draw of the first challenges, from c
      abbrev pub first_draw : List Check
      first_draw = short_draw unless first_drawn p c salt msg ∷ []

      after_first : {q : ℕ} → q ≡ first_refusal (first_draw ++ second_draw) → q ≡ first_refusal (sign_draws p vs key seedⱼ salt msg)
      unfolding sign_draws challenge_draws
      after_first e =
          goes_on (seed_draws p seedⱼ salt) challenges drawn refl
          (e ∙ ap (λ (s : List ℕ). first_refusal (short_draw unless first_drawn p s salt msg ∷ second_draw)) c_same)

      pub first_short : (r : Refusal) → number_of r ≡ first_refusal first_draw
          → number_of r ≡ first_refusal (sign_draws p vs key seedⱼ salt msg)
      first_short r e = after_first (stops first_draw second_draw e (number_positive r))

      pub replied : Sound p → {states β old new : List ℕ} {r : ℕ} →
          states ≡ flat (round_state p vs key seedⱼ salt) p.t →
          0 ≡ first_refusal first_draw →
          β ≡ first_challenges p c salt msg →
          Replied p states β key seeds salt msg c old r new →
          SignedWith p vs key seedⱼ salt msg old r new
      unfolding signature_from sign.β sign.h sign.b
      replied sound {states = states} {β = β} {old = old} {r = r} held suffices first answers =
          let β-same = first ∙ ap (λ (s : List ℕ). first_challenges p s salt msg) c_same in
          let h_same = h_is p sound vs key seedⱼ salt (sym drawn) held β ∙ ap (sign.h_of_all p seedⱼ salt) β-same in
          let parts_same =
          parts_are p sound vs key seedⱼ salt (sym drawn) held seeds β (second_challenges p c β (h_of p states β) salt msg)
          (λ j. refl)
          ∙ (λ i. flat
          (sign.part p vs key seedⱼ salt (β-same i) (second_challenges p (c_same i) (β-same i) (h_same i) salt msg))
          p.t)
          in
          record {
            answer =
                after_first
                (goes_on first_draw second_draw suffices refl
                (answers.answer
                ∙ (λ i. first_refusal (short_draw unless second_drawn p (c_same i) (β-same i) (h_same i) salt msg ∷ []))));
            content = answers.content ∙ (λ i. pick (eqb r 0) (salt ++ c_same i ++ h_same i ++ parts_same i) old);
          }

-- the string of the seeds is that of the definition
pub seeded : (p : Params) (vs key master salt msg : List ℕ) {seeds old new : List ℕ} {r : ℕ} →
    seeds ≡ round_seeds p master salt →
    SignedWith p vs key (seed_at p seeds) salt msg old r new →
    SignedWith p vs key (round_seed p master salt) salt msg old r new
unfolding round_seed
seeded p vs key master salt msg {old = old} {new = new} {r = r} e answers =
    subst (λ (s : List ℕ). SignedWith p vs key (seed_at p s) salt msg old r new) e answers
