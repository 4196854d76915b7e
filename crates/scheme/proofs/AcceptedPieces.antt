-- With the signer's own c and h the pieces of its signature pass the verifier's tests.
-- Assumes nothing.
use mathlib.Core.Path.{◌≡◌, ◌∙◌}
use mathlib.Core.List.{List}
use Prim.Native.Nat.{ℕ, ◌+◌, ◌-◌, ◌*◌, ◌<◌}
use lib.ListN.{length}
use Rattle.outcome.specs.Answer.{Check, first_refusal}
use Rattle.outcome.specs.Lists.{flat}
use Rattle.outcome.proofs.Checks.{both_passed, passed_front}
use Rattle.outcome.proofs.Lists.{flat_ext, flat_answered, flat_passed, same_refl}
use Rattle.packing.proofs.Below.{Below}
use Rattle.parameters.specs.declared.Params.{Params}
use Rattle.parameters.specs.Sound.{Sound}
use Rattle.linear.specs.Linear.{powers, syndrome}
use Rattle.scheme.specs.Strings.{digest, aggregate, joined, all_responses_string}
use Rattle.scheme.specs.Round.{round_draws}
use Rattle.scheme.specs.Sign.{part_size}
use Rattle.scheme.specs.Sign as sign
use Rattle.scheme.specs.Verify as verify
use Rattle.scheme.proofs.Challenges.{second_fills}
use Rattle.scheme.proofs.AcceptedRounds.{Agreed, agreed, length_rounds}

module _
    (p : Params)
    (sound : Sound p)
    (vs key : List ℕ)
    (long : length key ≡ p.n)
    (ranged : Below 7 key)
    (seed : ℕ → List ℕ)
    (salt msg : List ℕ)
    (sized : (j : ℕ) → j < p.t → length (seed j) ≡ p.seed)
    (drawn : first_refusal (sign.sign_draws p vs key seed salt msg) ≡ 0)
  where
    abbrev pub root : List ℕ
    root = sign.c0_of_all p vs key seed salt

    abbrev pub c : List ℕ
    c = sign.c p seed salt root

    abbrev pub h : List ℕ
    h = sign.h p seed salt root msg

    abbrev pub β : List ℕ
    β = sign.β p seed salt root msg

    abbrev pub b : List ℕ
    b = sign.b p seed salt root msg

    abbrev pub s : List ℕ
    s = syndrome p.k vs (powers key)

    abbrev pub parts : List ℕ
    parts = flat (sign.part p vs key seed salt β b) p.t

    abbrev round_drawsⱼ : ℕ → List Check
    round_drawsⱼ j = round_draws p (seed j) salt (j + 1)

    abbrev challenge_draws : List Check
    challenge_draws = sign.challenge_draws p seed salt root msg

    draws : (first_refusal (flat round_drawsⱼ p.t) ≡ 0) × (first_refusal challenge_draws ≡ 0)
    unfolding sign.sign_draws sign.seed_draws
    draws = both_passed (flat round_drawsⱼ p.t) challenge_draws drawn

    agreedⱼ : (j : ℕ) → j < p.t → Agreed p vs key seed salt β b j
    agreedⱼ = agreed p vs key seed salt β b sound long ranged sized (flat_passed round_drawsⱼ p.t draws.0)

    c_agrees :
        joined p (aggregate p (flat (verify.c0_at p vs s salt parts β b) p.t))
        (flat (verify.c1_at p vs s salt parts β b) p.t) ≡ c
    unfolding sign.c sign.c0_of_all
    c_agrees =
        rw (
          flat_ext (verify.c0_at p vs s salt parts β b) (sign.c0 p vs key seed salt) p.t (λ j l. (agreedⱼ j l).c0),
          flat_ext (verify.c1_at p vs s salt parts β b) (sign.c1 p seed salt) p.t (λ j l. (agreedⱼ j l).c1),
        )

    h_agrees : digest p (all_responses_string (flat (verify.h_at p vs s salt parts β b) p.t)) ≡ h
    unfolding sign.h sign.h_of_all
    h_agrees =
        rw (flat_ext (verify.h_at p vs s salt parts β b) (sign.hᵢ p seed salt β) p.t (λ j l. (agreedⱼ j l).hᵢ))

    abbrev checksⱼ : ℕ → List Check
    checksⱼ = verify.checks_at p vs s salt parts β b

    rounds_pass : first_refusal (flat checksⱼ p.t) ≡ 0
    rounds_pass = flat_answered checksⱼ p.t (λ j l. (agreedⱼ j l).passes)

    abbrev compared : List Check
    compared =
        verify.differences p c h (aggregate p (flat (verify.c0_at p vs s salt parts β b) p.t))
        (flat (verify.c1_at p vs s salt parts β b) p.t)
        (flat (verify.h_at p vs s salt parts β b) p.t)

    pub pieces_pass : first_refusal (verify.piece_checks p vs s salt c h parts msg) ≡ 0
    unfolding verify.piece_checks verify.rounds_checks verify.differences verify.β verify.b sign.β sign.b sign.challenge_draws
    pieces_pass =
        passed_front challenge_draws (verify.rounds_checks p vs s salt c h parts msg) draws.1 ∙
        (passed_front (flat checksⱼ p.t) compared rounds_pass ∙
        rw (c_agrees, h_agrees, same_refl c, same_refl h))

    pub length_parts : length parts ≡ p.w * part_size p 1 + (p.t - p.w) * part_size p 0
    unfolding sign.b
    length_parts =
        length_rounds p vs key seed salt β b sound long ranged sized (flat_passed round_drawsⱼ p.t draws.0) ∙
        second_fills p sound c β h salt msg
