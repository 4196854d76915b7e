-- The rounds upward: what holds after j of them. Assumes nothing.
use mathlib.Core.Path.{◌≡◌, refl, subst}
use mathlib.Core.List.{List, []}
use Prim.Native.Nat.{ℕ, ◌+◌, ◌-◌, ◌<◌, ◌≤◌}
use native.Mathlib.Numerals.{add-one}
use native.Mathlib.Omega.{arith}
use lib.ListN.{length, take, drop, get_or}
use Rattle.outcome.specs.declared.refusal.Refusal.{Refusal}
use Rattle.outcome.specs.Answer.{number_of, first_refusal}
use Rattle.outcome.proofs.Checks.{number_positive}
use Rattle.std.proofs.Common.{Err}
use Rattle.outcome.specs.Lists.{flat, total}
use Rattle.parameters.specs.declared.Params.{Params}
use Rattle.scheme.specs.Strings.{all_commitments0_string, all_commitments1_string, all_responses_string}
use Rattle.scheme.specs.Sign.{part_size}
use Rattle.scheme.specs.Verify.{offset, part_at, checks_at, c0_at, c1_at, h_at}
use Rattle.scheme.proofs.Challenges.{total_within}
use Rattle.verifier.specs.declared.rounds.Sponges.{Sponges}
use Rattle.verifier.specs.InnerRounds.{Stepped, HoldAll, Ran}
use Rattle.outcome.proofs.Answering.{flat_stops, flat_passes}

module _ (p : Params) (vs s salt rounds β b : List ℕ) where
  -- the first j rounds passed, the next part begins at `at`, and the sponges hold the digests of the j rounds
  pub record Running (sponges : Sponges) (at j : ℕ) : Type 0 where
    pub passed : first_refusal (flat (checks_at p vs s salt rounds β b) j) ≡ 0
    pub begins : at ≡ offset p b j
    pub holds : HoldAll sponges p.rate (flat (c0_at p vs s salt rounds β b) j) (flat (c1_at p vs s salt rounds β b) j)
        (flat (h_at p vs s salt rounds β b) j)

  pub running_none : {sponges : Sponges} → HoldAll sponges p.rate [] [] [] → Running sponges 0 0
  unfolding flat total
  running_none h = record { passed = refl; begins = refl; holds = h }

module _ {p : Params} {vs s salt rounds β b : List ℕ} {sponges : Sponges} {at j : ℕ}
    (running : Running p vs s salt rounds β b sponges at j) where
  module _ (below : j < p.t) where
    -- the part of round j is within the rounds, ..
    pub part_within : offset p b p.t ≡ length rounds → at + part_size p (get_or b j 0) ≤ length rounds
    part_within all =
        let fits : offset p b j + part_size p (get_or b j 0) ≤ offset p b p.t =
        total_within (λ i. part_size p (get_or b i 0)) j p.t below in
        omega (arith, running.begins)

    module _ {size : ℕ} (sized : size ≡ part_size p (get_or b j 0)) where
      -- .. and is what is lent of them
      part_is : take (at + size - at) (drop at rounds) ≡ part_at p vs s salt rounds β b j
      unfolding part_at
      part_is =
          let long : at + size - at ≡ part_size p (get_or b j 0) = omega arith in
          λ i. take (long i) (drop (running.begins i) rounds)

      here : {r : ℕ} {next : Sponges}
          → Stepped p vs s salt (j + 1) (get_or β j 0) (get_or b j 0) (take (at + size - at) (drop at rounds)) sponges r next
          → Stepped p vs s salt (j + 1) (get_or β j 0) (get_or b j 0) (part_at p vs s salt rounds β b j) sponges r next
      here {r} {next} =
          subst (λ (part : List ℕ). Stepped p vs s salt (j + 1) (get_or β j 0) (get_or b j 0) part sponges r next) part_is

      pub running_more : {next : Sponges}
          → Stepped p vs s salt (j + 1) (get_or β j 0) (get_or b j 0) (take (at + size - at) (drop at rounds)) sponges 0 next
          → Running p vs s salt rounds β b next (at + size) (j + 1)
      unfolding flat total checks_at c0_at c1_at h_at all_commitments0_string all_commitments1_string all_responses_string
      running_more step =
          rw add-one
          (record {
            passed = flat_passes (checks_at p vs s salt rounds β b) j running.passed (here step).answer refl;
            begins = (λ i. running.begins i + sized i);
            holds = record {
              c0 = ((here step).c0 refl).holds running.holds.c0;
              c1 = ((here step).c1 refl).holds running.holds.c1;
              h = ((here step).h refl).holds running.holds.h;
            };
          })

      pub run_refuses : {next : Sponges} (e : Refusal)
          → Stepped p vs s salt (j + 1) (get_or β j 0) (get_or b j 0) (take (at + size - at) (drop at rounds)) sponges
          (number_of e) next
          → Ran p vs s salt rounds β b (Err e)
      unfolding checks_at
      run_refuses e step =
          record {
            answer = flat_stops (checks_at p vs s salt rounds β b) p.t j below running.passed (here step).answer
                (number_positive e);
            holds = λ sponges same. cc;
          }
