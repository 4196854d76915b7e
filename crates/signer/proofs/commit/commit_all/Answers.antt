-- `commit_all`: after j rounds no draw of theirs was short, and their states are written. Assumes nothing.
use mathlib.Core.Path.{◌≡◌, refl, ◌∙◌, ap, sym}
use mathlib.Core.List.{List}
use Prim.Native.Nat.{ℕ, ◌+◌, ◌*◌}
use native.Mathlib.Nat.{mul_comm, mul-suc}
use native.Mathlib.Numerals.{add-one}
use native.Mathlib.Omega.{arith}
use lib.ListN.{length}
use Rattle.std.proofs.lemmas.Grind.{common_steps}
use Rattle.std.proofs.lemmas.Result.{err_from_is_err_and}
use Rattle.outcome.specs.Answer.{Check, first_refusal}
use Rattle.outcome.specs.Lists.{flat}
use Rattle.outcome.proofs.Checks.{number_positive}
use Rattle.outcome.proofs.Answering.{flat_stops, flat_passes}
use Rattle.scheme.specs.Round.{round_draws}
use Rattle.scheme.specs.Sign.{seed_draws}
use Rattle.signer.specs.InnerState.{seed_at, round_state}
use Rattle.signer.proofs.Made.{state_of}
use Rattle.signer.proofs.Loops.{part_within, turns}
use Rattle.signer.proofs.commit.commit_all.Goals as goal

pub slice_bounds-commit_round-end : goal.slice_bounds-commit_round-end
slice_bounds-commit_round-end c =
    let t = c.args.key.now.category.sizes.t in
    omega (
      arith,
      part_within c.loop-j.j t c.state_size-size.result c.loop-j-test.true c.requires.1 c.state_size-size.ensures,
    )

pub returns-in_err-commit_round : goal.returns-in_err-commit_round
unfolding seed_draws
returns-in_err-commit_round c =
    let a = c.args in
    let p = a.key.now.category.sizes in
    let draws : List ℕ → ℕ → List Check = λ seed j. round_draws p seed a.salt.now (j + 1) in
    let own = ap (λ (seed : List ℕ). first_refusal (draws seed c.loop-j.j)) c.round_part-seed.ensures in
    let end = err_from_is_err_and c.from_residual.result c.from_residual.ensures.1 in
    rw (end.1, end.2)
    record {
      answer =
          flat_stops (λ j. draws (seed_at p a.seeds.now j) j) p.t c.loop-j.j c.loop-j-test.true c.loop-j.invariant.passed
          (c.in_err-commit_round.ensures.answer ∙ own) (number_positive _);
      content = λ z. absurd (number_positive _ z);
    }

pub loop-j-preserved : goal.loop-j-preserved
loop-j-preserved c =
    let a = c.args in
    let key = a.key.now in
    let p = key.category.sizes in
    let j = c.loop-j.j in
    let size = c.state_size-size.result in
    let seed : ℕ → List ℕ = seed_at p a.seeds.now in
    let made = c.in_ok-commit_round.ensures in
    let own = ap (λ (s : List ℕ). first_refusal (round_draws p s a.salt.now (j + 1))) c.round_part-seed.ensures in
    let inside = part_within j p.t size c.loop-j-test.true c.requires.1 c.state_size-size.ensures in
    let made_is = made.content refl ∙ state_of p key.vs.now key.es.now seed a.salt.now j c.round_part-seed.ensures in
    let next : size * (j + 1) ≡ size * j + size = rw (add-one j, mul-suc size j) in
    record {
      passed =
          rw (add-one j)
          (flat_passes (λ j. round_draws p (seed j) a.salt.now (j + 1)) j c.loop-j.invariant.passed (made.answer ∙ own)
          refl);
      written = grind (arith, turns);
    }

pub returns : goal.returns
unfolding seed_draws
returns c =
    let a = c.args in
    let key = a.key.now in
    let p = key.category.sizes in
    let seed : ℕ → List ℕ = seed_at p a.seeds.now in
    let states : ℕ → List ℕ = round_state p key.vs.now key.es.now seed a.salt.now in
    let end : c.loop-j.j ≡ p.t = omega arith in
    let size = c.state_size-size.ensures in
    let whole : c.state_size-size.result * c.loop-j.j ≡ length a.states.now =
    mul_comm c.state_size-size.result c.loop-j.j ∙ (λ i. end i * size i) ∙ sym c.requires.1
    in
    record {
      answer =
          sym c.loop-j.invariant.passed
          ∙ ap (λ (j : ℕ). first_refusal (flat (λ j. round_draws p (seed j) a.salt.now (j + 1)) j)) end;
      content = λ _. grind (arith, common_steps);
    }
