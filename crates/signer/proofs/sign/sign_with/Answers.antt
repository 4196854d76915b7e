-- `sign_with`: seeds and states are those of the definitions, and so is what follows from them. Assumes nothing.
use mathlib.Core.Path.{◌≡◌, refl, ◌∙◌, ap, sym}
use mathlib.Core.List.{◌∷◌, ◌++◌}
use Prim.Native.Nat.{ℕ}
use native.Mathlib.Omega.{arith}
use lib.ListN.{length, replicate, take, drop}
use Rattle.std.proofs.lemmas.Grind.{common_steps}
use Rattle.std.proofs.lemmas.Result.{err_from_is_err_and}
use Rattle.outcome.proofs.Checks.{refuses}
use Rattle.shake.specs.Shake.{shake}
use Rattle.scheme.specs.Strings.{bytes_from, round_seeds_string, joined}
use Rattle.scheme.specs.Sign.{round_seeds}
use Rattle.scheme.specs.Sign as sign
use Rattle.scheme.proofs.Challenges.{below_first}
use Rattle.signer.specs.InnerState.{seed_at, c1s}
use Rattle.signer.proofs.Loops.{held}
use Rattle.signer.proofs.Ranges.{ranged}
use Rattle.signer.proofs.Signed.{states_good, root_is, c_is, rounds_short, first_short, replied, seeded}
use Rattle.signer.proofs.sign.sign_with.Goals.{After-hash, After-join_states}
use Rattle.signer.proofs.sign.sign_with.Goals as goal

-- the seeds of the rounds, as they are hashed
seeds-are : (c : After-hash) → c.hash.new.out ≡ round_seeds c.args.key.now.category.sizes c.args.master.now c.args.salt.now
unfolding round_seeds bytes_from round_seeds_string
seeds-are c =
    let a = c.args in
    c.hash.ensures
    ∙ ap (λ (n : ℕ). shake a.key.now.category.sizes.rate (9 ∷ (a.master.now ++ a.salt.now)) n) c.requires.seeds_len.0

-- c, as it is lent
c-held : (c : After-join_states) →
    let a = c.args in
    let key = a.key.now in
    let p = key.category.sizes in
    let seed = seed_at p c.hash.new.out in
    take p.digest (c.join_states.new.c ++ drop p.digest (replicate 64 0))
    ≡ sign.c p seed a.salt.now (sign.c0_of_all p key.vs.now key.es.now seed a.salt.now)
c-held c =
    let a = c.args in
    let key = a.key.now in
    let p = key.category.sizes in
    let sound = key.category.sound in
    let seed = seed_at p c.hash.new.out in
    let drawn = sym c.in_ok-commit_all.ensures.answer in
    let states = c.in_ok-commit_all.ensures.content refl in
    let root-long : length c.aggregate_states.new.root ≡ p.digest = grind (arith, common_steps) in
    let c-long : length c.join_states.new.c ≡ p.digest = grind (arith, common_steps) in
    let root =
    held (replicate 64 0) root-long ∙ c.aggregate_states.ensures
    ∙ root_is p sound key.vs.now key.es.now seed a.salt.now drawn states
    in
    held (replicate 64 0) c-long ∙ c.join_states.ensures
    ∙ (λ i. joined p (root i) (c1s p c.commit_all.new.states))
    ∙ c_is p sound key.vs.now key.es.now seed a.salt.now drawn states _

pub returns-in_err-commit_all : goal.returns-in_err-commit_all
returns-in_err-commit_all c =
    let a = c.args in
    let key = a.key.now in
    let p = key.category.sizes in
    let end = err_from_is_err_and c.from_residual.result c.from_residual.ensures.1 in
    rw (end.1, end.2)
    (seeded p key.vs.now key.es.now a.master.now a.salt.now a.msg.now (seeds-are (goal.at.returns-in_err-commit_all c).After-hash)
    (refuses _ (rounds_short p key.vs.now key.es.now c.hash.new.out a.salt.now a.msg.now _ c.in_err-commit_all.ensures.answer)
    refl))

pub returns-in_err-first_challenges : goal.returns-in_err-first_challenges
returns-in_err-first_challenges c =
    let a = c.args in
    let key = a.key.now in
    let p = key.category.sizes in
    let end =
    err_from_is_err_and c.from_residual-in_err-first_challenges.result c.from_residual-in_err-first_challenges.ensures.1
    in
    rw (end.1, end.2)
    (seeded p key.vs.now key.es.now a.master.now a.salt.now a.msg.now
    (seeds-are (goal.at.returns-in_err-first_challenges c).After-hash)
    (refuses _
    (first_short p key.vs.now key.es.now c.hash.new.out a.salt.now a.msg.now c.in_ok-commit_all.ensures.answer
    (c-held (goal.at.returns-in_err-first_challenges c).After-join_states) _ c.in_err-first_challenges.ensures.answer)
    refl))

pub invariant_of-given : goal.invariant_of-given
invariant_of-given c =
    let a = c.args in
    let key = a.key.now in
    let p = key.category.sizes in
    let seed = seed_at p c.hash.new.out in
    record {
      exponents = key.exponents;
      seeds_size = grind (arith, common_steps);
      rounds =
          states_good p key.category.sound key.vs.now key.es.now seed a.salt.now (sym c.in_ok-commit_all.ensures.answer)
          (c.in_ok-commit_all.ensures.content refl);
      challenges =
          record {
            long = grind (arith, common_steps);
            ranged = ranged _ (c.in_ok-first_challenges.ensures.content refl) (below_first p _ a.salt.now a.msg.now);
          };
    }

pub returns : goal.returns
returns c =
    let a = c.args in
    let key = a.key.now in
    let p = key.category.sizes in
    let first = c.in_ok-first_challenges.ensures in
    seeded p key.vs.now key.es.now a.master.now a.salt.now a.msg.now (seeds-are (goal.at.returns c).After-hash)
    (replied p key.vs.now key.es.now c.hash.new.out a.salt.now a.msg.now c.in_ok-commit_all.ensures.answer
    (c-held (goal.at.returns c).After-join_states) key.category.sound (c.in_ok-commit_all.ensures.content refl) first.answer
    (first.content refl) c.reply.ensures)
