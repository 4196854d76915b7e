-- `commit_all`: after j rounds no draw of theirs was short, and their states are written. Assumes nothing.
use mathlib.Core.Path.{◌≡◌}
use Prim.Native.Nat.{◌+◌, ◌*◌}
use lib.ListN.{take}
use Rattle.outcome.specs.Answer.{first_refusal}
use Rattle.outcome.specs.Lists.{flat}
use Rattle.scheme.specs.Round.{round_draws}
use Rattle.signer.specs.InnerState.{seed_at, round_state}
use Rattle.signer.proofs.commit.commit_all.Given as goal

abbrev pub invariant-loop-j : goal.invariant-loop-j
invariant-loop-j l =
    let p = l.p.sizes in
    let seed = seed_at p l.seeds in
    record {
      passed : first_refusal (flat (λ j. round_draws p (seed j) l.salt (j + 1)) l.j) ≡ 0;
      written : take (l.size * l.j) l.states ≡ flat (round_state p l.key.vs.now l.key.es.now seed l.salt) l.j;
    }
