-- `hash_digests`: after j states the sponge has taken in the digests of those. Assumes nothing.
use mathlib.Core.List.{◌∷◌}
use lib.ListN.{take, drop}
use Rattle.outcome.specs.Lists.{flat}
use Rattle.shake.specs.InnerFold.{Holds}
use Rattle.signer.specs.InnerState.{state_at}
use Rattle.signer.proofs.commit.hash_digests.Given as goal

abbrev pub invariant-loop-j : goal.invariant-loop-j
invariant-loop-j l =
    let p = l.rounds.category.sizes in
    Holds l.sponge p.rate (l.tag ∷ flat (λ j. take p.digest (drop l.offset (state_at p l.rounds.states.now j))) l.j)
