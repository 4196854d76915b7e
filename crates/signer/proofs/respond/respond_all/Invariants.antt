-- `respond_all`: after j rounds the sponge has taken in h(i) of each. Assumes nothing.
use mathlib.Core.List.{◌∷◌}
use Rattle.outcome.specs.Lists.{flat}
use Rattle.shake.specs.InnerFold.{Holds}
use Rattle.signer.specs.InnerState.{h_at}
use Rattle.signer.proofs.respond.respond_all.Given as goal

abbrev pub invariant-loop-j : goal.invariant-loop-j
invariant-loop-j l =
    let p = l.given.category.sizes in
    Holds l.sponge p.rate (6 ∷ flat (h_at p l.given.states.now l.given.betas.now) l.j)
