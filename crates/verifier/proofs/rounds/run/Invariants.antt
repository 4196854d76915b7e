-- `run`: after j rounds that passed, the sponges hold their digests. Assumes nothing.
use Rattle.verifier.proofs.Running.{Running}
use Rattle.verifier.proofs.rounds.run.Given as goal

abbrev pub invariant-loop-j : goal.invariant-loop-j
invariant-loop-j l =
    Running l.key.category.sizes l.key.vs.now l.key.s.now l.salt l.rounds l.betas l.bs l.sponges l.at l.j
