-- `run`: after j rounds that passed, the sponges hold their digests. Assumes nothing.
use native.Mathlib.Omega.{arith}
use Rattle.packing.proofs.Below.{below, below_at}
use Rattle.verifier.proofs.Exits.{exit}
use Rattle.verifier.proofs.Running.{running_none, part_within, running_more, run_refuses}
use Rattle.verifier.proofs.rounds.run.Goals as goal

pub loop-j-init : goal.loop-j-init
loop-j-init c =
    let a = c.args in
    running_none a.key.category.sizes a.key.vs.now a.key.s.now a.salt.now a.rounds.now a.betas.now a.bs.now
    c.begin-sponges.ensures

pub invariant_of-round : goal.invariant_of-round
invariant_of-round c =
    let betas = c.requires.0 in
    below_at (below 127 c.args.betas.now betas.ranged) c.loop-j.j (omega (arith, betas.long))

pub overflow_add-end : goal.overflow_add-end
overflow_add-end c =
    omega (arith, c.part_size.ensures, part_within c.loop-j.invariant (omega arith) c.requires.2)

pub slice_bounds-step-end : goal.slice_bounds-step-end
slice_bounds-step-end c =
    omega (arith, c.part_size.ensures, part_within c.loop-j.invariant (omega arith) c.requires.2)

pub returns-in_err-step : goal.returns-in_err-step
returns-in_err-step c =
    rw (exit c.from_residual.result c.from_residual.ensures.1)
    (run_refuses c.loop-j.invariant (omega arith) c.part_size.ensures
    c.in_err-step.field-0.0 c.in_err-step.ensures)

pub loop-j-preserved : goal.loop-j-preserved
loop-j-preserved c =
    running_more c.loop-j.invariant (omega arith) c.part_size.ensures c.in_ok-step.ensures
