-- `step`: the reply is recomputed, and the digests go into the sponges. Assumes nothing.
use Rattle.verifier.proofs.Exits.{exit}
use Rattle.verifier.proofs.Stepping.{step_refuses, stepped_one, stepped_other}
use Rattle.verifier.proofs.rounds.step.Goals as goal

pub returns-in_err-made : goal.returns-in_err-made
returns-in_err-made c =
    let cut = c.split_at.ensures in
    rw (exit c.from_residual.result c.from_residual.ensures.1)
    (step_refuses c.args.part.now c.reply_size.ensures cut.front cut.back c.in_err-made.field-0.0 c.in_err-made.ensures)

pub returns-then-b-eq1 : goal.returns-then-b-eq1
returns-then-b-eq1 c =
    let cut = c.split_at.ensures in
    let took = c.absorb_round.ensures in
    stepped_one c.args.part.now c.reply_size.ensures cut.front cut.back c.in_ok-made.ensures took.2 c.if-b-eq1.true
    took.0 took.1

pub returns-else-b-eq1 : goal.returns-else-b-eq1
returns-else-b-eq1 c =
    let cut = c.split_at.ensures in
    let took = c.absorb_round-else-b-eq1.ensures in
    stepped_other c.args.part.now c.reply_size.ensures cut.front cut.back c.in_ok-made.ensures took.2 c.if-b-eq1.false
    took.0 took.1
