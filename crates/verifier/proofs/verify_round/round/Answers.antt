-- `round`: the reply, then both comparisons. Assumes nothing.
use Rattle.verifier.proofs.Exits.{exit}
use Rattle.verifier.proofs.Rounded.{round_compared, round_refuses}
use Rattle.verifier.proofs.verify_round.round.Goals as goal

pub returns-in_err-made : goal.returns-in_err-made
returns-in_err-made c =
    rw (exit c.from_residual.result c.from_residual.ensures.1)
    (round_refuses c.args.matching.now c.args.h.now c.in_err-made.field-0.0 c.in_err-made.ensures)

pub returns : goal.returns
returns c = round_compared c.args.matching.now c.args.h.now c.in_ok-made.ensures c.agree.ensures
