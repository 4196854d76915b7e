-- `recompute`: by the second challenge. Assumes nothing.
use Rattle.verifier.proofs.Values.{as_other, as_seed}
use Rattle.verifier.proofs.reply.recompute.Goals as goal

pub returns-then-round-eq1 : goal.returns-then-round-eq1
returns-then-round-eq1 c = as_seed c.if-round-eq1.true c.from_seed.ensures

pub returns-else-round-eq1 : goal.returns-else-round-eq1
returns-else-round-eq1 c = as_other c.if-round-eq1.false c.from_values.ensures
