-- `verify_four_rounds`: the four answers, put together. Assumes nothing.
use Rattle.duty.proofs.Carry.{verifies_four_rounds}
use Rattle.duty.proofs.theorems.verify_four_rounds.Goals as goal

pub returns : goal.returns
returns g c = verifies_four_rounds c.verify_round-a.ensures c.verify_round-b.ensures c.verify_round-c.ensures c.verify_round-d.ensures
