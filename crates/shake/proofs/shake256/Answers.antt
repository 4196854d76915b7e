-- `shake256` meets its contract: `fill` at its rate. Assumes nothing.
use borrow.Author.Rules.{rules}
use Rattle.shake.specs.Shake.{shake256}
use Rattle.shake.proofs.shake256.Goals as goal

pub returns : goal.returns
unfolding shake256
returns c = search rules
