-- `shake128` meets its contract: `fill` at its rate. Assumes nothing.
use borrow.Author.Rules.{rules}
use Rattle.shake.specs.Shake.{shake128}
use Rattle.shake.proofs.shake128.Goals as goal

pub returns : goal.returns
unfolding shake128
returns c = search rules
