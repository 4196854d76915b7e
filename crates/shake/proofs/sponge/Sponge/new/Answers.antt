-- `new` meets its contract. Assumes nothing.
use Rattle.std.proofs.Common.{rules}
use Rattle.shake.specs.InnerFold.{absorb_bytes, fresh}
use Rattle.shake.proofs.sponge.Sponge.new.Goals as goal

pub returns : goal.returns
unfolding absorb_bytes fresh
returns c = search rules
