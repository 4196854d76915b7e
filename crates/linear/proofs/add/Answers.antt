-- `add`: the buffer spells each sum. Assumes nothing.
use native.Mathlib.Omega.{arith}
use Rattle.linear.specs.InnerSteps.{added}
use Rattle.linear.proofs.Spelled.{loose_zip}
use Rattle.linear.proofs.add.Goals as goal

pub returns : goal.returns
unfolding added
returns c = loose_zip _ _ _ _ c.requires.0 (omega arith) (λ k h. c.loop-i.invariant.0 k (omega arith))
