-- `subtract`: the buffer spells each difference. Assumes nothing.
use native.Mathlib.Omega.{arith}
use Rattle.linear.specs.Linear.{less_times}
use Rattle.linear.proofs.Spelled.{loose_zip}
use Rattle.linear.proofs.subtract.Goals as goal

pub returns : goal.returns
unfolding less_times
returns c = loose_zip _ _ _ _ c.requires.1 (omega arith) (λ k h. c.loop-i.invariant k (omega arith))
