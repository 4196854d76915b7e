-- `transform`: the buffer has each difference. Assumes nothing.
use native.Mathlib.Omega.{arith}
use Rattle.linear.specs.Linear.{transformation}
use Rattle.linear.proofs.Places.{zip_places}
use Rattle.linear.proofs.transform.Goals as goal

pub returns : goal.returns
unfolding transformation
returns c = zip_places _ _ _ _ c.requires.1 (omega arith) (λ k h. c.loop-i.invariant k (omega arith))
