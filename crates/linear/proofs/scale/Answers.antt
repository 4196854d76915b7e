-- `scale`: the buffer has each product. Assumes nothing.
use native.Mathlib.Omega.{arith}
use Rattle.linear.specs.Linear.{scaled}
use Rattle.linear.proofs.Places.{zip_places}
use Rattle.linear.proofs.scale.Goals as goal

pub returns : goal.returns
unfolding scaled
returns c = zip_places _ _ _ _ c.requires.1 (omega arith) (λ k h. c.loop-i.invariant k (omega arith))
