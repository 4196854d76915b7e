-- `normalize`: the buffer has each residue. Assumes nothing.
use native.Mathlib.Omega.{arith}
use Rattle.linear.specs.InnerLoose.{residues}
use Rattle.linear.proofs.Places.{map_places}
use Rattle.linear.proofs.normalize.Goals as goal

pub returns : goal.returns
unfolding residues
returns c = map_places _ _ _ (omega arith) (λ k h. c.loop-x.invariant.0 k (omega arith))
