-- The parities of the columns, and θ's sums. Assumes nothing.
use Rattle.keccak.specs.InnerPlanes.{sided_row}
use Rattle.keccak.proofs.Laws.{sums}
use Rattle.keccak.proofs.sides.Goals as goal

pub returns : goal.returns
unfolding sided_row
returns c =
    sums c.args.s.now c.parity-c0.ensures c.parity-c1.ensures c.parity-c2.ensures c.parity-c3.ensures c.parity-c4.ensures
    c.beside.ensures c.beside-2.ensures c.beside-3.ensures c.beside-4.ensures c.beside-5.ensures
