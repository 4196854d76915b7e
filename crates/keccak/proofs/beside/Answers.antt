-- θ's sum beside a column. Assumes nothing.
use Rattle.keccak.proofs.Complement.{beside_shown}
use Rattle.keccak.proofs.beside.Goals as goal

pub returns : goal.returns
returns c =
    let fits = c.ranges in
    beside_shown fits.before.fits fits.after.fits c.turned.ensures
