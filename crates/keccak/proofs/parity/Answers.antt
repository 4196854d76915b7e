-- The parity of five lanes, whichever of them are complemented. Assumes nothing.
use Rattle.keccak.proofs.Complement.{parity_shown}
use Rattle.keccak.proofs.parity.Goals as goal

pub returns : goal.returns
returns c =
    let fits = c.ranges in
    parity_shown fits.a.fits fits.b.fits fits.c.fits fits.d.fits fits.e.fits
