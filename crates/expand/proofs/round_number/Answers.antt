-- `round_number`: two digits in base 256. Assumes nothing.
use Rattle.std.proofs.Common.{rules}
use Rattle.packing.specs.Packing.{digits}
use Rattle.expand.proofs.round_number.Goals as goal

pub returns : goal.returns
unfolding digits
returns c = search rules
