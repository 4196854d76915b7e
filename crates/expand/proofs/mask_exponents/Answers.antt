-- `mask_exponents`: the number of the round enters as two bytes. Assumes nothing.
use Rattle.scheme.specs.Strings.{bytes_from, mask_exponents_string}
use Rattle.scheme.specs.Key.{exponents_from, exponents_drawn}
use Rattle.scheme.specs.Round.{mask_exponents}
use Rattle.expand.proofs.mask_exponents.Goals as goal

pub returns : goal.returns
unfolding mask_exponents exponents_drawn exponents_from mask_exponents_string bytes_from
returns c = rw (c.exponents.ensures, c.round_number-number.ensures) at c.hashed.ensures
