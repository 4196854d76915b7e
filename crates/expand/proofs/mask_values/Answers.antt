-- `mask_values`: the number of the round enters as two bytes. Assumes nothing.
use Rattle.scheme.specs.Strings.{bytes_from, mask_values_string}
use Rattle.scheme.specs.Round.{mask_values, mask_block}
use Rattle.expand.proofs.mask_values.Goals as goal

pub returns : goal.returns
unfolding mask_values mask_block mask_values_string bytes_from
returns c = rw (c.mask_values.ensures, c.round_number-number.ensures) at c.hashed.ensures
