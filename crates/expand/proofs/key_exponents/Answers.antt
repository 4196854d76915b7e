-- `key_exponents`: the part of the block that was lent holds the hash. Assumes nothing.
use Rattle.std.proofs.Common.{arith, replicate}
use Rattle.scheme.specs.Strings.{bytes_from, key_exponents_string}
use Rattle.scheme.specs.Key.{exponents_from, exponents_drawn}
use Rattle.expand.proofs.Lent.{lent, lent_hash}
use Rattle.expand.proofs.key_exponents.Goals as goal

pub returns : goal.returns
unfolding exponents_drawn exponents_from key_exponents_string bytes_from
returns c = rw (c.exponents.ensures, lent_hash (lent _ (replicate 256 0) c.hash.new.out (omega arith) c.hash.auto.out) _ _ c.hash.ensures) at c.sampled.ensures
