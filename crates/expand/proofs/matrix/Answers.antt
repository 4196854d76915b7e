-- `matrix`: the block holds the hash of the public seed. Assumes nothing.
use Rattle.scheme.specs.Strings.{bytes_from, matrix_string}
use Rattle.scheme.specs.Key.{matrix, matrix_drawn, matrix_block}
use Rattle.expand.proofs.matrix.Goals as goal

pub returns : goal.returns
unfolding matrix matrix_drawn matrix_block matrix_string bytes_from
returns c = rw (c.matrix.ensures, c.hash.ensures, c.requires.0) at c.sampled.ensures
