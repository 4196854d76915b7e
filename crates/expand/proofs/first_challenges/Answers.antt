-- `first_challenges`: the draw is that of the scheme. Assumes nothing.
use Rattle.scheme.specs.Strings.{bytes_from, first_challenges_string}
use Rattle.scheme.specs.Sign.{first_challenges, first_drawn, first_block}
use Rattle.expand.proofs.first_challenges.Goals as goal

pub returns : goal.returns
unfolding first_challenges first_drawn first_block first_challenges_string bytes_from
returns c = rw c.first_challenges.ensures at c.hashed.ensures
