-- `begin`: each sponge holds its tag. Assumes nothing.
use Rattle.scheme.specs.Strings.{all_commitments0_string, all_commitments1_string, all_responses_string}
use Rattle.verifier.proofs.rounds.begin.Goals as goal

pub returns : goal.returns
unfolding all_commitments0_string all_commitments1_string all_responses_string
returns c =
    record { c0 = c.tagged.ensures; c1 = c.tagged-2.ensures; h = c.tagged-3.ensures }
