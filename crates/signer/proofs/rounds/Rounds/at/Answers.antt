-- `Rounds::at`: the state of a round lies within all states. Assumes nothing.
use Rattle.signer.proofs.Loops.{part_within}
use Rattle.signer.proofs.rounds.Rounds.at.Goals as goal

pub round_part-requires : goal.round_part-requires
round_part-requires c =
    let rounds = c.args.self.now in
    part_within c.args.j rounds.category.sizes.t c.state_size.result c.requires rounds.size c.state_size.ensures
