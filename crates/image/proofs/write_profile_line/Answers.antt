-- `image::write_profile_line` meets its contract: the answer of `write_line`. Assumes nothing.
use Rattle.profile.specs.Line.{write_line}
use Rattle.image.proofs.EntryLaws.{answers_front}
use Rattle.image.proofs.write_profile_line.Goals as goal

pub returns : goal.returns
unfolding write_line
returns c before = answers_front _ _ _ before c.write_line.ensures.answered c.write_line.ensures.content
