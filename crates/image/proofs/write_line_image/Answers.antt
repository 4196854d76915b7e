-- `image::write_line_image` meets its contract: the sizes, and then the line. Assumes nothing.
use Rattle.image.proofs.EntryLaws.{write_image_line}
use Rattle.image.proofs.write_line_image.Goals as goal

pub returns : goal.returns
returns c before =
    write_image_line _ _ _ before c.if-table-ne-TABLE_SIZE.false c.if-profile-ne-PROFILE_SIZE.false
    (rw c.read_profile.ensures at (c.write_profile_line.ensures before))
