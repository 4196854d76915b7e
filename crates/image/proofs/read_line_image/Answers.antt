-- `image::read_line_image` meets its contract: a profile that was read has an image. Assumes nothing.
use mathlib.Core.Path.{sym}
use Rattle.profile.specs.Table.{table_of}
use Rattle.profile.proofs.Theorems.{writes_read}
use Rattle.image.proofs.Theorems.{valid_fits}
use Rattle.image.proofs.read_line_image.Goals as goal

pub write_profile-requires-clause-p_value : goal.write_profile-requires-clause-p_value
write_profile-requires-clause-p_value c =
    let table = table_of c.args.table.now in
    (valid_fits table _ (writes_read table c.args.line.now _ (sym c.in_ok-p.ensures)).1).kinds
