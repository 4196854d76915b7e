-- `profile::read_line` meets its contract: the line of what was found has room. Assumes nothing.
use mathlib.Core.Path.{refl, ◌∙◌, sym}
use Rattle.profile.proofs.EntryLaws.{line_room}
use Rattle.profile.proofs.read_line.Goals as goal

pub append_line-end-requires : goal.append_line-end-requires
append_line-end-requires c = line_room _ _ _ (sym c.valid.ensures ∙ c.if-not-valid.false) refl
