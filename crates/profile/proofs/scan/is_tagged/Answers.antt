-- `profile::scan::is_tagged` meets its contract: one tag, or the other. Assumes nothing.
use mathlib.Core.Path.{◌∙◌, sym}
use Rattle.profile.proofs.LineLaws.{begins}
use Rattle.profile.proofs.scan.is_tagged.Goals as goal

pub returns-else-is_rated : goal.returns-else-is_rated
returns-else-is_rated c = rw (sym c.is_rated.ensures ∙ c.if-is_rated.false) (c.starts_with.ensures.value ∙ begins _ _)
