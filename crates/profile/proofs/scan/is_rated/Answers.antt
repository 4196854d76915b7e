-- `profile::scan::is_rated` meets its contract: one comparison. Assumes nothing.
use mathlib.Core.Path.{◌∙◌}
use Rattle.profile.proofs.LineLaws.{begins}
use Rattle.profile.proofs.scan.is_rated.Goals as goal

pub returns : goal.returns
returns c = c.starts_with.ensures.value ∙ begins _ _
