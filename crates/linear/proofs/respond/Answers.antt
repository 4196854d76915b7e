-- `respond`: u plus the multiples of b. Assumes nothing.
use mathlib.Core.Path.{◌∙◌, ap}
use native.Mathlib.Omega.{arith}
use lib.Dec.{lit≤}
use Rattle.packing.proofs.Below.{below, below_le}
use Rattle.linear.specs.InnerSteps.{added}
use Rattle.linear.proofs.Kept.{kept_below}
use Rattle.linear.proofs.Spelled.{spells}
use Rattle.linear.proofs.Steps.{response_added, below_multiplied}
use Rattle.linear.proofs.respond.Goals as goal

pub add-requires : goal.add-requires
add-requires c =
    let products = c.multiply.ensures in (
      omega arith,
      kept_below 128 _ (below_le (lit≤ tt) (below 127 _ c.requires.2)),
      rw products (kept_below 128 _ (below_le (lit≤ tt) (below_multiplied c.args.b c.args.e.now))),
    )

pub returns : goal.returns
returns c =
    let args = c.args in
    spells (ap (added args.u.now) c.multiply.ensures ∙ response_added args.b args.u.now args.e.now) c.add.ensures
