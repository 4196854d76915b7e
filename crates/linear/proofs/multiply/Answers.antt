-- `multiply`: the buffer has the product of each exponent. Assumes nothing.
use mathlib.Core.Path.{◌∙◌}
use native.Mathlib.Omega.{arith}
use Rattle.field.proofs.Products.{multiple_at}
use Rattle.linear.specs.InnerSteps.{multiplied}
use Rattle.linear.proofs.Kept.{place_below}
use Rattle.linear.proofs.Places.{map_places}
use Rattle.linear.proofs.multiply.Goals as goal

pub returns : goal.returns
unfolding multiplied
returns c =
    map_places _ _ _ (omega arith)
    (λ k h.
    c.loop-i.invariant k (omega arith)
    ∙ multiple_at _ _ c.multiples-products.ensures _ (place_below 7 _ k c.requires.1 h))
