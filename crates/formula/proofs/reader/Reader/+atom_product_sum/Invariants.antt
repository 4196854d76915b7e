-- The measure of the cycle {atom, product, sum} is three times what is not yet read, and 0, 1 or 2 more: a sum calls product
-- at its own place and product atom, and atom calls sum one place further. In the loops of product and sum what was read so
-- far is worth the total, and what is left to read finds the whole (SoFar). Assumes nothing.
use Rattle.std.proofs.Common.{length, ◌-◌, ◌+◌, ◌*◌, ◌<◌}
use Rattle.formula.specs.InnerReader.{worth_of}
use Rattle.formula.proofs.LevelLaws.{ProductSoFar, SumSoFar}
use Rattle.formula.proofs.reader.Reader.+atom_product_sum.Given as goal

abbrev pub decreases-atom : goal.decreases-atom
decreases-atom l = 3 * (length l.self.now.text.now - l.at)

abbrev pub decreases-product : goal.decreases-product
decreases-product l = 3 * (length l.self.now.text.now - l.at) + 1

abbrev pub decreases-sum : goal.decreases-sum
decreases-sum l = 3 * (length l.self.now.text.now - l.at) + 2

abbrev pub invariant-product-loop-op : goal.invariant-product-loop-op
invariant-product-loop-op l = record {
  so_far : ProductSoFar l.self.volts.volts l.depth l.self.text.now l.at (worth_of l.total.worth) l.total.end;
  further : l.at < l.total.end;
}

abbrev pub decreases-product-loop-op : goal.decreases-product-loop-op
decreases-product-loop-op l = length l.self.text.now - l.total.end

abbrev pub invariant-sum-loop-op : goal.invariant-sum-loop-op
invariant-sum-loop-op l = record {
  so_far : SumSoFar l.self.volts.volts l.depth l.self.text.now l.at (worth_of l.total.worth) l.total.end;
  further : l.at < l.total.end;
}

abbrev pub decreases-sum-loop-op : goal.decreases-sum-loop-op
decreases-sum-loop-op l = length l.self.text.now - l.total.end
