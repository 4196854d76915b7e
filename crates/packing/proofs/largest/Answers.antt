-- `packing::largest` meets its contract. Assumes nothing.
use mathlib.Core.Path.{sym}
use borrow.Author.Tests.{lt-ltb}
use lib.ListN.{get_or}
use Rattle.packing.specs.Packing.{all_below}
use Rattle.packing.proofs.Below.{larger_test, more_test}
use Rattle.packing.proofs.largest.Goals as goal

pub loop-x-init : goal.loop-x-init
unfolding all_below
loop-x-init c = λ m h. lt-ltb 0 m h

pub loop-x-preserved : goal.loop-x-preserved
loop-x-preserved c =
    let head = c.loop-x in
    let xs = c.args.xs.now in
    λ m h.
    rw (c.max-best.ensures, larger_test head.best (get_or xs head.x-index 0) m, head.invariant m h)
    (sym (more_test m xs head.x-index c.loop-x-test.true))
