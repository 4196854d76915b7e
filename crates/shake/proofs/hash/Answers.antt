-- `hash` meets its contract. The invariant: the sponge holds the tag and the parts so far. Assumes nothing.
use Rattle.std.proofs.Common.{[], ◌∷◌}
use Rattle.shake.proofs.Holds.{holds_more}
use Rattle.shake.proofs.hash.Goals as goal

pub loop-part-preserved : goal.loop-part-preserved
loop-part-preserved c = holds_more (c.args.tag ∷ []) c.args.parts.now _ c.loop-part-test.true (c.absorb.ensures.holds c.loop-part.invariant)
