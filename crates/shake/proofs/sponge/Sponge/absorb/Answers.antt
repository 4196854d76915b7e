-- `absorb` meets its contract: the sponge holds what it held and then the part. Assumes nothing.
use Rattle.shake.specs.InnerFold.{sponge}
use Rattle.shake.proofs.Holds.{absorbs}
use Rattle.shake.proofs.sponge.Sponge.absorb.Goals as goal

pub returns : goal.returns
returns c =
    let s = c.self.inside in
    let taken = c.absorb_part-self-inside.ensures in
    rw (← c.self.view_is)
    (absorbs (sponge s.lanes s.at s.rate) _ c.args.part.now
    (record { rated = c.self.invariant.rated; room = taken.1 })
    (λ i. (c.type_inv.part i).fits) taken.0)
