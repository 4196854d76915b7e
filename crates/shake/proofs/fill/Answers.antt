-- `fill` meets its contract: the state is that of a sponge that holds the input. Assumes nothing.
use Rattle.std.proofs.Common.{length, ap, ◌∙◌}
use Rattle.shake.specs.Shake.{squeezed}
use Rattle.shake.specs.InnerFold.{sponge, fresh}
use Rattle.shake.proofs.Holds.{squeezes}
use Rattle.shake.proofs.fill.Goals as goal

pub returns : goal.returns
unfolding fresh
returns c =
    let rate = c.args.rate in
    let d = length c.args.out.now in
    let s = sponge c.absorb_part-at.new.lanes c.absorb_part-at.result rate in
    (squeezes s d _ (c.squeeze_blocks.ensures ∙ ap (squeezed rate d) c.finish.ensures)).holds
    (record {
      ready = record { rated = c.requires; room = c.absorb_part-at.ensures.1 };
      bytes = λ i. (c.type_inv.input i).fits;
      state = c.absorb_part-at.ensures.0;
    })
