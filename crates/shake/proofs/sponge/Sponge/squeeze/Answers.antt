-- `squeeze` meets its contract: the padded state is that of the string that the sponge holds. Assumes nothing.
use Rattle.std.proofs.Common.{◌-◌, length, ap, ◌∙◌}
use Rattle.keccak.proofs.Laws.{length_keccak_f}
use Rattle.shake.specs.Shake.{squeezed}
use Rattle.shake.specs.InnerFold.{sponge, xor_byte}
use Rattle.shake.proofs.Holds.{squeezes}
use Rattle.shake.proofs.sponge.Sponge.squeeze.Goals as goal

pub squeeze_blocks-requires : goal.squeeze_blocks-requires
squeeze_blocks-requires c =
    let s = c.self.inside in
    let rated = c.self.invariant.rated in
    (ap length c.finish.ensures ∙ length_keccak_f (xor_byte (xor_byte s.lanes s.at 0x1F) (s.rate - 1) 0x80), rated.some, rated.fits)

pub returns : goal.returns
returns c =
    let s = c.self.inside in
    let d = length c.args.out.now in
    rw (← c.self.view_is) (squeezes (sponge s.lanes s.at s.rate) d _ (c.squeeze_blocks.ensures ∙ ap (squeezed s.rate d) c.finish.ensures))
