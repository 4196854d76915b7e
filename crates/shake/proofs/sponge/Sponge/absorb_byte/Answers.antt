-- `absorb_byte` meets its contract: the sponge holds what it held and then the byte. Assumes nothing.
use Rattle.std.proofs.Common.{ℕ, ◌+◌, List, ap, ◌∙◌}
use Rattle.shake.specs.InnerFold.{sponge, turned}
use Rattle.shake.proofs.Holds.{absorbs_byte}
use Rattle.shake.proofs.sponge.Sponge.absorb_byte.Goals as goal

pub invariant_of-self : goal.invariant_of-self
invariant_of-self c =
    let s = c.self.inside in
    (absorbs_byte (sponge s.lanes s.at s.rate) _ c.args.b c.self.invariant c.ranges.b.fits
    (c.turn-self-inside.ensures ∙ ap (λ (x : List ℕ). turned x (s.at + 1) s.rate) c.xor_byte.ensures)).0

pub returns : goal.returns
returns c =
    let s = c.self.inside in
    rw (← c.self.view_is)
    (absorbs_byte (sponge s.lanes s.at s.rate) _ c.args.b c.self.invariant c.ranges.b.fits
    (c.turn-self-inside.ensures ∙ ap (λ (x : List ℕ). turned x (s.at + 1) s.rate) c.xor_byte.ensures)).1
