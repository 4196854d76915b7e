-- `packing::see` meets its contract. Assumes nothing.
use mathlib.Core.Path.{◌∙◌, sym, ap, subst}
use Prim.Native.Nat.{ℕ, ◌/◌, ◌^◌, ◌<◌}
use lib.Pow.{pow_pos}
use Rattle.packing.proofs.Base.{shift_none, shift_more}
use Rattle.packing.proofs.Seen.{see_none, see_more, see_fits}
use Rattle.packing.proofs.see.Goals as goal

pub loop-init : goal.loop-init
loop-init c =
    let a = c.args in
    (sym (shift_none a.w a.v), c.requires.1, see_none a.w a.v a.seen)

pub nonzero_rem-all : goal.nonzero_rem-all
nonzero_rem-all c = subst (λ (x : ℕ). 0 < x) (sym c.pow2.ensures) (pow_pos c.args.w)

pub loop-preserved : goal.loop-preserved
loop-preserved c =
    let a = c.args in
    let head = c.loop in (
      ap (λ (x : ℕ). x / 2 ^ a.w) head.invariant.0 ∙ shift_more a.w head.counter a.v,
      see_fits a.w head.all head.left c.pow2.result c.requires.0 c.pow2.ensures head.invariant.1,
      see_more a.w a.v head.counter a.seen head.all head.left c.pow2.result
          head.invariant.0 c.pow2.ensures head.invariant.2,
    )
