-- `packing::scatter` meets its contract. Assumes nothing.
use mathlib.Core.Path.{◌∙◌, sym, ap, subst}
use Prim.Native.Nat.{ℕ, ◌/◌, ◌^◌, ◌<◌}
use native.Mathlib.Omega.{arith}
use lib.Pow.{pow_pos}
use Rattle.packing.specs.Packing.{digits}
use Rattle.packing.proofs.Base.{shift_none, shift_more}
use Rattle.packing.proofs.Groups.{stored_none, scatter_more}
use Rattle.packing.proofs.scatter.Goals as goal

pub loop-k-init : goal.loop-k-init
unfolding digits
loop-k-init c =
    let a = c.args in
    (sym (shift_none a.b a.v), stored_none a.dst.now a.at)

pub nonzero_rem-dst : goal.nonzero_rem-dst
nonzero_rem-dst c = subst (λ (x : ℕ). 0 < x) (sym c.pow2.ensures) (pow_pos c.args.b)

pub loop-k-preserved : goal.loop-k-preserved
loop-k-preserved c =
    let a = c.args in
    let head = c.loop-k in (
      ap (λ (x : ℕ). x / 2 ^ a.b) head.invariant.0 ∙ shift_more a.b head.k a.v,
      scatter_more a.dst.now head.dst a.at a.b head.k a.v head.left c.pow2.result (omega arith)
          head.invariant.0 c.pow2.ensures head.invariant.1,
    )
