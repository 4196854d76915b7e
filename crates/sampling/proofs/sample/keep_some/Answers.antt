-- `sample::keep_some` meets its contract. Assumes nothing.
use mathlib.Core.Path.{◌∙◌, sym, ap}
use mathlib.Core.List.{append-nil}
use Prim.Native.Nat.{ℕ, ◌/◌, ◌^◌}
use native.Mathlib.Omega.{arith}
use lib.ListN.{take}
use Rattle.packing.specs.Packing.{digits}
use Rattle.packing.proofs.Base.{shift_none, shift_more}
use Rattle.sampling.specs.Sampling.{keep}
use Rattle.sampling.proofs.Kept.{kept_more}
use Rattle.sampling.proofs.sample.keep_some.Goals as goal

pub loop-init : goal.loop-init
unfolding digits keep
loop-init c = (sym (shift_none c.args.w c.args.v), omega arith, sym (append-nil (take c.args.got c.args.scratch.now)))

pub loop-preserved : goal.loop-preserved
loop-preserved c =
    let kept = c.keep_one-kept in
    let now = c.loop in
    let a = c.args in
    let d = a.d in (
      ap (λ (x : ℕ). x / 2 ^ a.w) now.invariant.0 ∙ shift_more a.w now.counter a.v,
      omega arith,
      kept_more d.limit d.added a.w now.counter a.v now.left (take a.got a.scratch.now) (take kept.result kept.new.scratch)
          now.invariant.0 (rw (c.pow2-base.ensures, now.invariant.2) at kept.ensures.1),
    )
