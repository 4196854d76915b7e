-- `sample::sample`: what was kept and what the rest of the block yields are together what the block yields.
-- Assumes nothing.
use mathlib.Core.Path.{◌≡◌, ◌∙◌, sym, ap}
use mathlib.Core.List.{[], append-nil}
use Prim.Native.Nat.{◌<◌}
use native.Mathlib.Omega.{arith}
use lib.ListN.{length, take, length-append}
use Rattle.std.specs.Slice.Iter.{chunks_exact_rest}
use Rattle.packing.proofs.Below.{bytes_below, below_later}
use Rattle.sampling.specs.Sampling.{yield}
use Rattle.sampling.proofs.Draws.{draws_more, tail_of, tail_later, tail_left, sampled_enough, sampled_all}
use Rattle.sampling.proofs.sample.sample.Goals as goal

pub loop-group-init : goal.loop-group-init
loop-group-init c =
    let a = c.args in
    let begun : chunks_exact_rest c.into_iter-group-iterator.result ≡ a.block.now = cc in (
      cc,
      rw begun (bytes_below a.block.now c.type_inv.block),
      ap (tail_of a.d.width) begun,
      omega arith,
      ap (yield a.d.width a.d.limit a.d.added) begun,
    )

-- enough are kept
pub returns-then-d-got : goal.returns-then-d-got
returns-then-d-got c =
    let now = c.loop-group in
    let d = c.args.d in
    sampled_enough d.width d.limit d.added d.count now.got now.scratch
    (yield d.width d.limit d.added (chunks_exact_rest now.group-iterator)) c.if-d-got.true (omega arith) now.invariant.4

pub loop-group-preserved : goal.loop-group-preserved
loop-group-preserved c =
    let kept = c.keep_group-got in
    let now = c.loop-group in
    let d = c.args.d in
    let steps = c.in-Some.ensures.steps in
    let group = c.in-Some.group.now in
    let rest = chunks_exact_rest now.group-iterator in
    let later = chunks_exact_rest c.next.new.self in
    let cut = ap length steps.1.0 ∙ length-append group later in
    let full : length group ≡ d.width = steps.1.1 ∙ now.invariant.0 in (
      steps.0 ∙ now.invariant.0,
      below_later group (rw steps.1.0 at now.invariant.1),
      sym (tail_later d.width group later full) ∙ (rw steps.1.0 at now.invariant.2),
      omega arith,
      draws_more d.width d.limit d.added rest group later (take now.got now.scratch) (take kept.result kept.new.scratch)
          (yield d.width d.limit d.added c.args.block.now) now.invariant.1 d.some steps.1.0 (omega (arith, cut, full))
          kept.ensures.1 now.invariant.4,
    )

pub returns-then-d-got-2 : goal.returns-then-d-got-2
returns-then-d-got-2 c =
    let now = c.loop-group in
    let d = c.args.d in
    sampled_enough d.width d.limit d.added d.count now.got now.scratch
    (yield d.width d.limit d.added (chunks_exact_rest now.group-iterator)) c.if-d-got-2.true (omega arith) now.invariant.4

-- no group is left
pub returns : goal.returns
returns c =
    let kept = c.keep_tail in
    let now = c.loop-group in
    let d = c.args.d in
    let tail = tail_of d.width c.args.block.now in
    let rest = chunks_exact_rest now.group-iterator in
    let few : length rest < d.width = omega (arith, c.in-None.ensures.steps.1.0, now.invariant.0) in
    let last : rest ≡ tail = tail_left d.width rest tail few now.invariant.2 in
    sampled_all d.width d.limit d.added d.count kept.result kept.new.scratch [] d.some (omega arith) (omega arith)
    (draws_more d.width d.limit d.added tail tail [] (take now.got now.scratch) (take kept.result kept.new.scratch)
    (yield d.width d.limit d.added c.args.block.now) (rw last at now.invariant.1) d.some (sym (append-nil tail))
    (omega (arith, few, ap length last)) kept.ensures.1 (rw last at now.invariant.4))
