-- `shuffle::shuffle`: after each field, what is left of the block leads from the positions to the second challenge.
-- Assumes nothing.
use mathlib.Core.Path.{◌≡◌, ◌∙◌}
use native.Mathlib.Omega.{arith}
use lib.ListN.{length}
use Rattle.std.specs.Slice.Iter.{chunks_exact_rest}
use Rattle.packing.proofs.Below.{bytes_below, below_later}
use Rattle.sampling.proofs.Fields.{fields_none}
use Rattle.sampling.proofs.Steps.{starts, step_pair, ends, runs_short, next_le}
use Rattle.sampling.proofs.shuffle.shuffle.Goals.{in-None, in-Some+then-j-eq0}
use Rattle.sampling.proofs.shuffle.shuffle.Goals as goal

pub loop-pair-init : goal.loop-pair-init
loop-pair-init c =
    let a = c.args in
    let begun : chunks_exact_rest c.into_iter-pair-iterator.result ≡ a.block.now = cc in (
      cc,
      rw begun (bytes_below a.block.now c.type_inv.block),
      omega arith,
      rw begun (starts a.w a.block.now c.start.auto.positions c.start.ensures),
    )

pub loop-pair-preserved : goal.loop-pair-preserved
loop-pair-preserved c =
    let now = c.loop-pair in
    let pair = c.in-Some.pair.now in
    let steps = c.in-Some.ensures.steps in
    let settled = c.settle-j in
    let two : length pair ≡ 2 = steps.1.1 ∙ now.invariant.0 in (
      steps.0 ∙ now.invariant.0,
      below_later pair (rw steps.1.0 at now.invariant.1),
      omega (arith, settled.ensures.0, next_le now.j c.field.result),
      rw (settled.ensures.0, settled.ensures.1)
          (step_pair (chunks_exact_rest now.pair-iterator) pair (chunks_exact_rest c.next.new.self) now.invariant.1 steps.1.0
          two c.field.ensures (omega arith) now.invariant.3),
    )

pub returns-then-j-eq0-2 : goal.returns-then-j-eq0-2
returns-then-j-eq0-2 c = ends c.start.auto.positions c.if-j-eq0-2.true c.loop-pair.invariant.3

-- a position is left, so the loop did not break off: fewer than two bytes are left
pub returns-else-j-eq0-2 : goal.returns-else-j-eq0-2
returns-else-j-eq0-2 c =
    let now = c.loop-pair in
    elim c.match-next.branch [
      | in-None w ↦
          runs_short c.start.auto.positions (omega arith)
          (fields_none 16 (chunks_exact_rest now.pair-iterator) (omega (arith, w.in-None.ensures.steps.1.0, now.invariant.0)))
          now.invariant.3
      | in-Some+then-j-eq0 w ↦ absurd (c.if-j-eq0-2.false w.if-j-eq0.true)
    ]
