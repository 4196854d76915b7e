-- The 24 rounds between two changes of the six lanes. Assumes nothing.
use mathlib.Core.Path.{refl, ◌∙◌, ap}
use Prim.Native.Nat.{ℕ, ◌+◌, ◌*◌}
use native.Mathlib.Omega.{arith}
use lib.ListN.{length}
use Rattle.keccak.specs.Keccak.{lane, state, rounds}
use Rattle.keccak.specs.InnerPlanes.{reveal}
use Rattle.keccak.proofs.Laws.{step, keccak_f_lanes}
use Rattle.keccak.proofs.Tables.{constant_right}
use Rattle.keccak.proofs.permute.Goals as goal

pub loop-i-init : goal.loop-i-init
unfolding reveal rounds
loop-i-init c = (ap length c.hide.ensures.lanes, refl, c.hide.ensures.meaning)

pub loop-i-preserved : goal.loop-i-preserved
loop-i-preserved c =
    let i = c.loop-i.i in
    let z = state (lane c.args.s.now) in
    let even =
    step z (2 * i) (2 * i + 1) (omega arith) c.loop-i.invariant.2 (constant_right (2 * i) (omega arith)) c.round.ensures.meaning in
    let odd =
    step z (2 * i + 1) (2 * (i + 1)) (omega arith) even (constant_right (2 * i + 1) (omega arith)) c.round-in-loop-i.ensures.meaning in
    (c.round-in-loop-i.ensures.size, c.round.ensures.size, odd)

pub returns : goal.returns
returns c =
    let z = state (lane c.args.s.now) in
    c.hide-2.ensures.lanes ∙ c.loop-i.invariant.2 ∙ ap (λ (n : ℕ). rounds n z) (omega arith) ∙ keccak_f_lanes c.args.s.now
