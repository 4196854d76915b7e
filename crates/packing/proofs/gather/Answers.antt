-- `packing::gather` meets its contract. Assumes nothing.
use mathlib.Core.Path.{◌≡◌, ◌∙◌, sym, ap, subst}
use Prim.Native.Nat.{ℕ, ◌+◌, ◌-◌, ◌*◌, ◌%◌, ◌^◌, ◌<◌}
use native.Mathlib.Nat.{le_trans, mul-le-mul_left}
use native.Mathlib.Omega.{arith}
use lib.ListN.{take, drop}
use Rattle.packing.specs.Packing.{number}
use Rattle.packing.proofs.Below.{below_true}
use Rattle.packing.proofs.Groups.{part_none, part_fits, gather_more}
use Rattle.packing.proofs.gather.Goals.{After-from}
use Rattle.packing.proofs.gather.Goals as goal

pub loop-k-init : goal.loop-k-init
loop-k-init c =
    let a = c.args in
    sym (part_none a.a (drop (a.at + a.n) a.src.now) a.n)

-- what a turn makes of the number so far
turn : (c : After-from) →
    let a = c.args in
    let k = c.loop-k.k in
    c.loop-k.v * 2 ^ a.a % 2 ^ 64 + c.from.result
    ≡ number a.a (take (a.n - (k - 1)) (drop (a.at + (k - 1)) a.src.now))
turn c =
    let a = c.args in
    let head = c.loop-k in
    ap (λ (x : ℕ). head.v * 2 ^ a.a % 2 ^ 64 + x) c.from.ensures
    ∙ gather_more a.a a.at a.n head.k head.v (below_true (2 ^ a.a) a.src.now c.requires.3)
    c.requires.0 c.requires.2 c.loop-k-test.true head.auto.k head.invariant

pub overflow_add-v : goal.overflow_add-v
overflow_add-v c =
    let a = c.args in
    let k = c.loop-k.k in
    record {
      fits =
          subst (λ (x : ℕ). x < 2 ^ 64) (sym (turn c))
          (part_fits a.a (below_true (2 ^ a.a) a.src.now c.requires.3) (a.at + (k - 1)) (a.n - (k - 1))
          (le_trans (mul-le-mul_left a.a (omega arith)) c.requires.2));
    }

pub loop-k-preserved : goal.loop-k-preserved
loop-k-preserved c = turn c
