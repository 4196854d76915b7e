-- `pair_sum`: the sum so far and the sums of what is left make the whole, modulo 127. Assumes nothing.
use mathlib.Core.Path.{◌≡◌, ◌∙◌, ap, sym}
use Prim.Native.Nat.{ℕ, ◌+◌, ◌%◌}
use native.Mathlib.Omega.{arith}
use Rattle.linear.specs.Linear.{dot}
use Rattle.linear.proofs.Rows.{dot_more, dot_end, product_of, pair_low, pair_step}
use Rattle.linear.proofs.pair_sum.Invariants.{left}
use Rattle.linear.proofs.pair_sum.Goals as goal

pub loop-i-preserved : goal.loop-i-preserved
loop-i-preserved c =
    let now = c.loop-i in
    let a = c.args in
    let t = c.requires.t in
    let low = pair_low _ _
    (product_of a.a.now a.x.now now.i (omega arith) (omega arith) t.0 t.1)
    (product_of a.b.now a.y.now now.i (omega arith) (omega arith) t.2 t.3) in
    let first = dot_more a.a.now a.x.now now.i (omega arith) (omega arith) in
    let second = dot_more a.b.now a.y.now now.i (omega arith) (omega arith) in
    let whole = dot a.a.now a.x.now + dot a.b.now a.y.now in
    let before = ap (λ (n : ℕ). (now.sum + n) % 127) (λ j. first j + second j) in (
      omega (arith, c.fold-sum.ensures),
      rw c.fold-sum.ensures (pair_step now.sum _ _ _ _ whole (sym before ∙ now.invariant.1)),
    )

pub returns : goal.returns
returns c =
    let now = c.loop-i in
    let a = c.args in
    let first = dot_end a.a.now a.x.now now.i (omega arith) in
    let second = dot_end a.b.now a.y.now now.i (omega arith) in
    let none : now.sum ≡ now.sum + left a.a.now a.x.now a.b.now a.y.now now.i = omega arith in
    (ap (λ (n : ℕ). n % 127) none ∙ now.invariant.1, omega arith)
