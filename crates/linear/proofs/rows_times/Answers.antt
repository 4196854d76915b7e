-- `rows_times`: a row with what its sum takes of the next, of which zeros are counted. Assumes nothing.
use mathlib.Core.Path.{◌≡◌, ◌∙◌, ap}
use mathlib.Core.List.{List}
use Prim.Native.Nat.{ℕ, ◌*◌, ◌%◌, ◌≤◌}
use native.Mathlib.Omega.{arith}
use lib.ListN.{take, drop, get_or}
use Rattle.std.proofs.lemmas.Grind.{common_steps}
use Rattle.linear.specs.Linear.{dot, rows_times}
use Rattle.packing.proofs.Below.{below}
use Rattle.linear.proofs.Sizes.{length_rows_times}
use Rattle.linear.proofs.Rows.{dot_covered, rest_taken}
use Rattle.linear.proofs.Spelled.{loose_places, row_place}
use Rattle.linear.proofs.rows_times.Goals as goal

pub loop-i-preserved : goal.loop-i-preserved
loop-i-preserved c =
    let a = c.args in
    let i = c.loop-i.i in
    let at = a.k * i in
    let w = c.row_width-width in
    let covered = dot_covered (drop at a.vs.now) a.x.now a.k w.result w.ensures.0 (omega arith) (below 1 _ c.requires.t.2) in
    let sum = c.row_sum-sum.ensures.0
    ∙ ap (λ (row : List ℕ). dot (take w.result row) (take w.result a.x.now) % 127) (rest_taken at a.vs.now)
    ∙ ap (λ (n : ℕ). n % 127) covered in
    let value : c.reduce.result % 127 ≡ get_or (rows_times a.k a.vs.now (take a.k a.x.now) a.b.now) i 0 =
    c.reduce.ensures ∙ row_place a.k a.vs.now (take a.k a.x.now) a.b.now i c.row_sum-sum.result (omega arith) sum in
    let low : c.reduce.result ≤ 127 = omega arith in
    λ j h. grind (arith, common_steps)

pub returns : goal.returns
returns c =
    let a = c.args in
    let size = length_rows_times a.k a.vs.now (take a.k a.x.now) a.b.now in
    loose_places _ _ (omega (arith, size)) (λ j h. c.loop-i.invariant j (omega (arith, size)))
