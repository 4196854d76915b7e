-- `row_sum_of`: two halves, and the last product where the length is odd. Assumes nothing.
use mathlib.Core.Path.{◌≡◌, refl, ◌∙◌, ap, sym}
use Prim.Native.Nat.{ℕ, ◌+◌, ◌*◌, ◌/◌, ◌%◌}
use native.Mathlib.Omega.{arith}
use lib.ListN.{drop, get_or}
use Rattle.field.proofs.Congruence.{plus_congruent}
use Rattle.linear.specs.Linear.{dot}
use Rattle.linear.proofs.Rows.{dot_halves, dot_more, dot_end, product_of}
use Rattle.linear.proofs.row_sum_of.Goals as goal

pub overflow_add-result : goal.overflow_add-result
overflow_add-result c =
    let row = c.args.row.now in
    let x = c.args.x.now in
    let h = c.args.k / 2 in
    omega (arith, product_of row x (h + h) (omega arith) (omega arith) c.requires.3 c.requires.4, c.pair_sum-pairs.ensures.1)

pub returns-then-even-k : goal.returns-then-even-k
returns-then-even-k c =
    let pairs = c.pair_sum-pairs in
    let row = c.args.row.now in
    let x = c.args.x.now in
    let h = c.args.k / 2 in
    let last = product_of row x (h + h) (omega arith) (omega arith) c.requires.3 c.requires.4 in
    let one = dot_more row x (h + h) (omega arith) (omega arith) in
    let done = dot_end row x (h + h + 1) (omega arith) in
    let product : dot (drop (h + h) row) (drop (h + h) x) ≡ get_or row (h + h) 0 * get_or x (h + h) 0 = omega arith in (
      plus_congruent pairs.result _ _ _ pairs.ensures.0 refl
          ∙ ap (λ (n : ℕ). n % 127) (sym (dot_halves row x h ∙ rw product)),
      omega (arith, last, pairs.ensures.1),
    )

pub returns-else-even-k : goal.returns-else-even-k
returns-else-even-k c =
    let pairs = c.pair_sum-pairs in
    let row = c.args.row.now in
    let x = c.args.x.now in
    let h = c.args.k / 2 in
    let none = dot_end row x (h + h) (omega arith) in (
      pairs.ensures.0 ∙ ap (λ (n : ℕ). n % 127) (sym (dot_halves row x h ∙ omega arith)),
      omega (arith, pairs.ensures.1),
    )
