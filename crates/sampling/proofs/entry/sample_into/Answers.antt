-- `entry::sample_into`: each return is the answer of the first test that fails. Assumes nothing.
use mathlib.Core.Path.{refl, ◌∙◌}
use native.Mathlib.Omega.{arith}
use borrow.Author.Tests.{eq-eqb, ne_eqb}
use lib.ListN.{length}
use Rattle.outcome.specs.Answer.{bad_size, short_draw}
use Rattle.outcome.proofs.Checks.{refuses, done}
use Rattle.sampling.specs.Sampling.{sample_checks}
use Rattle.sampling.proofs.Draws.{sampled_few, sampled_many}
use Rattle.sampling.proofs.entry.sample_into.Goals as goal

pub returns-then-block-d : goal.returns-then-block-d
unfolding sample_checks
returns-then-block-d c =
    let a = c.args in
    refuses bad_size (rw (ne_eqb (length a.block.now) a.d.bytes c.if-block-d.true)) refl

pub returns-then-out-n : goal.returns-then-out-n
unfolding sample_checks
returns-then-out-n c =
    let a = c.args in
    refuses bad_size
    (rw (
      eq-eqb (length a.block.now) a.d.bytes c.if-block-d.false,
      ne_eqb (length a.out.now) a.d.count c.if-out-n.true,
    ))
    refl

pub returns-then-got-n : goal.returns-then-got-n
unfolding sample_checks
returns-then-got-n c =
    let a = c.args in
    refuses short_draw
    (rw (
      eq-eqb (length a.block.now) a.d.bytes c.if-block-d.false,
      eq-eqb (length a.out.now) a.d.count c.if-out-n.false,
      sampled_few c.sample-got.ensures (omega arith),
    ))
    refl

pub returns : goal.returns
unfolding sample_checks
returns c =
    let drawn = c.sample-got.ensures in
    let a = c.args in
    done
    (rw (
      eq-eqb (length a.block.now) a.d.bytes c.if-block-d.false,
      eq-eqb (length a.out.now) a.d.count c.if-out-n.false,
      sampled_many drawn (omega arith),
    ))
    (c.copy_from_slice.ensures.after ∙ drawn.content (omega arith))
