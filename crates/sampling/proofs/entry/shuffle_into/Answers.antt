-- `entry::shuffle_into`: each return is the answer of the first test that fails. Assumes nothing.
use mathlib.Core.Path.{refl, ◌∙◌, sym}
use borrow.Author.Tests.{eq-eqb, ne_eqb}
use lib.ListN.{length}
use Rattle.std.proofs.lemmas.Result.{err_from_is_err_and}
use Rattle.outcome.specs.Answer.{bad_size}
use Rattle.outcome.proofs.Checks.{refuses, done}
use Rattle.sampling.specs.Shuffle.{shuffle_checks}
use Rattle.sampling.proofs.entry.shuffle_into.Goals as goal

pub returns-then-block-bytes : goal.returns-then-block-bytes
unfolding shuffle_checks
returns-then-block-bytes c =
    let a = c.args in
    refuses bad_size (rw (ne_eqb (length a.block.now) a.bytes c.if-block-bytes.true)) refl

pub returns-then-out-scratch : goal.returns-then-out-scratch
unfolding shuffle_checks
returns-then-out-scratch c =
    let a = c.args in
    refuses bad_size
    (rw (
      eq-eqb (length a.block.now) a.bytes c.if-block-bytes.false,
      ne_eqb (length a.out.now) (length a.scratch.now) c.if-out-scratch.true,
    ))
    refl

pub returns-in_err-shuffle : goal.returns-in_err-shuffle
unfolding shuffle_checks
returns-in_err-shuffle c =
    let a = c.args in
    let short = err_from_is_err_and c.from_residual.result c.from_residual.ensures.1 in
    rw (short.1, short.2)
    (refuses c.in_err-shuffle.field-0.0
    (rw (
      eq-eqb (length a.block.now) a.bytes c.if-block-bytes.false,
      eq-eqb (length a.out.now) (length a.scratch.now) c.if-out-scratch.false,
    ) c.in_err-shuffle.ensures.answer) refl)

pub returns : goal.returns
unfolding shuffle_checks
returns c =
    let a = c.args in
    let drawn = c.in_ok-shuffle.ensures in
    done
    (rw (
      eq-eqb (length a.block.now) a.bytes c.if-block-bytes.false,
      eq-eqb (length a.out.now) (length a.scratch.now) c.if-out-scratch.false,
    ) (sym drawn.answer))
    (c.copy_from_slice.ensures.after ∙ drawn.content refl)
