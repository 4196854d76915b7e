-- `verify_round`: sizes, the key's fields, the numbers, V, then the round. Assumes nothing.
use mathlib.Core.Path.{◌≡◌, refl}
use borrow.Author.Tests.{eq-eqb, ne_eqb}
use lib.Dec.{eqb}
use Rattle.outcome.specs.Answer.{pick}
use Rattle.verifier.proofs.Examining.{sizes_stop, fields_stop, numbers_stop, draw_stops, examined}
use Rattle.verifier.proofs.Exits.{exit}
use Rattle.verifier.proofs.Keys.{read, matrix_vector}
use Rattle.verifier.proofs.verify_round.verify_round.Goals.{then-challenge-eq1, else-challenge-eq1}
use Rattle.verifier.proofs.verify_round.verify_round.Goals as goal

pub returns-in_err-sizes-clause-answer : goal.returns-in_err-sizes-clause-answer
returns-in_err-sizes-clause-answer c =
    let a = c.args in
    rw (exit c.from_residual.result c.from_residual.ensures.1)
    (sizes_stop a.scratch.now.category.sizes a.key.now a.salt.now a.i a.c0.now a.c1.now a.beta a.h.now a.challenge a.reply.now
    c.in_err-sizes.field-0.0 c.in_err-sizes.ensures.answer)

pub returns-in_err-syndrome-clause-answer : goal.returns-in_err-syndrome-clause-answer
returns-in_err-syndrome-clause-answer c =
    let a = c.args in
    rw (exit c.from_residual-in_err-syndrome.result c.from_residual-in_err-syndrome.ensures.1)
    (fields_stop a.scratch.now.category.sizes a.key.now a.salt.now a.i a.c0.now a.c1.now a.beta a.h.now a.challenge a.reply.now
    c.in_ok-sizes.ensures.answer c.in_err-syndrome.field-0.0 c.in_err-syndrome.ensures.answer)

pub returns-in_err-given-clause-answer : goal.returns-in_err-given-clause-answer
returns-in_err-given-clause-answer c =
    let a = c.args in
    rw (exit c.from_residual-in_err-given.result c.from_residual-in_err-given.ensures.1)
    (numbers_stop a.scratch.now.category.sizes a.key.now a.salt.now a.i a.c0.now a.c1.now a.beta a.h.now a.challenge a.reply.now
    c.in_ok-sizes.ensures.answer c.in_ok-syndrome.ensures.answer c.in_err-given.field-0.0 c.in_err-given.ensures.answer)

pub returns-in_err-matrix-clause-answer : goal.returns-in_err-matrix-clause-answer
returns-in_err-matrix-clause-answer c =
    let a = c.args in
    rw (exit c.from_residual-in_err-matrix.result c.from_residual-in_err-matrix.ensures.1)
    (draw_stops a.scratch.now.category.sizes a.key.now a.salt.now a.i a.c0.now a.c1.now a.beta a.h.now a.challenge a.reply.now
    c.in_ok-sizes.ensures.answer c.in_ok-syndrome.ensures.answer c.in_ok-given.ensures.answer c.in_err-matrix.field-0.0
    c.in_err-matrix.ensures.answer)

pub invariant_of-public : goal.invariant_of-public
invariant_of-public c =
    let p = c.args.scratch.now.category in
    record {
      matrix = matrix_vector p.sizes _ c.in_ok-matrix.ensures;
      syndrome = (read p c.args.key.now c.in_ok-syndrome.ensures c.syndrome.auto.s).1;
    }

pub returns-clause-answer : goal.returns-clause-answer
returns-clause-answer c =
    let a = c.args in
    let p = a.scratch.now.category in
    let vs = c.in_ok-matrix.ensures in
    let given = c.in_ok-given.ensures.round in
    let matching : c.if-challenge-eq1.matching.now ≡ pick (eqb a.challenge 1) a.c1.now a.c0.now =
    elim c.if-challenge-eq1.branch [
      | then-challenge-eq1 w ↦ rw (w.matching-is, eq-eqb a.challenge 1 w.if-challenge-eq1.true)
      | else-challenge-eq1 w ↦ rw (w.matching-is, ne_eqb a.challenge 1 w.if-challenge-eq1.false)
    ]
    in
    examined p.sizes a.key.now a.salt.now a.i a.c0.now a.c1.now a.beta a.h.now a.challenge a.reply.now
    c.in_ok-sizes.ensures.answer c.in_ok-syndrome.ensures.answer c.in_ok-given.ensures.answer
    vs.answer (vs.content refl) (read p a.key.now c.in_ok-syndrome.ensures c.syndrome.auto.s).0 matching
    given.0 given.1 given.2 c.round.ensures
