-- `verify`: sizes, the key's fields, V, then the pieces. Assumes nothing.
use mathlib.Core.Path.{refl}
use Rattle.verifier.proofs.Exits.{exit}
use Rattle.verifier.proofs.Keys.{read, matrix_vector}
use Rattle.verifier.proofs.Verifying.{sizes_stop, fields_stop, draw_stops, verified}
use Rattle.verifier.proofs.verify.verify.Goals as goal

pub returns-in_err-sizes-clause-answer : goal.returns-in_err-sizes-clause-answer
returns-in_err-sizes-clause-answer c =
    let a = c.args in
    rw (exit c.from_residual.result c.from_residual.ensures.1)
    (sizes_stop a.scratch.now.category.sizes a.key.now a.msg.now a.sig.now c.in_err-sizes.field-0.0 c.in_err-sizes.ensures.answer)

pub returns-in_err-syndrome-clause-answer : goal.returns-in_err-syndrome-clause-answer
returns-in_err-syndrome-clause-answer c =
    let a = c.args in
    rw (exit c.from_residual-in_err-syndrome.result c.from_residual-in_err-syndrome.ensures.1)
    (fields_stop a.scratch.now.category.sizes a.key.now a.msg.now a.sig.now c.in_ok-sizes.ensures.answer
    c.in_err-syndrome.field-0.0 c.in_err-syndrome.ensures.answer)

pub returns-in_err-matrix-clause-answer : goal.returns-in_err-matrix-clause-answer
returns-in_err-matrix-clause-answer c =
    let a = c.args in
    rw (exit c.from_residual-in_err-matrix.result c.from_residual-in_err-matrix.ensures.1)
    (draw_stops a.scratch.now.category.sizes a.key.now a.msg.now a.sig.now c.in_ok-sizes.ensures.answer
    c.in_ok-syndrome.ensures.answer c.in_err-matrix.field-0.0 c.in_err-matrix.ensures.answer)

pub invariant_of-public : goal.invariant_of-public
invariant_of-public c =
    let p = c.args.scratch.now.category in
    record {
      matrix = matrix_vector p.sizes _ c.in_ok-matrix.ensures;
      syndrome = (read p c.args.key.now c.in_ok-syndrome.ensures c.syndrome.auto.s).1;
    }

pub returns-clause-answer : goal.returns-clause-answer
returns-clause-answer c =
    let a = c.args in
    let p = a.scratch.now.category in
    let vs = c.in_ok-matrix.ensures in
    verified p.sizes a.key.now a.msg.now a.sig.now c.in_ok-sizes.ensures.answer c.in_ok-syndrome.ensures.answer
    vs.answer (vs.content refl) (read p a.key.now c.in_ok-syndrome.ensures c.syndrome.auto.s).0 c.pieces.ensures
