-- `material`: both seeds are hashed, and each is expanded from its part of them. Assumes nothing.
use Rattle.std.proofs.lemmas.Result.{err_from_is_err_and}
use Rattle.outcome.proofs.Checks.{number_positive}
use Rattle.keygen.proofs.Made.{seeds_made, secret_part, public_part, matrix_short, exponents_answered}
use Rattle.keygen.proofs.material.Goals as goal

pub returns-in_err-matrix : goal.returns-in_err-matrix
returns-in_err-matrix c =
    let p = c.args.p.sizes in
    let private = c.args.private.now in
    let held = seeds_made p private c.requires.0 c.hash.ensures in
    let short = err_from_is_err_and c.from_residual.result c.from_residual.ensures.1 in
    rw (short.1, short.2)
    (matrix_short p private held (public_part p private held) (number_positive c.in_err-matrix.field-0.0) c.in_err-matrix.ensures)

pub returns : goal.returns
returns c =
    let p = c.args.p.sizes in
    let private = c.args.private.now in
    let held = seeds_made p private c.requires.0 c.hash.ensures in
    exponents_answered p private held (public_part p private held) (secret_part p private held)
    c.in_ok-matrix.ensures c.key_exponents.ensures
