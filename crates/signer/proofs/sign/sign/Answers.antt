-- `sign`: sizes, the key's draws, then the signature under that key. Assumes nothing.
use mathlib.Core.Path.{refl}
use lib.ListN.{length}
use Rattle.std.proofs.lemmas.Result.{err_from_is_err_and}
use Rattle.outcome.proofs.Checks.{refuses}
use Rattle.signer.proofs.Answered.{key_short, signed_with}
use Rattle.signer.proofs.sign.sign.Goals as goal

pub returns-in_err-material-clause-signature : goal.returns-in_err-material-clause-signature
returns-in_err-material-clause-signature c =
    let a = c.args in
    let p = a.scratch.now.category.sizes in
    let end = err_from_is_err_and c.from_residual-in_err-material.result c.from_residual-in_err-material.ensures.1 in
    rw (end.1, end.2)
    (refuses _
    (key_short p a.private.now a.master.now a.salt.now a.msg.now (length a.sig.now) c.in_ok-check_sizes.ensures _
    c.in_err-material.ensures.answer)
    refl)

pub returns-clause-signature : goal.returns-clause-signature
returns-clause-signature c =
    let a = c.args in
    let made = c.in_ok-material.ensures in
    signed_with a.scratch.now.category.sizes a.private.now a.master.now a.salt.now a.msg.now (length a.sig.now)
    c.in_ok-check_sizes.ensures made.answer (made.matrix_held refl) (made.exponents_held refl) c.sign_with.ensures
