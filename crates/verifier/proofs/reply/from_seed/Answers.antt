-- `from_seed`: both draws, then both digests. Assumes nothing.
use Rattle.std.proofs.Common.{refl}
use Rattle.verifier.proofs.Exits.{exit}
use Rattle.verifier.proofs.Seeds.{exponents_short, values_short, mask_vector, values_vector, seed_made}
use Rattle.verifier.proofs.reply.from_seed.Goals as goal

pub returns-in_err-mask_exponents : goal.returns-in_err-mask_exponents
returns-in_err-mask_exponents c =
    let a = c.args in
    rw (exit c.from_residual.result c.from_residual.ensures.1)
    (exponents_short a.p.sizes a.round.beta a.seed.now a.salt.now a.round.i c.in_err-mask_exponents.field-0.0
    c.in_err-mask_exponents.ensures.answer)

pub returns-in_err-mask_values : goal.returns-in_err-mask_values
returns-in_err-mask_values c =
    let a = c.args in
    rw (exit c.from_residual-in_err-mask_values.result c.from_residual-in_err-mask_values.ensures.1)
    (values_short a.p.sizes a.round.beta a.seed.now a.salt.now a.round.i c.in_ok-mask_exponents.ensures.answer
    c.in_err-mask_values.field-0.0 c.in_err-mask_values.ensures.answer)

pub from_mask-requires : goal.from_mask-requires
from_mask-requires c =
    let a = c.args in
    let e = c.in_ok-mask_exponents.ensures in
    let u = c.in_ok-mask_values.ensures in (
      values_vector a.p.sizes a.round.beta a.seed.now a.salt.now a.round.i e.answer u.answer (u.content refl),
      mask_vector a.p.sizes a.round.beta a.seed.now a.salt.now a.round.i e.answer u.answer (e.content refl),
    )

pub returns : goal.returns
returns c =
    let a = c.args in
    let e = c.in_ok-mask_exponents.ensures in
    let u = c.in_ok-mask_values.ensures in
    seed_made a.p.sizes a.round.beta a.seed.now a.salt.now a.round.i e.answer u.answer (u.content refl) (e.content refl)
    c.from_mask.ensures
