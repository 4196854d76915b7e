-- `make_key`: sizes, then the draws, then the key is written. Assumes nothing.
use Rattle.std.proofs.Common.{ℕ, ◌*◌, length, replicate, drop, refl, sym, ◌∙◌, arith, length-take-le, eq-eqb, ne_eqb}
use borrow.Rule.Slice.PartMut.{mid_len}
use Rattle.std.proofs.lemmas.Result.{err_from_is_err_and}
use Rattle.outcome.specs.Answer.{bad_size}
use Rattle.outcome.proofs.Checks.{refuses, done}
use Rattle.linear.proofs.Kept.{kept_below}
use Rattle.scheme.specs.Key.{make_key_checks, key_size}
use Rattle.scheme.proofs.AcceptedKey.{read}
use Rattle.expand.proofs.Lent.{lent, lent_within}
use Rattle.keygen.proofs.Made.{public_lent, below_matrix, sized_checks, key_made}
use Rattle.keygen.proofs.make_key.Goals as goal

pub returns-then-private-d-clause-key : goal.returns-then-private-d-clause-key
unfolding make_key_checks
returns-then-private-d-clause-key c = refuses bad_size (rw (ne_eqb _ _ c.if-private-d.true)) refl

pub returns-then-key-key_size-clause-key : goal.returns-then-key-key_size-clause-key
unfolding make_key_checks
returns-then-key-key_size-clause-key c =
    let p = c.args.scratch.now.category.sizes in
    refuses bad_size
    (rw (
      eq-eqb (length c.args.private.now) p.digest c.if-private-d.false,
      ne_eqb (length c.args.key.now) (key_size p) (λ e. c.if-key-key_size.true (e ∙ sym c.key_size.ensures)),
    ))
    refl

pub returns-in_err-material-clause-key : goal.returns-in_err-material-clause-key
returns-in_err-material-clause-key c =
    let p = c.args.scratch.now.category.sizes in
    let short = err_from_is_err_and c.from_residual.result c.from_residual.ensures.1 in
    rw (short.1, short.2)
    (refuses c.in_err-material.field-0.0
    (c.in_err-material.ensures.answer
    ∙ sym (sized_checks p c.args.private.now _ c.if-private-d.false (c.if-key-key_size.false ∙ c.key_size.ensures)))
    refl)

pub write_key-requires : goal.write_key-requires
write_key-requires c =
    let p = c.args.scratch.now.category.sizes in
    let sound = c.args.scratch.now.category.sound in
    let private = c.args.private.now in
    let made = c.in_ok-material.ensures in
    let seeds = lent (2 * p.digest) (replicate 128 0) c.material.new.seeds (omega (arith, sound.digest_fits)) c.material.auto.seeds in (
      mid_len p.digest (2 * p.digest) _ (lent_within seeds) ∙ omega arith,
      length-take-le _ _ (omega (arith, c.material.auto.vs, c.args.scratch.now.vs_size)),
      rw (made.matrix_held refl) (kept_below 127 _ (below_matrix p _)),
      length-take-le _ _ (omega (arith, c.material.auto.es, sound.n_fits)),
      rw (made.exponents_held refl) (kept_below 7 _ (read p sound private (sym made.answer)).ranged),
      c.if-key-key_size.false ∙ c.key_size.ensures,
    )

pub returns-clause-key : goal.returns-clause-key
returns-clause-key c =
    let p = c.args.scratch.now.category.sizes in
    let private = c.args.private.now in
    let made = c.in_ok-material.ensures in
    let both-fit = length-take-le {A = ℕ} (2 * p.digest) (replicate 128 0) (omega (arith, c.args.scratch.now.category.sound.digest_fits)) in
    done
    (sized_checks p private _ c.if-private-d.false (c.if-key-key_size.false ∙ c.key_size.ensures) ∙ sym made.answer)
    (c.write_key.ensures
    ∙ key_made p private (public_lent p private made.seeds_held (c.material.auto.seeds ∙ both-fit) (drop (2 * p.digest) (replicate 128 0)))
    (made.matrix_held refl) (made.exponents_held refl))
