-- `pieces`: the challenges are drawn, the rounds run, c and h compared. Assumes nothing.
use mathlib.Core.Path.{◌∙◌, sym}
use Rattle.std.proofs.Common.{rules}
use Rattle.verifier.proofs.Exits.{exit}
use Rattle.verifier.proofs.Pieces.{
  pieces_are,
  rounds_long,
  first_vector,
  drawn,
  first_short,
  second_short,
  second_long,
  offset_all,
  rounds_refuse,
  compared,
}
use Rattle.verifier.proofs.verify.pieces.Goals as goal

pub returns-in_err-first_challenges : goal.returns-in_err-first_challenges
returns-in_err-first_challenges c =
    let key = c.args.key in
    let p = key.category.sizes in
    rw (exit c.from_residual.result c.from_residual.ensures.1)
    (first_short p key.vs.now key.s.now _ _ _ _ _ c.in_err-first_challenges.field-0.0 c.in_err-first_challenges.ensures.answer
    ∙ pieces_are p c.args.sig.now key.vs.now key.s.now c.args.msg.now)

pub second_challenges-requires : goal.second_challenges-requires
second_challenges-requires c =
    let betas = first_vector c.args.key.category.sizes _ _ _ c.in_ok-first_challenges.ensures in
    (betas.long, betas.ranged, search rules)

pub returns-in_err-second_challenges : goal.returns-in_err-second_challenges
returns-in_err-second_challenges c =
    let key = c.args.key in
    let p = key.category.sizes in
    rw (exit c.from_residual-in_err-second_challenges.result c.from_residual-in_err-second_challenges.ensures.1)
    (second_short p key.vs.now key.s.now _ _ _ _ _ c.in_err-second_challenges.field-0.0 c.in_ok-first_challenges.ensures
    c.in_err-second_challenges.ensures.answer
    ∙ pieces_are p c.args.sig.now key.vs.now key.s.now c.args.msg.now)

pub run-requires : goal.run-requires
run-requires c =
    let p = c.args.key.category in
    let challenges =
    drawn p.sound.t_fits c.in_ok-first_challenges.ensures c.in_ok-second_challenges.ensures c.second_challenges.auto.out
    in (
      first_vector p.sizes _ _ _ c.in_ok-first_challenges.ensures,
      second_long challenges p.sound,
      offset_all challenges p.sound ∙ sym (rounds_long p.sizes c.args.sig.now c.requires),
    )

pub returns-in_err-sponges : goal.returns-in_err-sponges
returns-in_err-sponges c =
    let key = c.args.key in
    let p = key.category in
    let challenges =
    drawn p.sound.t_fits c.in_ok-first_challenges.ensures c.in_ok-second_challenges.ensures c.second_challenges.auto.out
    in
    rw (exit c.from_residual-in_err-sponges.result c.from_residual-in_err-sponges.ensures.1)
    (rounds_refuse challenges key.vs.now key.s.now _ c.in_err-sponges.field-0.0 c.in_err-sponges.ensures
    ∙ pieces_are p.sizes c.args.sig.now key.vs.now key.s.now c.args.msg.now)

pub returns : goal.returns
returns c =
    let key = c.args.key in
    let p = key.category in
    let challenges =
    drawn p.sound.t_fits c.in_ok-first_challenges.ensures c.in_ok-second_challenges.ensures c.second_challenges.auto.out
    in
    compared challenges key.vs.now key.s.now _ c.in_ok-sponges.ensures c.compare.ensures
    ∙ pieces_are p.sizes c.args.sig.now key.vs.now key.s.now c.args.msg.now
