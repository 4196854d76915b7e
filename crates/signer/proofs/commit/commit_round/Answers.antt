-- `commit_round`: the state is made of both masks. Assumes nothing.
use mathlib.Core.Path.{refl, ◌∙◌}
use native.Mathlib.Omega.{arith}
use Rattle.scheme.specs.Round.{round_draws}
use Rattle.signer.proofs.Made.{state_made}
use Rattle.signer.proofs.Ranges.{masks}
use Rattle.signer.proofs.commit.commit_round.Goals as goal

pub returns : goal.returns
unfolding round_draws
returns c =
    let a = c.args in
    let key = a.key.now in
    let us = c.in_ok-mask_values.ensures.content refl in
    let es = c.in_ok-mask_exponents.ensures.content refl in
    record {
      answer = grind (arith, masks);
      content = λ _. c.write_state.ensures ∙ state_made key.category.sizes key.vs.now key.es.now a.seed.now a.salt.now a.j us es;
    }
