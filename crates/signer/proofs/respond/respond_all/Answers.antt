-- `respond_all`: after j rounds the sponge has taken in h(i) of each. Assumes nothing.
use mathlib.Core.Path.{◌≡◌, ◌∙◌}
use mathlib.Core.List.{◌∷◌}
use native.Mathlib.Omega.{arith}
use Rattle.outcome.specs.Lists.{flat}
use Rattle.shake.specs.Shake.{shake}
use Rattle.scheme.specs.Strings.{bytes_from, digest, response_string, all_responses_string}
use Rattle.signer.specs.InnerState.{response_of, h_at, h_of}
use Rattle.signer.proofs.Sponge.{holds_turn}
use Rattle.signer.proofs.respond.respond_all.Goals as goal

pub loop-j-preserved : goal.loop-j-preserved
unfolding h_at
loop-j-preserved c =
    let category = c.state.ensures.category in
    let state = c.state.ensures.bytes in
    let β = c.beta.ensures in
    holds_turn _ c.loop-j.j c.loop-j.invariant c.absorb_response.ensures
    (λ i. digest (category i).sizes (response_string (response_of (category i).sizes (β i) (state i))))

pub returns : goal.returns
unfolding h_of digest bytes_from all_responses_string
returns c =
    let given = c.args.given.now in
    let p = given.category.sizes in
    let end : c.loop-j.j ≡ p.t = omega arith in
    let long = c.requires in
    c.squeeze.ensures.holds c.loop-j.invariant
    ∙ (λ i. shake p.rate (6 ∷ flat (h_at p given.states.now given.betas.now) (end i)) (long i))
