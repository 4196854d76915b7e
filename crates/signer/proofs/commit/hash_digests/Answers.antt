-- `hash_digests`: after j states the sponge has taken in the digests of those. Assumes nothing.
use mathlib.Core.Path.{◌≡◌, ◌∙◌, ap}
use mathlib.Core.List.{List, ◌∷◌}
use Prim.Native.Nat.{ℕ, ◌+◌, ◌-◌}
use native.Mathlib.Omega.{arith}
use lib.ListN.{length, take, drop}
use Rattle.outcome.specs.Lists.{flat}
use Rattle.shake.specs.Shake.{shake}
use Rattle.signer.specs.InnerState.{state_at}
use Rattle.signer.proofs.Sponge.{holds_turn}
use Rattle.signer.proofs.commit.hash_digests.Goals as goal

pub loop-j-preserved : goal.loop-j-preserved
loop-j-preserved c =
    let a = c.args in
    let width : a.offset + a.rounds.now.category.sizes.digest - a.offset ≡ a.rounds.now.category.sizes.digest = omega arith in
    let state = c.at.ensures in
    holds_turn _ c.loop-j.j c.loop-j.invariant c.absorb.ensures (λ i. take (width i) (drop a.offset (state i)))

pub returns : goal.returns
returns c =
    let a = c.args in
    let p = a.rounds.now.category.sizes in
    let end : c.loop-j.j ≡ p.t = omega arith in
    let digest_of : ℕ → List ℕ = λ j. take p.digest (drop a.offset (state_at p a.rounds.now.states.now j)) in
    c.squeeze.ensures.holds c.loop-j.invariant
    ∙ ap (λ (j : ℕ). shake p.rate (a.tag ∷ flat digest_of j) (length a.out.now)) end
