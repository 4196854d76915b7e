-- The state of a round. Assumes nothing.
use mathlib.Core.Path.{◌≡◌, ap}
use mathlib.Core.List.{List}
use Prim.Native.Nat.{ℕ, ◌+◌}
use Rattle.parameters.specs.declared.Params.{Params}
use Rattle.scheme.specs.Round.{mask_exponents, mask_values}
use Rattle.scheme.specs.Sign.{u', e', σ, s̃, c0, c1}
use Rattle.signer.specs.InnerState.{round_state, state_from}

-- from its masks
pub state_made : (p : Params) (vs key seed salt : List ℕ) (j : ℕ) {us es : List ℕ} →
    us ≡ mask_values p seed salt (j + 1) →
    es ≡ mask_exponents p seed salt (j + 1) →
    state_from p vs key us es salt (j + 1) ≡ round_state p vs key (λ _. seed) salt j
unfolding round_state u' e' σ s̃ c0 c1
state_made p vs key seed salt j u e = λ k. state_from p vs key (u k) (e k) salt (j + 1)

-- only the round's own seed enters
pub state_of : (p : Params) (vs key : List ℕ) (seed : ℕ → List ℕ) (salt : List ℕ) (j : ℕ) {own : List ℕ} →
    own ≡ seed j →
    round_state p vs key (λ _. own) salt j ≡ round_state p vs key seed salt j
unfolding round_state u' e' σ s̃ c0 c1
state_of p vs key seed salt j e = ap (λ (s : List ℕ). round_state p vs key (λ _. s) salt j) e
