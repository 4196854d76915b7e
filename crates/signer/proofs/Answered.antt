-- The order of the checks of signing: sizes, the key's draws, then those of the signature. Assumes nothing.
use mathlib.Core.Path.{◌≡◌, refl, transport}
use mathlib.Core.List.{List, ◌++◌}
use Prim.Native.Nat.{ℕ}
use Rattle.outcome.specs.declared.refusal.Refusal.{Refusal}
use Rattle.outcome.specs.Answer.{Check, number_of, first_refusal, Answers}
use Rattle.outcome.proofs.Checks.{number_positive}
use Rattle.outcome.proofs.Answering.{stops, goes_on}
use Rattle.parameters.specs.declared.Params.{Params}
use Rattle.scheme.specs.Key.{public_seed, matrix, key_exponents, key_draws}
use Rattle.scheme.specs.Sign.{round_seed, sign_sizes, signature, sign_checks}
use Rattle.scheme.proofs.Keyed.{draws_of}
use Rattle.signer.specs.InnerState.{SignedWith}

module _ (p : Params) (private master salt msg : List ℕ) (lent : ℕ) where
  abbrev sizes : List Check
  sizes = sign_sizes p private master salt msg lent

  abbrev draws : List Check
  draws = draws_of p private master salt msg

  module _ (right : 0 ≡ first_refusal sizes) where
    pub key_short : (r : Refusal) → number_of r ≡ first_refusal (key_draws p private)
        → number_of r ≡ first_refusal (sign_checks p private master salt msg lent)
    unfolding sign_checks
    key_short r e =
        goes_on sizes (key_draws p private ++ draws) right refl (stops (key_draws p private) draws e (number_positive r))

    -- the key is drawn: signing under V and the key exponents decides
    pub signed_with : {vs key old new : List ℕ} {r : ℕ} → 0 ≡ first_refusal (key_draws p private) →
        vs ≡ matrix p (public_seed p private) → key ≡ key_exponents p private →
        SignedWith p vs key (round_seed p master salt) salt msg old r new →
        Answers (sign_checks p private master salt msg lent) (signature p private master salt msg) old r new
    unfolding signature sign_checks
    signed_with {old = old} {new = new} {r = r} drawn vs_is key_is answers =
        let moved : Answers draws (signature p private master salt msg) old r new =
        transport (λ i. SignedWith p (vs_is i) (key_is i) (round_seed p master salt) salt msg old r new) answers
        in
        record {
          answer =
              goes_on sizes (key_draws p private ++ draws) right refl
              (goes_on (key_draws p private) draws drawn refl moved.answer);
          content = moved.content;
        }
