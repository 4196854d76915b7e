-- The answers of the round examiner from the two digests of a round. Assumes nothing.
use mathlib.Core.Path.{◌≡◌, refl, ◌∙◌}
use mathlib.Core.List.{List, [], ◌∷◌}
use Prim.Native.Nat.{ℕ}
use lib.ListN.{take}
use Rattle.std.proofs.Common.{Ok, Err}
use Rattle.outcome.specs.declared.refusal.Refusal.{Refusal}
use Rattle.outcome.specs.Answer.{number_of, ◌unless◌, mismatch, first_refusal}
use Rattle.outcome.specs.Lists.{same}
use Rattle.parameters.specs.declared.Params.{Params}
use Rattle.scheme.specs.Round.{reply_checks}
use Rattle.scheme.specs.VerifyRound.{verify_round_reply}
use Rattle.verifier.specs.declared.reply.Digests.{Digests}
use Rattle.verifier.specs.InnerRecomputed.{Recomputed}
use Rattle.verifier.proofs.Exits.{stop, past}

module _ {p : Params} {vs s : List ℕ} {b β : ℕ} {reply salt : List ℕ} {i : ℕ} (matching h : List ℕ) where
  pub round_refuses : (r : Refusal) → Recomputed p vs s b β reply salt i (Err r)
      → number_of r ≡ first_refusal (verify_round_reply p vs s salt i β b reply matching h)
  unfolding verify_round_reply
  round_refuses r found = stop (reply_checks p b reply salt i) _ r found.answer

  -- both are compared
  pub round_compared : {made : Digests} {q : ℕ} → Recomputed p vs s b β reply salt i (Ok made)
      → q ≡ first_refusal
      (mismatch unless same matching (take p.digest made.commitment) ∷ mismatch unless same h (take p.digest made.hash) ∷ [])
      → q ≡ first_refusal (verify_round_reply p vs s salt i β b reply matching h)
  unfolding verify_round_reply
  round_compared {made} found e =
      let both = found.content made refl in
      past (reply_checks p b reply salt i) _ found.answer
      (e ∙ (λ j. first_refusal (mismatch unless same matching (both.commitment j) ∷ mismatch unless same h (both.hash j) ∷ [])))
