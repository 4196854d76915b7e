-- The round examiner's groups of tests: one that refuses decides, and past those that pass stands the round. Assumes nothing.
use mathlib.Core.Path.{◌≡◌, ◌∙◌}
use mathlib.Core.List.{List, [], ◌∷◌, ◌++◌}
use Prim.Native.Nat.{ℕ}
use lib.Dec.{eqb}
use lib.ListN.{take}
use Rattle.outcome.specs.declared.refusal.Refusal.{Refusal}
use Rattle.outcome.specs.Answer.{number_of, Check, ◌unless◌, short_draw, pick, first_refusal}
use Rattle.parameters.specs.declared.Params.{Params}
use Rattle.scheme.specs.Key.{key_fields, seed_of, syndrome_of, matrix, matrix_drawn}
use Rattle.scheme.specs.VerifyRound as of
use Rattle.verifier.proofs.Exits.{stop, past}

module _ (p : Params) (key salt : List ℕ) (i : ℕ) (c0 c1 : List ℕ) (β : ℕ) (h : List ℕ) (b : ℕ) (reply : List ℕ) where
  abbrev sizes : List Check
  sizes = of.verify_round_sizes p key salt c0 c1 h b reply

  abbrev numbers : List Check
  numbers = of.verify_round_numbers p i β b

  abbrev draw : List Check
  draw = short_draw unless matrix_drawn p (seed_of p key) ∷ []

  abbrev round : (vs s matching : List ℕ) → List Check
  round vs s matching = of.verify_round_reply p vs s salt i β b reply matching h

  abbrev given : List Check
  given = round (matrix p (seed_of p key)) (syndrome_of p key) (pick (eqb b 1) c1 c0)

  abbrev answer : ℕ
  answer = of.verify_round p key salt i c0 c1 β h b reply

  pub sizes_stop : (r : Refusal) → number_of r ≡ first_refusal sizes → number_of r ≡ answer
  unfolding of.verify_round of.verify_round_checks
  sizes_stop r e = stop sizes (key_fields p key ++ (numbers ++ (draw ++ given))) r e

  module _ (sized : 0 ≡ first_refusal sizes) where
    past_sizes : {q : ℕ} → q ≡ first_refusal (key_fields p key ++ (numbers ++ (draw ++ given))) → q ≡ answer
    unfolding of.verify_round of.verify_round_checks
    past_sizes = past sizes (key_fields p key ++ (numbers ++ (draw ++ given))) sized

    pub fields_stop : (r : Refusal) → number_of r ≡ first_refusal (key_fields p key) → number_of r ≡ answer
    fields_stop r e = past_sizes (stop (key_fields p key) (numbers ++ (draw ++ given)) r e)

    module _ (fields : 0 ≡ first_refusal (key_fields p key)) where
      past_fields : {q : ℕ} → q ≡ first_refusal (numbers ++ (draw ++ given)) → q ≡ answer
      past_fields e = past_sizes (past (key_fields p key) (numbers ++ (draw ++ given)) fields e)

      pub numbers_stop : (r : Refusal) → number_of r ≡ first_refusal numbers → number_of r ≡ answer
      numbers_stop r e = past_fields (stop numbers (draw ++ given) r e)

      module _ (numbered : 0 ≡ first_refusal numbers) where
        past_numbers : {q : ℕ} → q ≡ first_refusal (draw ++ given) → q ≡ answer
        past_numbers e = past_fields (past numbers (draw ++ given) numbered e)

        pub draw_stops : (r : Refusal)
            → number_of r ≡ first_refusal (short_draw unless matrix_drawn p (take p.digest key) ∷ []) → number_of r ≡ answer
        unfolding seed_of
        draw_stops r e = past_numbers (stop draw given r e)

        pub examined : {vs s matching : List ℕ} {j γ d q : ℕ}
            → 0 ≡ first_refusal (short_draw unless matrix_drawn p (take p.digest key) ∷ [])
            → vs ≡ matrix p (take p.digest key) → s ≡ syndrome_of p key → matching ≡ pick (eqb b 1) c1 c0
            → j ≡ i → γ ≡ β → d ≡ b → q ≡ first_refusal (of.verify_round_reply p vs s salt j γ d reply matching h) → q ≡ answer
        unfolding seed_of
        examined drawn v s m ii ββ bb e =
            past_numbers (past draw given drawn
            (e ∙ (λ x. first_refusal (of.verify_round_reply p (v x) (s x) salt (ii x) (ββ x) (bb x) reply (m x) h))))
