-- The verifier's groups of tests: one that refuses decides, and past those that pass stand the pieces. Assumes nothing.
use mathlib.Core.Path.{◌≡◌, ◌∙◌}
use mathlib.Core.List.{List, [], ◌∷◌, ◌++◌}
use Prim.Native.Nat.{ℕ}
use lib.ListN.{length, take}
use Rattle.outcome.specs.declared.refusal.Refusal.{Refusal}
use Rattle.outcome.specs.Answer.{number_of, Check, ◌unless◌, short_draw, first_refusal}
use Rattle.parameters.specs.declared.Params.{Params}
use Rattle.scheme.specs.Key.{key_fields, seed_of, syndrome_of, matrix, matrix_drawn}
use Rattle.scheme.specs.Verify as of
use Rattle.verifier.proofs.Exits.{stop, past}

module _ (p : Params) (key msg sig : List ℕ) where
  abbrev sizes : List Check
  sizes = of.verify_sizes p (length key) (length msg) (length sig)

  abbrev draw : List Check
  draw = short_draw unless matrix_drawn p (seed_of p key) ∷ []

  abbrev pieces : (vs s : List ℕ) → List Check
  pieces vs s =
      of.piece_checks p vs s (of.salt_of p sig) (of.c_of p sig) (of.h_of p sig) (of.rounds_of p sig) msg

  abbrev given : List Check
  given = pieces (matrix p (seed_of p key)) (syndrome_of p key)

  pub sizes_stop : (r : Refusal) → number_of r ≡ first_refusal sizes → number_of r ≡ of.verify p key msg sig
  unfolding of.verify of.verify_checks
  sizes_stop r e = stop sizes (key_fields p key ++ (draw ++ given)) r e

  module _ (sized : 0 ≡ first_refusal sizes) where
    past_sizes : {q : ℕ} → q ≡ first_refusal (key_fields p key ++ (draw ++ given)) → q ≡ of.verify p key msg sig
    unfolding of.verify of.verify_checks
    past_sizes = past sizes (key_fields p key ++ (draw ++ given)) sized

    pub fields_stop : (r : Refusal) → number_of r ≡ first_refusal (key_fields p key) → number_of r ≡ of.verify p key msg sig
    fields_stop r e = past_sizes (stop (key_fields p key) (draw ++ given) r e)

    module _ (fields : 0 ≡ first_refusal (key_fields p key)) where
      past_fields : {q : ℕ} → q ≡ first_refusal (draw ++ given) → q ≡ of.verify p key msg sig
      past_fields e = past_sizes (past (key_fields p key) (draw ++ given) fields e)

      pub draw_stops : (r : Refusal)
          → number_of r ≡ first_refusal (short_draw unless matrix_drawn p (take p.digest key) ∷ [])
          → number_of r ≡ of.verify p key msg sig
      unfolding seed_of
      draw_stops r e = past_fields (stop draw given r e)

      pub verified : {vs s : List ℕ} {q : ℕ} → 0 ≡ first_refusal (short_draw unless matrix_drawn p (take p.digest key) ∷ [])
          → vs ≡ matrix p (take p.digest key) → s ≡ syndrome_of p key → q ≡ first_refusal (pieces vs s)
          → q ≡ of.verify p key msg sig
      unfolding seed_of
      verified drawn v d e =
          past_fields (past draw given drawn (e ∙ (λ j. first_refusal (pieces (v j) (d j)))))
