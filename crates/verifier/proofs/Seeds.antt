-- A reply to the second challenge 1, a round's seed: the answers of its draws, and what it gives. Assumes nothing.
use mathlib.Core.Path.{◌≡◌, ◌∙◌, sym}
use mathlib.Core.List.{List, [], ◌∷◌}
use Prim.Native.Nat.{ℕ}
use Rattle.std.proofs.Common.{Ok, Err}
use Rattle.outcome.specs.declared.refusal.Refusal.{Refusal}
use Rattle.outcome.specs.Answer.{number_of, Check, ◌unless◌, short_draw, first_refusal}
use Rattle.packing.proofs.Below.{Below}
use Rattle.parameters.specs.declared.Params.{Params}
use Rattle.sampling.specs.Sampling.{enough, yield}
use Rattle.sampling.proofs.Kept.{sample_below}
use Rattle.linear.specs.Linear.{response}
use Rattle.scheme.specs.Strings.{digest, commitment1_string, response_string, mask_exponents_string}
use Rattle.scheme.specs.Key.{exponents_drawn}
use Rattle.scheme.specs.Round.{
  mask_exponents,
  mask_values,
  mask_block,
  round_draws,
  reply_checks,
  reply_string,
  reply_response,
}
use Rattle.scheme.proofs.PartsStrings.{below_mask, length_mask, length_values}
use Rattle.packing.specs.InnerVector.{Vector}
use Rattle.verifier.specs.declared.reply.Digests.{Digests}
use Rattle.verifier.specs.InnerRecomputed.{Made, Recomputed}
use Rattle.verifier.proofs.Exits.{stop, past, refused, accepted}
use Rattle.verifier.proofs.Vectors.{made}

module _ (p : Params) (β : ℕ) (seed salt : List ℕ) (i : ℕ) where
  abbrev exponents : List Check
  exponents = short_draw unless exponents_drawn p (mask_exponents_string seed salt i) ∷ []

  abbrev values : List Check
  values = short_draw unless enough p.n (yield 7 127 0 (mask_block p seed salt i)) ∷ []

  below_values : Below 127 (mask_values p seed salt i)
  unfolding mask_values
  below_values = sample_below 7 127 0 p.n (mask_block p seed salt i)

  pub exponents_short : (r : Refusal) → number_of r ≡ first_refusal exponents → Recomputed p [] [] 1 β seed salt i (Err r)
  unfolding reply_checks round_draws
  exponents_short r e = refused r (stop exponents values r e)

  module _ (e : 0 ≡ first_refusal exponents) where
    pub values_short : (r : Refusal) → number_of r ≡ first_refusal values → Recomputed p [] [] 1 β seed salt i (Err r)
    unfolding reply_checks round_draws
    values_short r f = refused r (past exponents values e f)

    module _ (f : 0 ≡ first_refusal values) where
      drawn : first_refusal (round_draws p seed salt i) ≡ 0
      unfolding round_draws
      drawn = sym (past exponents values e f)

      -- what was sampled are vectors
      pub mask_vector : {xs : List ℕ} → xs ≡ mask_exponents p seed salt i → Vector 7 p.n xs
      mask_vector d = made 7 p.n d (length_mask p seed salt i drawn) (below_mask p seed salt i)

      pub values_vector : {xs : List ℕ} → xs ≡ mask_values p seed salt i → Vector 127 p.n xs
      values_vector d = made 127 p.n d (length_values p seed salt i drawn) below_values

      pub seed_made : {us es : List ℕ} {digests : Digests} → us ≡ mask_values p seed salt i → es ≡ mask_exponents p seed salt i
          → Made p (commitment1_string us es salt i) (response_string (response β us es)) digests
          → Recomputed p [] [] 1 β seed salt i (Ok digests)
      unfolding reply_checks reply_string reply_response
      seed_made u v made =
          accepted (sym drawn)
          (record {
            commitment = made.commitment ∙ (λ j. digest p (commitment1_string (u j) (v j) salt i));
            hash = made.hash ∙ (λ j. digest p (response_string (response β (u j) (v j))));
          })
