-- One round: what goes into each sponge, from what was recomputed. Assumes nothing.
use mathlib.Core.Path.{◌≡◌, refl, ◌∙◌, ap, subst}
use mathlib.Core.List.{List}
use Prim.Native.Nat.{ℕ}
use borrow.Author.Tests.{eq-eqb, ne_eqb}
use lib.ListN.{take, drop}
use Rattle.std.proofs.Common.{Ok, Err}
use Rattle.outcome.specs.declared.refusal.Refusal.{Refusal}
use Rattle.outcome.specs.Answer.{number_of}
use Rattle.outcome.specs.Result.{Result}
use Rattle.outcome.proofs.Checks.{number_positive}
use Rattle.parameters.specs.declared.Params.{Params}
use Rattle.shake.specs.InnerFold.{Absorbs}
use Rattle.scheme.specs.Round.{reply_size}
use Rattle.scheme.specs.Verify.{reply_in, checks_in, brought_in, given_in, c0_in, c1_in, h_in}
use Rattle.verifier.specs.declared.reply.Digests.{Digests}
use Rattle.verifier.specs.declared.rounds.Sponges.{Sponges}
use Rattle.verifier.specs.InnerRecomputed.{Recomputed}
use Rattle.verifier.specs.InnerRounds.{Stepped}

-- the part is cut behind its reply
module _ {p : Params} {vs s salt : List ℕ} {i β b : ℕ} (part : List ℕ) {cut : ℕ} {reply brought : List ℕ}
    (at : cut ≡ reply_size p b) (front : reply ≡ take cut part) (back : brought ≡ drop cut part) where
  recomputed : {r : Result Digests} → Recomputed p vs s b β reply salt i r → Recomputed p vs s b β (reply_in p vs s salt i β b part) salt i r
  unfolding reply_in
  recomputed {r} =
      subst (λ (x : List ℕ). Recomputed p vs s b β x salt i r) (front ∙ ap (λ (k : ℕ). take k part) at)

  pub step_refuses : {before after : Sponges} (r : Refusal) → Recomputed p vs s b β reply salt i (Err r)
      → Stepped p vs s salt i β b part before (number_of r) after
  unfolding checks_in
  step_refuses r found =
      record {
        answer = (recomputed found).answer;
        c0 = λ z. absurd (number_positive r z);
        c1 = λ z. absurd (number_positive r z);
        h = λ z. absurd (number_positive r z);
      }

  module _ {made : Digests} (found : Recomputed p vs s b β reply salt i (Ok made)) {before after : Sponges}
      (h : Absorbs before.h (take p.digest made.hash) after.h) where
    stepped : {c0 c1 : List ℕ} → Absorbs before.c0 c0 after.c0 → c0 ≡ c0_in p vs s salt i β b part
        → Absorbs before.c1 c1 after.c1 → c1 ≡ c1_in p vs s salt i β b part → Stepped p vs s salt i β b part before 0 after
    unfolding checks_in h_in
    stepped c0 is0 c1 is1 =
        record {
          answer = (recomputed found).answer;
          c0 = λ z. subst (λ (x : List ℕ). Absorbs before.c0 x after.c0) is0 c0;
          c1 = λ z. subst (λ (x : List ℕ). Absorbs before.c1 x after.c1) is1 c1;
          h = λ z. subst (λ (x : List ℕ). Absorbs before.h x after.h) ((recomputed found).content made refl).hash h;
        }

    -- under 1 the part brings c0(i), and the reply gives c1(i); ..
    pub stepped_one : b ≡ 1 → Absorbs before.c0 brought after.c0 → Absorbs before.c1 (take p.digest made.commitment) after.c1
        → Stepped p vs s salt i β b part before 0 after
    unfolding c0_in c1_in brought_in given_in
    stepped_one e c0 c1 =
        stepped c0 (back ∙ ap (λ (k : ℕ). drop k part) at ∙ rw (eq-eqb b 1 e))
        c1 (((recomputed found).content made refl).commitment ∙ rw (eq-eqb b 1 e))

    -- .. under 0 it is the other way round
    pub stepped_other : (b ≡ 1 → ⊥) → Absorbs before.c0 (take p.digest made.commitment) after.c0
        → Absorbs before.c1 brought after.c1 → Stepped p vs s salt i β b part before 0 after
    unfolding c0_in c1_in brought_in given_in
    stepped_other n c0 c1 =
        stepped c0 (((recomputed found).content made refl).commitment ∙ rw (ne_eqb b 1 n))
        c1 (back ∙ ap (λ (k : ℕ). drop k part) at ∙ rw (ne_eqb b 1 n))
