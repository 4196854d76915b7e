-- What a `?` returns, and the answer of tests in groups: a group that refuses decides, and one that passes leaves the answer
-- to what follows it. Assumes nothing.
use mathlib.Core.Path.{◌≡◌, refl, ap, subst}
use mathlib.Core.List.{List, ◌++◌}
use Prim.Native.Nat.{ℕ}
use Rattle.std.proofs.Common.{Ok, Err}
use Rattle.std.specs.Result.{IsErrAnd}
use Rattle.outcome.specs.declared.refusal.Refusal.{Refusal}
use Rattle.outcome.specs.Answer.{number_of, Check, first_refusal}
use Rattle.outcome.specs.Result.{Result}
use Rattle.outcome.proofs.Answering.{stops, goes_on}
use Rattle.outcome.proofs.Checks.{number_positive}
use Rattle.parameters.specs.declared.Params.{Params}
use Rattle.scheme.specs.Strings.{response_string}
use Rattle.scheme.specs.Round.{reply_checks, reply_string, reply_response}
use Rattle.verifier.specs.declared.reply.Digests.{Digests}
use Rattle.verifier.specs.InnerRecomputed.{Made, Recomputed}

-- the refusal itself
pub exit : {A : Type 0} {e : Refusal} (r : Result A) → IsErrAnd r (λ y. y ≡ e) → r ≡ Err e
exit (Ok a) h = absurd h
exit (Err y) h = ap Err h

module _ (xs ys : List Check) where
  pub stop : (r : Refusal) → number_of r ≡ first_refusal xs → number_of r ≡ first_refusal (xs ++ ys)
  stop r e = stops xs ys e (number_positive r)

  pub past : {q : ℕ} → 0 ≡ first_refusal xs → q ≡ first_refusal ys → q ≡ first_refusal (xs ++ ys)
  past e = goes_on xs ys e refl

-- a reply that is refused, and one that passes
module _ {p : Params} {vs s : List ℕ} {b β : ℕ} {reply salt : List ℕ} {i : ℕ} where
  pub refused : (r : Refusal) → number_of r ≡ first_refusal (reply_checks p b reply salt i)
      → Recomputed p vs s b β reply salt i (Err r)
  refused r e = record { answer = e; content = λ made same. cc }

  pub accepted : {digests : Digests} → 0 ≡ first_refusal (reply_checks p b reply salt i)
      → Made p (reply_string p vs s b β reply salt i) (response_string (reply_response p b β reply salt i)) digests
      → Recomputed p vs s b β reply salt i (Ok digests)
  accepted {digests} e made =
      record {
        answer = e;
        content = λ others same.
            let is : digests ≡ others = cc in
            subst (λ (x : Digests). Made p (reply_string p vs s b β reply salt i)
            (response_string (reply_response p b β reply salt i)) x) is made;
      }
