-- What the verifier and the round examiner compute from a reply.
-- Assumes nothing.
use Rattle.std.specs.Prelude.{◌≡◌, List, ℕ, take}
use Rattle.outcome.specs.Answer.{first_refusal}
use Rattle.outcome.specs.Result.{Result, Ok, number_in}
use Rattle.parameters.specs.declared.Params.{Params}
use Rattle.scheme.specs.Strings.{digest, response_string}
use Rattle.scheme.specs.Round.{reply_checks, reply_string, reply_response}
use Rattle.verifier.specs.declared.reply.Digests.{Digests}

-- the digests of two strings
pub record Made (p : Params) (string response : List ℕ) (made : Digests) : Type 0 where
  pub commitment : take p.digest made.commitment ≡ digest p string
  pub hash : take p.digest made.hash ≡ digest p response

-- The reply's refusal; where there is none, the commitment that the reply gives, and h(i).
pub record Recomputed (p : Params) (vs s : List ℕ) (b β : ℕ) (reply salt : List ℕ) (i : ℕ) (r : Result Digests) : Type 0 where
  pub answer : number_in r ≡ first_refusal (reply_checks p b reply salt i)
  pub content : (made : Digests) → r ≡ Ok made
      → Made p (reply_string p vs s b β reply salt i) (response_string (reply_response p b β reply salt i)) made
