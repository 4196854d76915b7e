-- The rounds of a signature in three sponges: what they take in of one round and of all, and how c and h are compared
-- with what they give. The rounds themselves are those of the scheme (scheme/specs/Verify).
-- Assumes nothing.
use Rattle.std.specs.Prelude.{◌≡◌, List, ℕ}
use Rattle.outcome.specs.Answer.{first_refusal}
use Rattle.outcome.specs.Lists.{flat}
use Rattle.outcome.specs.Result.{Result, Ok, number_in}
use Rattle.parameters.specs.declared.Params.{Params}
use Rattle.shake.specs.InnerFold.{Holds, Absorbs}
use Rattle.scheme.specs.Strings.{aggregate, all_commitments0_string, all_commitments1_string, all_responses_string}
use Rattle.scheme.specs.Verify.{checks_in, c0_in, c1_in, h_in, checks_at, c0_at, c1_at, h_at, differences}
use Rattle.verifier.specs.declared.rounds.Sponges.{Sponges}

-- the sponges hold these strings behind their tags
pub record HoldAll (sponges : Sponges) (rate : ℕ) (c0s c1s hs : List ℕ) : Type 0 where
  pub c0 : Holds sponges.c0 rate (all_commitments0_string c0s)
  pub c1 : Holds sponges.c1 rate (all_commitments1_string c1s)
  pub h : Holds sponges.h rate (all_responses_string hs)

-- one round: the answer is the reply's; where it is 0, each sponge took in its digest of the round
pub record Stepped
    (p : Params)
    (vs s salt : List ℕ)
    (i β b : ℕ)
    (part : List ℕ)
    (before : Sponges)
    (r : ℕ)
    (after : Sponges)
    : Type 0
  where
    pub answer : r ≡ first_refusal (checks_in p vs s salt i β b part)
    pub c0 : r ≡ 0 → Absorbs before.c0 (c0_in p vs s salt i β b part) after.c0
    pub c1 : r ≡ 0 → Absorbs before.c1 (c1_in p vs s salt i β b part) after.c1
    pub h : r ≡ 0 → Absorbs before.h (h_in p vs s salt i β b part) after.h

-- all rounds: the answer is that of the lowest that refuses; where none does, the sponges hold all c0(i), c1(i), h(i)
pub record Ran (p : Params) (vs s salt rounds β b : List ℕ) (r : Result Sponges) : Type 0 where
  pub answer : number_in r ≡ first_refusal (flat (checks_at p vs s salt rounds β b) p.t)
  pub holds : (sponges : Sponges) → r ≡ Ok sponges
      → HoldAll sponges p.rate (flat (c0_at p vs s salt rounds β b) p.t)
      (flat (c1_at p vs s salt rounds β b) p.t) (flat (h_at p vs s salt rounds β b) p.t)

-- c and h compared with what the sponges give
pub record Compared (p : Params) (sponges : Sponges) (c h : List ℕ) (r : ℕ) : Type 0 where
  pub answer : {c0s c1s hs : List ℕ} → HoldAll sponges p.rate c0s c1s hs
      → r ≡ first_refusal (differences p c h (aggregate p c0s) c1s hs)
