-- `numbers`: one refusal for all five. Assumes nothing.
use native.Mathlib.Omega.{arith}
use Rattle.verifier.proofs.Steps.{numbered, passes, refuses}
use Rattle.verifier.proofs.verify_round.numbers.Goals as goal

pub returns-then-i-lt1-clause-answer : goal.returns-then-i-lt1-clause-answer
returns-then-i-lt1-clause-answer c = refuses (numbered c.args.p.sizes _ _ _) (λ n. grind arith)

pub returns-clause-answer : goal.returns-clause-answer
returns-clause-answer c =
    passes (numbered c.args.p.sizes _ _ _)
    (record { first = omega arith; last = omega arith; some = omega arith; small = omega arith; binary = omega arith })
