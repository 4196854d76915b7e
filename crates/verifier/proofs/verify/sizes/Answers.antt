-- `sizes`: one refusal for all three. Assumes nothing.
use native.Mathlib.Omega.{arith}
use Rattle.verifier.proofs.Steps.{sized, passes, refuses}
use Rattle.verifier.proofs.verify.sizes.Goals as goal

pub returns-then-key-key_size-clause-answer : goal.returns-then-key-key_size-clause-answer
returns-then-key-key_size-clause-answer c = refuses (sized c.args.p.sizes _ _ _) (λ s. grind arith)

pub returns-clause-answer : goal.returns-clause-answer
returns-clause-answer c =
    passes (sized c.args.p.sizes _ _ _)
    (record { key_long = omega arith; msg_short = omega arith; sig_long = omega arith })
