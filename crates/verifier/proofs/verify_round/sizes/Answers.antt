-- `sizes`: one refusal for all six. Assumes nothing.
use native.Mathlib.Omega.{arith}
use Rattle.verifier.proofs.Steps.{round_sized, passes, refuses}
use Rattle.verifier.proofs.verify_round.sizes.Goals as goal

pub returns-then-key-key_size-clause-answer : goal.returns-then-key-key_size-clause-answer
returns-then-key-key_size-clause-answer c = refuses (round_sized c.args.p.sizes _ _ _ _ _ _ _) (λ s. grind arith)

pub returns-clause-answer : goal.returns-clause-answer
returns-clause-answer c =
    passes (round_sized c.args.p.sizes _ _ _ _ _ _ _)
    (record {
      key_long = omega arith;
      salt_long = omega arith;
      c0_long = omega arith;
      c1_long = omega arith;
      h_long = omega arith;
      reply_fits = cc;
    })
