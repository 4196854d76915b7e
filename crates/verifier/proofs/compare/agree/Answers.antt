-- `agree`: one refusal for both. Assumes nothing.
use Rattle.verifier.proofs.Comparing.{equal, first_differs, second_differs, both_agree}
use Rattle.verifier.proofs.compare.agree.Goals.{then-ne-via-then-ne, then-ne-via-else-ne+then-ne-2}
use Rattle.verifier.proofs.compare.agree.Goals as goal

pub returns-then-ne : goal.returns-then-ne
returns-then-ne c =
    let a = c.args in
    elim c.then-ne.branch [
      | then-ne-via-then-ne w ↦ first_differs _ _ _ _ (equal _ _ c.ne.ensures w.if-ne.true)
      | then-ne-via-else-ne+then-ne-2 w ↦
          second_differs _ _ _ _ (equal _ _ c.ne.ensures w.if-ne.false) (equal _ _ w.ne-else-ne.ensures w.if-ne-2.true)
    ]

pub returns : goal.returns
returns c = both_agree _ _ _ _ (equal _ _ c.ne.ensures c.if-ne.false) (equal _ _ c.ne-else-ne.ensures c.if-ne-2.false)
