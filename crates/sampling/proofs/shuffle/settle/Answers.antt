-- `shuffle::settle`: one field of the shuffle. Assumes nothing.
use mathlib.Core.Path.{◌≡◌, refl, ◌∙◌, sym}
use mathlib.Core.Bool.{Bool, true, false}
use mathlib.Core.List.{List}
use borrow.Author.Tests.{lt-ltb, eqb-true, eqb-false}
use lib.Dec.{eqb}
use lib.ListN.{get_or}
use lib.Seq.{set_comm}
use native.Mathlib.Nat.{mod-lt}
use native.Mathlib.Omega.{arith}
use Prim.Native.Nat.{ℕ, ◌+◌, ◌%◌}
use Rattle.std.proofs.lemmas.List.Edits.{swap_is}
use Rattle.sampling.specs.Shuffle.{limit, exchange}
use Rattle.sampling.proofs.shuffle.settle.Goals as goal

-- an exchange is the same either way
turned : (ps : List ℕ) (i j : ℕ) (t : Bool) → eqb i j ≡ t → exchange ps i j ≡ exchange ps j i
unfolding exchange
turned ps i j true e = let same : i ≡ j = eqb-true i j e in rw same
turned ps i j false e = set_comm ps i j (get_or ps j 0) (get_or ps i 0) (eqb-false i j e)

pub returns-then-r-m : goal.returns-then-r-m
unfolding exchange
returns-then-r-m c =
    let a = c.args in
    let i = a.r % (a.j + 1) in
    let kept = lt-ltb a.r (limit (a.j + 1)) (omega arith) in (
      rw kept,
      rw kept
          (c.swap.ensures.after
          ∙ sym (swap_is a.positions.now i a.j 0 (omega (arith, mod-lt a.r {m = a.j + 1} (omega arith))) c.requires.1)
          ∙ turned a.positions.now i a.j (eqb i a.j) refl),
    )
