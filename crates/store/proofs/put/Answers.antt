-- `store::put` meets its contract. Each return is one case of the laws on what storing answers. Assumes nothing.
use mathlib.Core.Path.{◌≡◌, ◌∙◌, ap}
use mathlib.Core.Bool.{not}
use native.Mathlib.Omega.{arith}
use borrow.Author.Rules.{rules}
use Rattle.std.specs.Prelude.{None, Some}
use Rattle.std.proofs.lemmas.Result.{err_from_is_err_and}
use Rattle.outcome.specs.Answer.{store_full}
use Rattle.profile.specs.declared.Profile.{Profile}
use Rattle.store.specs.Stored.{stored}
use Rattle.store.proofs.KeyLaws.{compared}
use Rattle.store.proofs.PutLaws.{put_other, refuses, answers_old, answers_replaced, answers_full, answers_added}
use Rattle.store.proofs.put.Goals.{in-Some+else-profile-profile_at, in-None+in_ok-slot-in-None}
use Rattle.store.proofs.put.Goals as goal

pub returns-then-ne : goal.returns-then-ne
returns-then-ne c =
    let a = c.args in
    let other = compared c.ne.ensures c.of-key.ensures c.key.ensures ∙ ap not c.if-ne.true in
    refuses (search rules) (search rules) 5 (put_other a.device a.profile (stored a.store.now) other)

pub returns-then-profile-profile_at : goal.returns-then-profile-profile_at
returns-then-profile-profile_at c =
    let its = compared c.ne.ensures c.of-key.ensures c.key.ensures ∙ ap not c.if-ne.false in
    let first = rw c.of-key.ensures at c.in-Some.ensures in
    let serial = ap (λ (q : Profile). q.serial) c.profile_at.ensures in
    answers_old (search rules) (search rules) its first c.in-Some.held.in_store (omega arith)

pub returns-in_err-slot-in-None : goal.returns-in_err-slot-in-None
returns-in_err-slot-in-None c =
    let its = compared c.ne.ensures c.of-key.ensures c.key.ensures ∙ ap not c.if-ne.false in
    let first = rw c.of-key.ensures at c.in-None.ensures in
    let exit = err_from_is_err_and c.from_residual.result c.from_residual.ensures.1 in
    let none : c.find_free.result ≡ None = grind arith in
    let full : c.in_err-slot-in-None.field-0.0 ≡ store_full = grind arith in
    rw (exit.1, exit.2, full)
    (answers_full (search rules) (search rules) its first (omega arith) _ (rw none at c.find_free.ensures) (omega arith))

pub returns : goal.returns
returns c =
    let its = compared c.ne.ensures c.of-key.ensures c.key.ensures ∙ ap not c.if-ne.false in
    elim c.match-find_key.branch [
      | in-Some+else-profile-profile_at w ↦
          let first = rw c.of-key.ensures at w.in-Some.ensures in
          let serial = ap (λ (q : Profile). q.serial) w.profile_at.ensures in
          answers_replaced (search rules) (search rules) its first w.in-Some.held.in_store (omega arith)
          (rw w.slot-is at c.write_slot.ensures)
      | in-None+in_ok-slot-in-None w ↦
          let first = rw c.of-key.ensures at w.in-None.ensures in
          let some : w.find_free.result ≡ Some w.in_ok-slot-in-None.slot = grind arith in
          answers_added (search rules) (search rules) its first (omega arith) _ (rw some at w.find_free.ensures)
          w.in_ok-slot-in-None.slot.in_store (rw w.slot-is at c.write_slot.ensures)
    ]
