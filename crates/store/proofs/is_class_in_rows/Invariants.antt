-- `store::is_class_in_rows`: no row before the place has the letter.
use mathlib.Core.List.{List}
use Rattle.profile.specs.Rules.{Class}
use Rattle.profile.proofs.TableLaws.{RestAnswers}
use Rattle.store.specs.Keys.{has_class}
use Rattle.store.proofs.is_class_in_rows.Given as goal

abbrev pub invariant-loop-i : goal.invariant-loop-i
invariant-loop-i l = RestAnswers (λ (cs : List Class). has_class cs l.class) l.table l.rows l.i
