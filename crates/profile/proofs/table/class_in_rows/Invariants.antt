-- `profile::table::class_in_rows`: no row before the place holds the volts.
use mathlib.Core.List.{List}
use Rattle.profile.specs.Rules.{Class, class_in}
use Rattle.profile.proofs.TableLaws.{RestAnswers}
use Rattle.profile.proofs.table.class_in_rows.Given as goal

abbrev pub invariant-loop-i : goal.invariant-loop-i
invariant-loop-i l = RestAnswers (λ (cs : List Class). class_in cs l.volts) l.table l.rows l.i
