-- `preview::hold_line` meets its contract: a profile is stored, a refused line changes nothing. Assumes nothing.
use mathlib.Core.Path.{refl, sym}
use Rattle.profile.specs.Table.{table_of}
use Rattle.profile.proofs.Theorems.{writes_read}
use Rattle.preview.proofs.hold_line.Goals as goal

pub hold-requires-clause-t : goal.hold-requires-clause-t
hold-requires-clause-t c = (writes_read (table_of c.args.table.now) c.args.line.now _ (sym c.in-Ok.ensures)).1

pub returns-in-Ok : goal.returns-in-Ok
returns-in-Ok c = rw (← c.in-Ok.ensures) c.hold.ensures

pub returns-in-Err : goal.returns-in-Err
returns-in-Err c = rw (← c.in-Err.ensures) refl
