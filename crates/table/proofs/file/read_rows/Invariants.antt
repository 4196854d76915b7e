-- `table::file::read_rows` meets its contract. The invariant: so many rows are read and stand in the image, and the rest of the
-- file is read behind them (`SoFar`). The measure is what is left of the file. Assumes nothing.
use lib.ListN.{length}
use Rattle.table.specs.InnerRows.{row_of}
use Rattle.table.proofs.LoopLaws.{SoFar}
use Rattle.table.proofs.file.read_rows.Given as goal

abbrev pub invariant-loop-rest : goal.invariant-loop-rest
invariant-loop-rest l = SoFar l.file (row_of l.before) l.rest l.rows l.image

abbrev pub decreases-loop-rest : goal.decreases-loop-rest
decreases-loop-rest l = length l.rest
