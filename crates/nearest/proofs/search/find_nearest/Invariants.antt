-- `nearest::search::find_nearest` meets its contract. The invariant: the best of what is held and of the slots that are
-- still to be seen is the nearest of all. Assumes nothing.
use Rattle.nearest.proofs.NearLaws.{Seen}
use Rattle.nearest.proofs.search.find_nearest.Given as goal

abbrev pub invariant-loop-place : goal.invariant-loop-place
invariant-loop-place l = Seen l.m l.store.bytes.now l.held l.place
