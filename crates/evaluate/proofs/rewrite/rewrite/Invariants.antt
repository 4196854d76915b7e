-- The fields before the one that is found are stored, with commas between them. Assumes nothing.
use mathlib.Core.Path.{◌≡◌}
use lib.ListN.{length}
use Rattle.evaluate.specs.InnerText.{room, number_at}
use Rattle.evaluate.proofs.TextLaws.{SoFar}
use Rattle.evaluate.proofs.rewrite.rewrite.Given as goal

abbrev pub invariant-loop-k : goal.invariant-loop-k
invariant-loop-k l = record {
  so_far : SoFar (number_at l.volts) l.input l.initial.out (length l.yielded) l.next l.out;
  size : length l.out ≡ room;
}
