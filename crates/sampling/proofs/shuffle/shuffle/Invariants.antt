-- `shuffle::shuffle`: after each field, what is left of the block leads from the positions to the second challenge.
use mathlib.Core.Path.{◌≡◌}
use Prim.Native.Nat.{◌<◌}
use lib.ListN.{length}
use Rattle.std.specs.Slice.Iter.{chunks_exact_size, chunks_exact_rest}
use Rattle.packing.proofs.Below.{Below}
use Rattle.sampling.specs.Sampling.{fields}
use Rattle.sampling.proofs.Steps.{Leads}
use Rattle.sampling.proofs.shuffle.shuffle.Given as goal

abbrev pub invariant-loop-pair : goal.invariant-loop-pair
invariant-loop-pair l =
    (chunks_exact_size l.pair-iterator ≡ 2) ×
    Below 256 (chunks_exact_rest l.pair-iterator) ×
    (l.j < length l.positions) ×
    Leads (length l.initial.positions) l.w l.block (fields 16 (chunks_exact_rest l.pair-iterator)) l.j l.positions
