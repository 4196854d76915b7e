-- `sample::sample`: what was kept and what the rest of the block yields are together what the block yields.
use mathlib.Core.Path.{◌≡◌}
use mathlib.Core.List.{◌++◌}
use Prim.Native.Nat.{◌+◌, ◌≤◌}
use lib.ListN.{take}
use Rattle.std.specs.Slice.Iter.{chunks_exact_size, chunks_exact_rest}
use Rattle.packing.proofs.Below.{Below}
use Rattle.sampling.specs.Sampling.{yield}
use Rattle.sampling.proofs.Draws.{tail_of}
use Rattle.sampling.proofs.sample.sample.Given as goal

abbrev pub invariant-loop-group : goal.invariant-loop-group
invariant-loop-group l =
    let d = l.d in
    (chunks_exact_size l.group-iterator ≡ d.width) ×
    Below 256 (chunks_exact_rest l.group-iterator) ×
    (tail_of d.width (chunks_exact_rest l.group-iterator) ≡ tail_of d.width l.block) ×
    (l.got ≤ d.count + 7) ×
    (take l.got l.scratch ++ yield d.width d.limit d.added (chunks_exact_rest l.group-iterator) ≡ yield d.width d.limit d.added l.block)
