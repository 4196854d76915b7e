-- `sample::keep_some`: what is kept of the fields so far, and what is left of the number is without these.
use mathlib.Core.Path.{◌≡◌}
use mathlib.Core.List.{◌++◌}
use Prim.Native.Nat.{◌+◌, ◌*◌, ◌/◌, ◌^◌, ◌≤◌}
use lib.ListN.{take}
use Rattle.packing.specs.Packing.{digits}
use Rattle.sampling.specs.Sampling.{keep}
use Rattle.sampling.proofs.sample.keep_some.Given as goal

abbrev pub invariant-loop : goal.invariant-loop
invariant-loop l =
    (l.left ≡ l.v / 2 ^ (l.w * l.counter)) ×
    (l.kept ≤ l.got + l.counter) ×
    (take l.kept l.scratch ≡ take l.got l.initial.scratch ++ keep l.d.limit l.d.added (digits l.w l.counter l.v))
