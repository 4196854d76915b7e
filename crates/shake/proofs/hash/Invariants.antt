use Rattle.std.proofs.Common.{[], ◌∷◌, take}
use Rattle.shake.specs.Shake.{behind}
use Rattle.shake.specs.InnerFold.{Holds}
use Rattle.shake.proofs.hash.Given as goal

abbrev pub invariant-loop-part : goal.invariant-loop-part
invariant-loop-part l = Holds l.sponge l.rate (behind (l.tag ∷ []) (take l.part-index l.parts))
