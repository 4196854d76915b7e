-- `packing::finish` meets its contract. Assumes nothing.
use Prim.Native.Nat.{◌-◌, ◌*◌, ◌^◌}
use native.Mathlib.Omega.{arith}
use lib.ListN.{length}
use Rattle.packing.proofs.Below.{below_true}
use Rattle.packing.proofs.Groups.{whole_last}
use Rattle.packing.proofs.finish.Goals as goal

pub returns : goal.returns
returns c =
    let a = c.args in
    whole_last a.a a.b c.scatter.new.dst a.dst.now a.groups (length a.dst.now - a.groups * a.a) c.gather-v.result
    (below_true (2 ^ a.a) a.src.now c.requires.widths.2) (omega arith) c.gather-v.ensures c.requires.begun c.scatter.ensures
