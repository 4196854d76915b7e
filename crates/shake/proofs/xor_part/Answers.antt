-- `xor_part` meets its contract: the two parts one after the other. Assumes nothing.
use mathlib.Core.Path.{◌≡◌, ◌∙◌, sym, ap}
use mathlib.Core.List.{List}
use Prim.Native.Nat.{ℕ, ◌+◌, ◌-◌, ◌%◌}
use native.Mathlib.Nat.{add-zero, sub-zero}
use native.Mathlib.Omega.{arith}
use lib.ListN.{length, take, drop, length-drop}
use lib.Seq.{take_all}
use Rattle.shake.specs.InnerFold.{xor_bytes}
use Rattle.shake.proofs.Lanes.{xor_bytes_cut}
use Rattle.shake.proofs.xor_part.Goals as goal

pub returns : goal.returns
returns c =
    let args = c.args in
    let s = args.lanes.now in
    let p = args.part.now in
    let gap = (8 - args.at % 8) % 8 in
    let rest : take (length p - gap) (drop gap p) ≡ drop gap p = take_all (length p - gap) (drop gap p) (omega (arith, length-drop gap p)) in
    let start : args.at + 0 ≡ args.at = add-zero args.at in
    c.xor_lanes.ensures
    ∙ ap (λ (r : List ℕ). xor_bytes r (args.at + gap) (take (length p - gap) (drop gap p))) c.xor_lane-2.ensures
    ∙ ap (xor_bytes (xor_bytes s args.at (take gap p)) (args.at + gap)) rest
    ∙ sym (rw (start, sub-zero gap) at (xor_bytes_cut s args.at p 0 gap (omega arith) (omega arith)))
