-- `xor_lane` meets its contract: the shift loses no bit of the bytes. Assumes nothing.
use mathlib.Core.Path.{◌∙◌, sym, ap}
use Prim.Native.Nat.{ℕ, ◌*◌, ◌/◌, ◌%◌, ◌^◌}
use native.Mathlib.Omega.{arith}
use lib.ListN.{get_or, set}
use lib.Bits.{bit_xor}
use Rattle.shake.proofs.Lanes.{xor_bytes_gathered}
use Rattle.shake.proofs.xor_lane.Goals as goal

pub returns : goal.returns
returns c =
    let args = c.args in
    let k = args.at / 8 in
    let s = args.lanes.now in
    ap (λ (x : ℕ). set s k (bit_xor (get_or s k 0) (x * 2 ^ (8 * (args.at % 8)) % 2 ^ 64))) c.gather-x.ensures
    ∙ sym (xor_bytes_gathered s args.at args.part.now (omega arith) (λ i. (c.type_inv.part i).fits))
