-- `xor_byte` meets its contract: the shift loses no bit of the byte. Assumes nothing.
use mathlib.Core.Path.{ap}
use Prim.Native.Nat.{ℕ, ◌*◌, ◌/◌, ◌%◌}
use native.Mathlib.Omega.{arith}
use lib.ListN.{get_or, set}
use lib.Bits.{bit_xor}
use lib.Pow.{shl_exact}
use Rattle.shake.specs.InnerFold.{xor_byte}
use Rattle.shake.proofs.xor_byte.Goals as goal

pub returns : goal.returns
unfolding xor_byte
returns c =
    let args = c.args in
    let x = get_or args.lanes.now (args.i / 8) 0 in
    ap (λ (y : ℕ). set args.lanes.now (args.i / 8) (bit_xor x y)) (shl_exact 8 (8 * (args.i % 8)) 64 c.ranges.b.fits (omega arith))
