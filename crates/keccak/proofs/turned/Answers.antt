-- `turned` is the rotation: its second shift is by 64 - r in two steps, since a shift by 64 is none. Assumes nothing.
use mathlib.Core.Path.{◌≡◌, ap, ◌∙◌}
use Prim.Native.Nat.{ℕ, ◌+◌, ◌-◌, ◌*◌, ◌/◌, ◌%◌, ◌^◌}
use native.Mathlib.Omega.{arith}
use lib.Bits.{bit_or}
use lib.Pow.{shr-shr}
use Rattle.keccak.proofs.turned.Goals as goal

pub returns : goal.returns
returns c =
    let x = c.args.x in
    let r = c.args.r in
    let e : 1 + (63 - r) ≡ 64 - r = omega (arith, c.requires) in
    ap (λ (y : ℕ). bit_or (x * 2 ^ r % 2 ^ 64) y) (shr-shr x 1 (63 - r) ∙ ap (λ (k : ℕ). x / 2 ^ k) e)
