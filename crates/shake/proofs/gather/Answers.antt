-- `gather` meets its contract. The invariant: the bytes read and the number of those that are left make the whole. Assumes nothing.
use Rattle.std.proofs.Common.{◌≡◌, ℕ, ◌+◌, ◌*◌, ◌^◌, get_or, drop, ap, ◌∙◌, arith, drop_of_length-le, zero-mul}
use Rattle.shake.specs.Shake.{little}
use Rattle.shake.proofs.Lanes.{or_next, little_next}
use Rattle.shake.proofs.gather.Goals as goal

pub loop-i-preserved : goal.loop-i-preserved
loop-i-preserved c =
    let bytes = c.args.bytes.now in
    let i = c.loop-i.i in
    let put = or_next c.loop-i.x (get_or bytes i 0) i c.loop-i.invariant.0 (c.type_inv.bytes i).fits (omega arith) in (
      put.1,
      ap (λ (y : ℕ). y + little (drop (i + 1) bytes) * 2 ^ (8 * (i + 1))) put.0
          ∙ little_next c.loop-i.x i bytes (omega arith) ∙ c.loop-i.invariant.1,
    )

pub returns : goal.returns
unfolding little
returns c =
    let bytes = c.args.bytes.now in
    let i = c.loop-i.i in
    let none : little (drop i bytes) ≡ 0 = ap little (drop_of_length-le bytes {i = i} (omega arith)) in
    let rest : little (drop i bytes) * 2 ^ (8 * i) ≡ 0 = ap (λ (y : ℕ). y * 2 ^ (8 * i)) none ∙ zero-mul (2 ^ (8 * i)) in
    omega arith
