-- `write_block` meets its contract. The invariant: the bytes of the first k lanes are written. Assumes nothing.
use Rattle.std.proofs.Common.{◌≡◌, ℕ, ◌+◌, ◌-◌, ◌*◌, ◌/◌, length, take, sym, ap, ◌∙◌, arith, take_all}
use borrow.Rule.Slice.PartMut.{put_mid, same_len_mid}
use Rattle.shake.specs.Shake.{bytes_of}
use Rattle.shake.proofs.Output.{put_bytes}
use Rattle.shake.proofs.write_block.Goals as goal

pub loop-k-preserved : goal.loop-k-preserved
loop-k-preserved c =
    let k = c.loop-k.k in
    let next : 8 * (k + 1) ≡ 8 * k + 8 = omega arith in
    rw next
    (put_bytes c.args.lanes.now k (8 * k + 8) c.loop-k.out c.write_bytes.new.out
    (omega arith) (omega arith) (omega arith) (omega arith) c.loop-k.invariant c.write_bytes.ensures)

pub returns : goal.returns
returns c =
    let lanes = c.args.lanes.now in
    let out = c.loop-k.out in
    let n = length c.args.out.now in
    let whole = n / 8 in
    let last = c.write_bytes-2.new.out in
    let all : c.loop-k.k ≡ whole = omega arith in
    let same : length out ≡ n = omega arith in
    let front = rw all at c.loop-k.invariant in
    sym (take_all (length out) (put_mid (8 * whole) (length out - 8 * whole) out last)
    (omega (arith, same_len_mid (8 * whole) (length out - 8 * whole) out last c.write_bytes-2.auto.out)))
    ∙ put_bytes lanes whole (length out) out last
    (omega arith) (omega arith) (omega arith) (omega arith) front c.write_bytes-2.ensures
    ∙ ap (λ (j : ℕ). take j (bytes_of lanes)) same
