-- `squeeze_blocks` meets its contract. The invariant: what is written, and then what comes out of the state as it is, is
-- the whole output. Assumes nothing.
use Rattle.std.proofs.Common.{◌≡◌, ℕ, ◌+◌, ◌-◌, List, ◌++◌, length, take, refl, sym, ap, ◌∙◌, arith, take_all, le_refl}
use borrow.Rule.Slice.PartMut.{put_mid, same_len_mid}
use Rattle.keccak.proofs.Laws.{length_keccak_f}
use Rattle.shake.specs.Shake.{squeezed}
use Rattle.shake.proofs.Output.{put_block, put_last}
use Rattle.shake.proofs.squeeze_blocks.Goals as goal

pub loop-i-preserved : goal.loop-i-preserved
loop-i-preserved c =
    let rate = c.args.rate in
    let n = length c.args.out.now in
    let i = c.loop-i.i in
    let block = c.write_block in
    let written = put_mid i (i + rate - i) c.loop-i.out block.new.out in (
      omega arith,
      refl,
      ap length c.permute.ensures ∙ length_keccak_f c.loop-i.lanes,
      ap (λ (s : List ℕ). take (i + rate) written ++ squeezed rate (n - (i + rate)) s) c.permute.ensures
          ∙ put_block rate (omega arith) i n c.loop-i.lanes c.loop-i.out block.new.out
          c.loop-i.invariant.2 (omega arith) (omega arith) (omega arith) block.ensures
          ∙ c.loop-i.invariant.3,
    )

pub returns : goal.returns
returns c =
    let rate = c.args.rate in
    let n = length c.loop-i.out in
    let i = c.loop-i.i in
    let out = c.loop-i.out in
    let last = c.write_block-2.new.out in
    let same : n ≡ length c.args.out.now = omega arith in
    sym (take_all n (put_mid i (n - i) out last) (omega (arith, same_len_mid i (n - i) out last c.write_block-2.auto.out)))
    ∙ put_last rate (omega arith) i n c.loop-i.lanes out last
    c.loop-i.invariant.2 (omega arith) (omega arith) (omega arith) (le_refl n) c.write_block-2.ensures
    ∙ ap (λ (j : ℕ). take i out ++ squeezed rate (j - i) c.loop-i.lanes) same
    ∙ c.loop-i.invariant.3
