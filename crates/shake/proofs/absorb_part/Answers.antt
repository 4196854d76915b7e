-- `absorb_part` meets its contract. The invariant: what is left of the part, absorbed into the sponge as it is, gives the
-- whole. Assumes nothing.
use mathlib.Core.Path.{refl, ◌∙◌, sym, ap}
use mathlib.Core.List.{List}
use Prim.Native.Nat.{ℕ, ◌+◌, ◌-◌}
use native.Mathlib.Omega.{arith}
use lib.ListN.{length, drop}
use Rattle.keccak.specs.Keccak.{keccak_f}
use Rattle.shake.specs.InnerFold.{sponge, absorb_bytes}
use Rattle.shake.proofs.Blocks.{absorb_bytes_block, absorb_bytes_last}
use Rattle.shake.proofs.absorb_part.Goals as goal

pub loop-next-preserved : goal.loop-next-preserved
loop-next-preserved c =
    let args = c.args in
    let part = args.part.now in
    let i = c.loop-next.i in
    let end = i + (args.rate - c.loop-next.next) in (
      omega arith,
      refl,
      omega arith,
      ap (λ (s : List ℕ). absorb_bytes (sponge s 0 args.rate) (drop end part)) (c.permute.ensures ∙ ap keccak_f c.xor_part.ensures)
          ∙ sym (absorb_bytes_block c.loop-next.lanes c.loop-next.next args.rate part i end (omega arith) refl (omega arith))
          ∙ c.loop-next.invariant.3,
    )

pub returns : goal.returns
returns c =
    let args = c.args in
    let part = args.part.now in
    let i = c.loop-next.i in (
      ap (λ (s : List ℕ). sponge s (c.loop-next.next + (length part - i)) args.rate) c.xor_part-2.ensures
          ∙ sym (absorb_bytes_last c.loop-next.lanes c.loop-next.next args.rate part i (omega arith))
          ∙ c.loop-next.invariant.3,
      omega arith,
    )
