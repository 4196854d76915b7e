-- `xor_lanes` meets its contract. The invariant: what is left of the part, put into the state as it is, gives the whole.
-- Assumes nothing.
use Rattle.std.proofs.Common.{ℕ, ◌*◌, ◌/◌, ◌<◌, List, [], length, get_or, take, drop, ap, ◌∙◌, arith, length-take}
use Rattle.shake.proofs.Lanes.{xor_bytes_whole}
use Rattle.shake.proofs.Words.{from_le_bytes_little, first_chunks_at}
use Rattle.shake.proofs.xor_lanes.Goals as goal

pub loop-k-preserved : goal.loop-k-preserved
loop-k-preserved c =
    let k = c.loop-k.k in
    let part = c.args.part.now in
    let lane = take 8 (drop (8 * k) part) in
    let inside : k < length part / 8 = omega (arith, c.as_chunks.ensures.front_len) in
    let same = ap (λ (ls : List (List ℕ)). get_or ls k []) c.as_chunks.ensures.front ∙ first_chunks_at k (length part / 8) part [] inside in
    xor_bytes_whole c.loop-k.lanes c.args.at k c.from_le_bytes.result part c.requires.0 (omega arith) (λ i. (c.type_inv.part i).fits)
    (rw same at c.from_le_bytes.ensures ∙ from_le_bytes_little lane (omega (arith, length-take 8 (drop (8 * k) part))))
    ∙ c.loop-k.invariant
