-- A round: θ's sums and the five planes, stored one after the other. Assumes nothing.
use mathlib.Core.Path.{◌∙◌, ap}
use mathlib.Core.List.{[], ◌∷◌}
use lib.Bits.{bit_xor}
use lib.ListN.{length, get_or}
use Rattle.keccak.specs.InnerPlanes.{reveal, reveal_row, sided_row, held_plane, plane_of, xored}
use Rattle.keccak.proofs.Laws.{planes, stored}
use Rattle.keccak.proofs.round.Goals as goal

pub returns : goal.returns
unfolding reveal reveal_row sided_row held_plane plane_of xored
returns c =
    let s = c.args.s.now in
    let k = c.args.k in
    let mixed =
    planes s c.sides.ensures c.plane0-p0.ensures c.plane1-p1.ensures c.plane2-p2.ensures c.plane3-p3.ensures c.plane4-p4.ensures in
    let l0 = c.plane0-p0.result in
    let l1 = c.plane1-p1.result in
    let l2 = c.plane2-p2.result in
    let l3 = c.plane3-p3.result in
    let l4 = c.plane4-p4.result in
    let lanes =
    stored
    (bit_xor (get_or l0 0 0) k ∷ get_or l0 1 0 ∷ get_or l0 2 0 ∷ get_or l0 3 0 ∷ get_or l0 4 0
    ∷ get_or l1 0 0 ∷ get_or l1 1 0 ∷ get_or l1 2 0 ∷ get_or l1 3 0 ∷ get_or l1 4 0
    ∷ get_or l2 0 0 ∷ get_or l2 1 0 ∷ get_or l2 2 0 ∷ get_or l2 3 0 ∷ get_or l2 4 0
    ∷ get_or l3 0 0 ∷ get_or l3 1 0 ∷ get_or l3 2 0 ∷ get_or l3 3 0 ∷ get_or l3 4 0
    ∷ get_or l4 0 0 ∷ get_or l4 1 0 ∷ get_or l4 2 0 ∷ get_or l4 3 0 ∷ get_or l4 4 0 ∷ [])
    c.args.t.now c.requires in
    record { size = ap length lanes; meaning = ap reveal lanes ∙ ap (xored k) mixed }
