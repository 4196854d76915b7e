-- Plane 0: its lanes as π brings them, then χ lane by lane. Assumes nothing.
use mathlib.Core.Path.{◌∙◌}
use mathlib.Core.Bool.{true, false}
use mathlib.Core.List.{[], ◌∷◌}
use lib.Dec.{lit≤}
use lib.ListN.{get_or}
use native.Mathlib.Omega.{arith}
use Rattle.keccak.specs.InnerPlanes.{reveal_row, held_plane, turned_row, chi_row}
use Rattle.keccak.proofs.Complement.{brought, by_and, by_or, complement_lt}
use Rattle.keccak.proofs.Tables.{rotations_right}
use Rattle.keccak.proofs.plane0.Goals as goal

pub returns : goal.returns
unfolding reveal_row held_plane turned_row chi_row
returns c =
    let a = c.args in
    let h0 = c.turned-b0.type_inv in
    let h1 = c.turned-b1.type_inv in
    let h2 = c.turned-b2.type_inv in
    let h3 = c.turned-b3.type_inv in
    let h4 = c.turned-b4.type_inv in
    let n2 = complement_lt c.turned-b2.result in
    let b0 = brought 0 {a = get_or a.a 0 0} {d = get_or a.d 0 0} (lit≤ tt) (omega arith) (omega arith) c.turned-b0.ensures in
    let b1 = brought 6 {a = get_or a.a 1 0} {d = get_or a.d 1 0} (lit≤ tt) (omega arith) (omega arith) c.turned-b1.ensures in
    let b2 = brought 12 {a = get_or a.a 2 0} {d = get_or a.d 2 0} (lit≤ tt) (omega arith) (omega arith) c.turned-b2.ensures in
    let b3 = brought 18 {a = get_or a.a 3 0} {d = get_or a.d 3 0} (lit≤ tt) (omega arith) (omega arith) c.turned-b3.ensures in
    let b4 = brought 24 {a = get_or a.a 4 0} {d = get_or a.d 4 0} (lit≤ tt) (omega arith) (omega arith) c.turned-b4.ensures in
    let l0 = by_or true h0 h1 h2 in
    let l1 = by_or false h1 n2 h3 in
    let l2 = by_and true h2 h3 h4 in
    let l3 = by_or true h3 h4 h0 in
    let l4 = by_and false h4 h0 h1 in
    (λ i. l0 i ∷ l1 i ∷ l2 i ∷ l3 i ∷ l4 i ∷ []) ∙ (λ i. chi_row (b0 i ∷ b1 i ∷ b2 i ∷ b3 i ∷ b4 i ∷ []))
    ∙ (λ i. held_plane (rotations_right i) 0 a.a a.d)
