-- The six lanes complemented. Assumes nothing.
use mathlib.Core.List.{[], ◌∷◌}
use lib.ListN.{get_or}
use Rattle.keccak.specs.InnerPlanes.{reveal}
use Rattle.keccak.proofs.hide.Goals as goal

pub returns : goal.returns
unfolding reveal
returns c =
    let s = c.args.s.now in
    let e1 = c.complemented-h1.ensures in
    let e2 = c.complemented-h2.ensures in
    let e8 = c.complemented-h8.ensures in
    let e12 = c.complemented-h12.ensures in
    let e17 = c.complemented-h17.ensures in
    let e20 = c.complemented-h20.ensures in
    record {
      lanes = λ i.
          get_or s 0 0 ∷ e1.0 i ∷ e2.0 i ∷ get_or s 3 0 ∷ get_or s 4 0
          ∷ get_or s 5 0 ∷ get_or s 6 0 ∷ get_or s 7 0 ∷ e8.0 i ∷ get_or s 9 0
          ∷ get_or s 10 0 ∷ get_or s 11 0 ∷ e12.0 i ∷ get_or s 13 0 ∷ get_or s 14 0
          ∷ get_or s 15 0 ∷ get_or s 16 0 ∷ e17.0 i ∷ get_or s 18 0 ∷ get_or s 19 0
          ∷ e20.0 i ∷ get_or s 21 0 ∷ get_or s 22 0 ∷ get_or s 23 0 ∷ get_or s 24 0
          ∷ [];
      meaning = λ i.
          get_or s 0 0 ∷ e1.1 i ∷ e2.1 i ∷ get_or s 3 0 ∷ get_or s 4 0
          ∷ get_or s 5 0 ∷ get_or s 6 0 ∷ get_or s 7 0 ∷ e8.1 i ∷ get_or s 9 0
          ∷ get_or s 10 0 ∷ get_or s 11 0 ∷ e12.1 i ∷ get_or s 13 0 ∷ get_or s 14 0
          ∷ get_or s 15 0 ∷ get_or s 16 0 ∷ e17.1 i ∷ get_or s 18 0 ∷ get_or s 19 0
          ∷ e20.1 i ∷ get_or s 21 0 ∷ get_or s 22 0 ∷ get_or s 23 0 ∷ get_or s 24 0
          ∷ [];
    }
