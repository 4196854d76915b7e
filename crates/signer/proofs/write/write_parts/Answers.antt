-- `write_parts`: the part of a round lies within all parts. Assumes nothing.
use Prim.Native.Nat.{ℕ}
use native.Mathlib.Omega.{arith}
use lib.ListN.{get_or}
use Rattle.scheme.specs.Sign.{part_size}
use Rattle.scheme.proofs.Challenges.{total_within}
use Rattle.signer.proofs.write.write_parts.Goals as goal

pub slice_bounds-write_part-end : goal.slice_bounds-write_part-end
slice_bounds-write_part-end c =
    let p = c.args.given.now.category.sizes in
    let sizes : ℕ → ℕ = λ i. part_size p (get_or c.args.bs.now i 0) in
    omega (
      arith,
      c.loop-j.invariant.place,
      c.part_size.ensures,
      c.requires.1,
      total_within sizes c.loop-j.j p.t c.loop-j-test.true,
    )
