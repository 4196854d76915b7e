-- `write_key`: the powers, their syndrome, then both parts of the key. Assumes nothing.
use Rattle.std.proofs.Common.{ℕ, ◌-◌, ◌*◌, List, [], ◌++◌, replicate, drop, sym, ap, ◌∙◌, arith, length-take-le, mul_comm, lit<, lit≤}
use Rattle.packing.specs.Packing.{size}
use Rattle.packing.proofs.Below.{below}
use Rattle.linear.specs.Linear.{syndrome}
use Rattle.linear.proofs.Kept.{kept_below}
use Rattle.linear.proofs.Ranges.{below_syndrome}
use Rattle.linear.proofs.Spelled.{normal_part}
use Rattle.expand.proofs.Lent.{lent, lent_within, lent_length, lent_part}
use Rattle.keygen.proofs.Parts.{length_last}
use Rattle.keygen.proofs.Made.{below_powers}
use Rattle.keygen.proofs.write_key.Goals as goal

pub syndrome-requires : goal.syndrome-requires
syndrome-requires c =
    let p = c.args.p.sizes in
    let sound = c.args.p.sound in
    let x = lent p.n (replicate 256 0) c.powers.new.out sound.n_fits c.powers.auto.out in
    let rows = length-take-le {A = ℕ} (p.n - p.k) (replicate 256 0) (omega (arith, sound.n_fits)) in
    let long = lent_length x in (
      sym long ∙ omega (arith, rows, sound.k≤n),
      c.requires.1 ∙ mul_comm (p.n - p.k) p.k ∙ ap (λ (r : ℕ). p.k * r) (sym rows),
      rw (sym long) (omega (arith, sound.n_fits)),
      c.requires.2,
      rw (lent_part x ∙ c.powers.ensures) (kept_below 127 _ (below_powers (below 7 _ c.requires.4))),
    )

pub pack-requires : goal.pack-requires
pack-requires c =
    let p = c.args.p.sizes in
    let rows = p.n - p.k in
    let x = lent p.n (replicate 256 0) c.powers.new.out c.args.p.sound.n_fits c.powers.auto.out in
    let s = lent rows (replicate 256 0) c.syndrome.new.out (omega (arith, c.args.p.sound.n_fits)) c.syndrome.auto.out in
    let normal = lent rows (c.syndrome.new.out ++ drop rows (replicate 256 0)) c.normalize.new.xs (lent_within s) c.normalize.auto.xs in
    let held =
    lent_part normal
    ∙ normal_part (lent_part s) c.syndrome.ensures c.normalize.ensures
    ∙ ap (λ (xs : List ℕ). syndrome p.k c.args.vs.now xs) (lent_part x ∙ c.powers.ensures)
    in
    let front = length-take-le p.digest c.args.key.now (omega (arith, c.requires.5)) in (
      lit< tt,
      lit≤ tt,
      rw held (kept_below 127 _ (below_syndrome _ _ _)),
      length_last p.digest c.copy_from_slice.new.self c.args.key.now [] (c.copy_from_slice.auto.self ∙ front) (omega (arith, c.requires.5))
          ∙ omega (arith, c.requires.5)
          ∙ ap (size 7) (lent_length normal),
    )
