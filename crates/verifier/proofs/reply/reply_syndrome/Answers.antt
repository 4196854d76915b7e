-- `reply_syndrome`: each part of an array is what one step made. Assumes nothing.
use mathlib.Core.Path.{◌∙◌, refl, ap, sym}
use mathlib.Core.List.{List}
use Prim.Native.Nat.{ℕ, ◌-◌, ◌*◌}
use native.Mathlib.Nat.{mul_comm}
use native.Mathlib.Omega.{arith}
use lib.ListN.{replicate}
use lib.Seq.{length-take-le}
use Rattle.linear.specs.Linear.{syndrome, less_times}
use Rattle.linear.specs.InnerLoose.{residues}
use Rattle.linear.proofs.Sizes.{length_scaled}
use Rattle.linear.proofs.Ranges.{below_scaled}
use Rattle.linear.proofs.Spelled.{less_residues}
use Rattle.verifier.proofs.Parts.{written}
use Rattle.verifier.proofs.Vectors.{made}
use Rattle.verifier.proofs.reply.reply_syndrome.Goals as goal

pub syndrome-requires : goal.syndrome-requires
syndrome-requires c =
    let a = c.args in
    let p = a.key.category.sizes in
    let scaling = written p.n (replicate 256 0) a.key.category.sound.n_fits c.scale.auto.out c.scale.ensures in
    let xs = made 127 p.n scaling (length_scaled a.es.now a.ys.now p.n c.requires.0.long c.requires.1.long)
    (below_scaled a.es.now a.ys.now) in
    let m = sym (length-take-le {A = ℕ} (p.n - p.k) (replicate 256 0) (omega (arith, a.key.category.sound.n_fits))) in (
      omega (arith, xs.long, m, a.key.category.sound.k≤n),
      a.key.matrix.long ∙ mul_comm (p.n - p.k) p.k ∙ ap (λ (x : ℕ). p.k * x) m,
      omega (arith, xs.long, a.key.category.sound.n_fits),
      a.key.matrix.ranged,
      xs.ranged,
    )

pub returns : goal.returns
returns c =
    let a = c.args in
    let p = a.key.category.sizes in
    let scaling = written p.n (replicate 256 0) a.key.category.sound.n_fits c.scale.auto.out c.scale.ensures in
    let product =
    ap residues (written (p.n - p.k) (replicate 256 0) (omega (arith, a.key.category.sound.n_fits)) c.syndrome.auto.out refl)
    ∙ c.syndrome.ensures.congruent ∙ ap (λ (x : List ℕ). syndrome p.k a.key.vs.now x) scaling
    in
    c.normalize.ensures
    ∙ c.subtract.ensures.congruent
    ∙ sym (less_residues a.beta _ a.key.s.now)
    ∙ ap (λ (x : List ℕ). less_times a.beta x a.key.s.now) product
