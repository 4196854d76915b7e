-- `commit_syndrome`: the part of the array holds the packed syndrome. Assumes nothing.
use mathlib.Core.List.{◌∷◌, ◌++◌}
use native.Mathlib.Omega.{arith}
use lib.ListN.{replicate}
use Rattle.verifier.proofs.Parts.{written}
use Rattle.verifier.proofs.Hashed.{hashed}
use Rattle.verifier.proofs.reply.commit_syndrome.Goals as goal

pub returns : goal.returns
returns c =
    let a = c.args in
    let values = written c.packed_size-x.result (replicate 224 0) (omega arith) c.pack.auto.out c.pack.ensures in
    let number = c.round_number-number.ensures in
    hashed a.p.sizes c.hash.ensures (λ i. 0 ∷ values i ++ a.exponents.now ++ a.salt.now ++ number i) c.requires.1
