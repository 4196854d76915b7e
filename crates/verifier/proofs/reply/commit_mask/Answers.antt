-- `commit_mask`: the parts of both arrays hold the packed vectors. Assumes nothing.
use mathlib.Core.List.{◌∷◌, ◌++◌}
use native.Mathlib.Omega.{arith}
use lib.ListN.{replicate}
use Rattle.scheme.specs.Strings.{commitment1_string}
use Rattle.verifier.proofs.Parts.{written}
use Rattle.verifier.proofs.Hashed.{hashed}
use Rattle.verifier.proofs.reply.commit_mask.Goals as goal

pub returns : goal.returns
unfolding commitment1_string
returns c =
    let values = written c.packed_size-u.result (replicate 224 0) (omega arith) c.pack.auto.out c.pack.ensures in
    let exponents = written c.packed_size-e.result (replicate 96 0) (omega arith) c.pack-2.auto.out c.pack-2.ensures in
    let number = c.round_number-number.ensures in
    hashed c.args.p.sizes c.hash.ensures (λ i. 1 ∷ values i ++ exponents i ++ c.args.salt.now ++ number i) c.requires.2
