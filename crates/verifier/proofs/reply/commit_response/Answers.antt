-- `commit_response`: the part of the array holds the packed response. Assumes nothing.
use mathlib.Core.List.{◌∷◌}
use native.Mathlib.Omega.{arith}
use lib.ListN.{replicate}
use Rattle.scheme.specs.Strings.{response_string}
use Rattle.verifier.proofs.Parts.{written}
use Rattle.verifier.proofs.Hashed.{hashed}
use Rattle.verifier.proofs.reply.commit_response.Goals as goal

pub returns : goal.returns
unfolding response_string
returns c =
    let values = written c.packed_size-y.result (replicate 224 0) (omega arith) c.pack.auto.out c.pack.ensures in
    hashed c.args.p.sizes c.hash.ensures (λ i. 2 ∷ values i) c.requires.1
