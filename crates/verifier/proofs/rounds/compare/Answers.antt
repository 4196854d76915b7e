-- `compare`: c and h from what the sponges hold. Assumes nothing.
use mathlib.Core.Path.{refl}
use mathlib.Core.List.{◌∷◌, ◌++◌}
use lib.ListN.{replicate}
use lib.Seq.{length-take-le}
use Rattle.scheme.specs.Strings.{aggregate, joined, commitments_string}
use Rattle.verifier.proofs.Comparing.{c_h_differ}
use Rattle.verifier.proofs.Parts.{written}
use Rattle.verifier.proofs.Hashed.{hashed}
use Rattle.verifier.proofs.rounds.compare.Goals as goal

pub returns : goal.returns
unfolding aggregate joined commitments_string
returns c =
    let p = c.args.p.sizes in
    let fits = c.args.p.sound.digest_fits in
    let sized = length-take-le p.digest (replicate 64 0) fits in record {
      answer = λ {c0s} {c1s} {hs} holds.
          let c0 = written p.digest (replicate 64 0) fits c.squeeze.auto.out
          (hashed p (c.squeeze.ensures.holds holds.c0) refl sized) in
          let c1 = written p.digest (replicate 64 0) fits c.squeeze-2.auto.out
          (hashed p (c.squeeze-2.ensures.holds holds.c1) refl sized) in
          let made = written p.digest (replicate 64 0) fits c.hash.auto.out
          (hashed p c.hash.ensures (λ i. 5 ∷ c0 i ++ c1 i) sized) in
          let h = written p.digest (replicate 64 0) fits c.squeeze-3.auto.out
          (hashed p (c.squeeze-3.ensures.holds holds.h) refl sized) in
          c_h_differ p c.args.c.now c.args.h.now (aggregate p c0s) c1s hs made h c.agree.ensures;
    }
