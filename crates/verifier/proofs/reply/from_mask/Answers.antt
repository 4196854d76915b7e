-- `from_mask`: each array holds its digest. Assumes nothing.
use mathlib.Core.Path.{◌∙◌, refl, ap}
use mathlib.Core.List.{List}
use Prim.Native.Nat.{ℕ}
use lib.ListN.{replicate}
use lib.Seq.{length-take-le}
use Rattle.linear.proofs.Sizes.{length_response}
use Rattle.linear.proofs.Ranges.{below_response}
use Rattle.linear.proofs.Spelled.{normal_part}
use Rattle.scheme.specs.Strings.{digest, response_string}
use Rattle.verifier.proofs.Vectors.{made}
use Rattle.verifier.proofs.Parts.{written, rewritten}
use Rattle.verifier.proofs.reply.from_mask.Goals as goal

pub commit_response-requires : goal.commit_response-requires
commit_response-requires c =
    let a = c.args in
    let n = a.p.sizes.n in
    let response = normal_part (written n (replicate 256 0) a.p.sound.n_fits c.respond.auto.out refl) c.respond.ensures
    c.normalize.ensures in (
      made 127 n (rewritten n (replicate 256 0) c.respond.new.out a.p.sound.n_fits c.respond.auto.out c.normalize.auto.xs response)
          (length_response a.round.beta a.us.now a.es.now n c.requires.0.long c.requires.1.long)
          (below_response a.round.beta a.us.now a.es.now),
      length-take-le a.p.sizes.digest (replicate 64 0) a.p.sound.digest_fits,
    )

pub returns : goal.returns
returns c =
    let p = c.args.p in
    let d = p.sizes.digest in
    let n = p.sizes.n in
    let response = normal_part (written n (replicate 256 0) p.sound.n_fits c.respond.auto.out refl) c.respond.ensures
    c.normalize.ensures in
    let ys = rewritten n (replicate 256 0) c.respond.new.out p.sound.n_fits c.respond.auto.out c.normalize.auto.xs response in
    record {
      commitment = written d (replicate 64 0) p.sound.digest_fits c.commit_mask.auto.out c.commit_mask.ensures;
      hash = written d (replicate 64 0) p.sound.digest_fits c.commit_response.auto.out
          (c.commit_response.ensures ∙ ap (λ (x : List ℕ). digest p.sizes (response_string x)) ys);
    }
