-- `from_fields`: each array holds its digest. Assumes nothing.
use mathlib.Core.Path.{refl}
use lib.ListN.{replicate}
use lib.Seq.{length-take-le}
use Rattle.verifier.proofs.Parts.{written}
use Rattle.verifier.proofs.Hashed.{hashed}
use Rattle.verifier.proofs.reply.from_fields.Goals as goal

pub returns : goal.returns
returns c =
    let p = c.args.p in
    let d = p.sizes.digest in
    let fits = p.sound.digest_fits in
    record {
      commitment = written d (replicate 64 0) fits c.commit_syndrome.auto.out c.commit_syndrome.ensures;
      hash = written d (replicate 64 0) fits c.hash.auto.out
          (hashed p.sizes c.hash.ensures refl (length-take-le d (replicate 64 0) fits));
    }
