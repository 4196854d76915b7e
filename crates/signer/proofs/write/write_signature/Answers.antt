-- `write_signature`: four parts, one behind the other. Assumes nothing.
use Rattle.std.proofs.Common.{rules}
use Rattle.std.proofs.lemmas.Slice.{overwrites}
use Rattle.signer.proofs.write.write_signature.Goals as goal

pub returns : goal.returns
returns c = search (rules, overwrites)
