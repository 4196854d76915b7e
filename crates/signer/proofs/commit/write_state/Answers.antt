-- `write_state`: four parts, one behind the other. Assumes nothing.
use Rattle.std.proofs.Common.{rules}
use Rattle.std.proofs.lemmas.Slice.{overwrites}
use Rattle.scheme.specs.Strings.{bytes_from, digest, commitment1_string}
use Rattle.signer.proofs.commit.write_state.Goals as goal

pub returns : goal.returns
unfolding digest bytes_from commitment1_string
returns c = search (rules, overwrites)
