-- `syndrome`: what unpacking answers. Assumes nothing.
use Prim.Native.Nat.{◌-◌}
use native.Mathlib.Omega.{arith}
use lib.ListN.{length-drop}
use Rattle.scheme.specs.Key.{key_fields, syndrome_of}
use Rattle.verifier.proofs.Fields.{unpacked}
use Rattle.verifier.proofs.Parts.{tail}
use Rattle.verifier.proofs.key.syndrome.Goals as goal

pub returns : goal.returns
unfolding key_fields syndrome_of
returns c =
    let p = c.args.p.sizes in
    unpacked 7 127 (p.n - p.k) c.requires.1 (tail p.digest c.args.key.now)
    (omega (arith, length-drop p.digest c.args.key.now)) c.unpack.ensures
