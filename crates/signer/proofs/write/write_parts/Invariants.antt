-- `write_parts`: after j rounds their parts are written; the next begins behind them. Assumes nothing.
use mathlib.Core.Path.{◌≡◌}
use Prim.Native.Nat.{◌≤◌}
use lib.ListN.{length, take}
use Rattle.outcome.specs.Lists.{flat}
use Rattle.scheme.specs.Verify.{offset}
use Rattle.signer.specs.InnerState.{part_at}
use Rattle.signer.proofs.write.write_parts.Given as goal

abbrev pub invariant-loop-j : goal.invariant-loop-j
invariant-loop-j l =
    let given = l.given in
    let p = given.category.sizes in
    record {
      place : l.start ≡ offset p l.bs l.j;
      within : l.start ≤ length l.fn.parts;
      written : take l.start l.parts ≡ flat (part_at p given.states.now given.betas.now given.es.now given.seeds.now l.bs) l.j;
    }
