-- `sample::keep_bytes`: the bytes as one number. Assumes nothing.
use native.Mathlib.Omega.{arith}
use Rattle.packing.proofs.Below.{bytes_below, below_test}
use Rattle.sampling.proofs.Draws.{yield_bytes}
use Rattle.sampling.proofs.sample.keep_bytes.Goals as goal

pub gather-v-requires : goal.gather-v-requires
gather-v-requires c = (omega arith, omega arith, omega arith, below_test (bytes_below c.args.bytes.now c.type_inv.bytes))

pub returns : goal.returns
returns c =
    let kept = c.keep_some in
    let a = c.args in
    (kept.ensures.0, rw (c.gather-v.ensures, yield_bytes a.w a.d.limit a.d.added a.x a.bytes.now c.requires.1) at kept.ensures.1)
