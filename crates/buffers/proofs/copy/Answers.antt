-- `copy`: after i bytes the buffer holds the first i. Assumes nothing.
use mathlib.Core.Path.{◌∙◌, refl}
use native.Mathlib.Omega.{arith}
use lib.ListN.{length-set}
use Rattle.buffers.proofs.Compared.{copied_store, copied_end}
use Rattle.buffers.proofs.copy.Goals as goal

pub loop-i-init : goal.loop-i-init
loop-i-init c = (omega arith, refl, refl)

pub loop-i-preserved : goal.loop-i-preserved
loop-i-preserved c =
    let now = c.loop-i in (
      omega arith,
      length-set now.to now.i _ ∙ now.invariant.1,
      copied_store c.args.from.now _ now.to now.i now.invariant.2 (omega arith) c.requires,
    )

pub returns : goal.returns
returns c =
    let now = c.loop-i in
    now.invariant.2 ∙ copied_end c.args.from.now _ now.i (omega arith) c.requires
