-- `pack`: packing refuses nothing here. Assumes nothing.
use Rattle.std.proofs.Common.{◌≡◌, ◌-◌, ◌^◌, length, sym, ◌∙◌, eq-eqb}
use Rattle.packing.proofs.Refusals.{pack_passes}
use Rattle.packing.proofs.Below.{below, below_test}
use Rattle.outcome.specs.Result.{number_in}
use Rattle.expand.proofs.pack.Goals as goal

pub returns : goal.returns
returns g c =
    let xs = c.args.xs.now in
    let m = 2 ^ g.row.W - 1 in
    let zero : number_in c.pack.result ≡ 0 =
    c.pack.ensures.answer ∙ sym (pack_passes g.row.W m xs (length c.args.out.now) c.requires.3 (below_test (below m xs c.requires.2))) in
    c.pack.ensures.content ∙ rw (eq-eqb (number_in c.pack.result) 0 zero)
