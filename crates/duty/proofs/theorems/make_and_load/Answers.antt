-- `make_and_load`: what was made lies within what was lent, and the four answers, put together. Assumes nothing.
use Rattle.duty.proofs.CarryLoad.{makes_and_loads}
use Rattle.duty.proofs.theorems.make_and_load.Goals as goal

pub returns : goal.returns
returns g c =
    let entries = c.args.entries.now in
    makes_and_loads entries.category.sound (rw entries.key at c.make_key-key.ensures) c.make_package-make.ensures
    c.load-load.ensures c.gridprofile_lookup-lookup.ensures
