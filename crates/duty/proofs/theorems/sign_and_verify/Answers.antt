-- `sign_and_verify`: the three answers, put together. Assumes nothing.
use Rattle.duty.proofs.Carry.{signs_and_verifies}
use Rattle.duty.proofs.theorems.sign_and_verify.Goals as goal

pub returns : goal.returns
returns g c =
    let entries = c.args.entries.now in
    signs_and_verifies entries.category.sound (rw entries.key at c.make_key-key.ensures) c.sign-sign.ensures
    c.verify-verify.ensures
