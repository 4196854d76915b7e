-- `write_bytes` meets its contract. Assumes nothing.
use Rattle.std.proofs.Common.{length, take, ap, ◌∙◌}
use Rattle.shake.proofs.Words.{take_to_le_bytes}
use Rattle.shake.proofs.write_bytes.Goals as goal

pub returns : goal.returns
returns c =
    let n = length c.args.out.now in
    c.copy_from_slice.ensures.after ∙ ap (take n) c.to_le_bytes-bytes.ensures ∙ take_to_le_bytes n c.args.x c.requires
