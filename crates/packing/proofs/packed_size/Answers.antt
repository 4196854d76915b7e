-- `packing::packed_size` meets its contract. Assumes nothing.
use Rattle.packing.proofs.Sizes.{size_groups}
use Rattle.packing.proofs.packed_size.Goals as goal

pub returns : goal.returns
returns c = size_groups c.args.w c.args.n
