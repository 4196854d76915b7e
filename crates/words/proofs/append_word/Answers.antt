-- `words::append_word` meets its contract: four bytes are copied. Assumes nothing.
use mathlib.Core.Path.{refl, ◌∙◌}
use Rattle.decimal.proofs.Stores.{put_part}
use Rattle.words.proofs.append_word.Goals as goal

pub returns : goal.returns
returns c = put_part _ _ _ _ _ (c.copy_from_slice.ensures.after ∙ c.to_le_bytes.ensures) refl c.requires
