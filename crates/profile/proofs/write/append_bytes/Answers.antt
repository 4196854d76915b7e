-- `profile::write::append_bytes` meets its contract: the bytes are copied. Assumes nothing.
use mathlib.Core.Path.{refl}
use Rattle.decimal.proofs.Stores.{put_part}
use Rattle.profile.proofs.write.append_bytes.Goals as goal

pub returns : goal.returns
returns c = put_part _ _ _ _ _ c.copy_from_slice.ensures.after refl c.requires.room
