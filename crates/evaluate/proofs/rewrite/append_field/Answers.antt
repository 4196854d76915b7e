-- `evaluate::rewrite::append_field` meets its contract. Assumes nothing.
use mathlib.Core.Path.{refl}
use Prim.Native.Nat.{◌+◌}
use lib.ListN.{length}
use Rattle.decimal.proofs.Stores.{put_part}
use Rattle.evaluate.proofs.rewrite.append_field.Goals as goal

pub returns : goal.returns
returns c =
    let a = c.args in
    put_part a.out.now c.copy.new.to a.field.now a.at (a.at + length a.field.now)
    c.copy.ensures refl c.requires.room
