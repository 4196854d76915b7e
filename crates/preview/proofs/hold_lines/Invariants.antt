-- `preview::hold_lines` meets its contract: the lines that were passed are stored.
use mathlib.Core.Path.{◌≡◌}
use Prim.Native.Nat.{◌-◌, ◌≤◌}
use lib.ListN.{length}
use Rattle.profile.specs.Table.{table_of}
use Rattle.store.specs.Stored.{store_size, stored}
use Rattle.preview.proofs.CutLaws.{Left}
use Rattle.preview.proofs.hold_lines.Given as goal

abbrev pub invariant-loop-end : goal.invariant-loop-end
invariant-loop-end l =
    (l.at ≤ length l.input) × Left (table_of l.table) l.input (stored l.initial.store) l.at (stored l.store)
    × (length l.store ≡ store_size)

abbrev pub decreases-loop-end : goal.decreases-loop-end
decreases-loop-end l = length l.input - l.at
