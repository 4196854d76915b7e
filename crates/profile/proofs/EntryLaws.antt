-- What the entries are told. Assumes nothing.
use mathlib.Core.Path.{◌≡◌}
use mathlib.Core.Bool.{true}
use mathlib.Core.List.{List}
use Prim.Native.Nat.{ℕ}
use native.Mathlib.Omega.{arith}
use lib.ListN.{length}
use Rattle.decimal.specs.Decimal.{Room}
use Rattle.decimal.proofs.Stores.{sets_front, appended_length}
use Rattle.outcome.proofs.Lists.{pointwise_same}
use Rattle.std.proofs.lemmas.Grind.{common_steps}
use Rattle.profile.specs.declared.Profile.{Profile}
use Rattle.profile.specs.Rules.{Class, valid}
use Rattle.profile.specs.Line.{longest, line_of}
use Rattle.profile.proofs.RuleLaws.{test, parts}
use Rattle.profile.proofs.LineLaws.{line_lengths}

-- the line of a valid profile has room in the longest buffer
pub line_room : (table : List Class) (p : Profile) (lent : List ℕ) → valid table p ≡ true → length lent ≡ longest → Room lent 0 (line_of p)
line_room table p lent ok size =
    record { room = omega (arith, size, line_lengths p (parts table p (test (valid table p) ok)).fields) }

-- what `read_line` is told, and `write_line`
pub ruleset reading = (common_steps, line_room, sets_front, appended_length, pointwise_same)

pub ruleset writing = (common_steps, line_room, sets_front)
