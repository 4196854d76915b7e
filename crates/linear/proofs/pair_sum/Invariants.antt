-- `pair_sum`: the sum so far and the sums of what is left make the whole, modulo 127. Assumes nothing.
use mathlib.Core.Path.{◌≡◌}
use Prim.Native.Nat.{ℕ, ◌≤◌, ◌+◌, ◌*◌, ◌%◌}
use mathlib.Core.List.{List}
use lib.ListN.{drop}
use Rattle.linear.specs.Linear.{dot}
use Rattle.linear.proofs.pair_sum.Given as goal

-- what is left of both sums from place i on
abbrev pub left : List ℕ → List ℕ → List ℕ → List ℕ → ℕ → ℕ
left a x b y i = dot (drop i a) (drop i x) + dot (drop i b) (drop i y)

abbrev pub invariant-loop-i : goal.invariant-loop-i
invariant-loop-i l =
    (l.sum ≤ l.i * 375) × ((l.sum + left l.a l.x l.b l.y l.i) % 127 ≡ (dot l.a l.x + dot l.b l.y) % 127)
