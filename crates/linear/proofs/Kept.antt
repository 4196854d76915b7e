-- Ranges as the contracts state them. Assumes nothing.
use mathlib.Core.Path.{subst, sym}
use mathlib.Core.Bool.{Bool}
use mathlib.Core.List.{List}
use Prim.Native.Nat.{ℕ, ◌<◌}
use lib.Dec.{T}
use lib.ListN.{length, get_or, take, drop}
use Rattle.packing.specs.Packing.{all_below}
use Rattle.packing.proofs.Below.{Below, below, below_at, below_take, below_drop, below_test}

pub kept_below : (m : ℕ) (xs : List ℕ) → Below m xs → T (all_below m xs)
kept_below m xs b = subst (λ (t : Bool). T t) (sym (below_test b)) tt

-- by index
pub place_below : (m : ℕ) (xs : List ℕ) (i : ℕ) → T (all_below m xs) → i < length xs → get_or xs i 0 < m
place_below m xs i t = below_at (below m xs t) i

-- of a part
pub front_below : (m i : ℕ) (xs : List ℕ) → T (all_below m xs) → T (all_below m (take i xs))
front_below m i xs t = kept_below m (take i xs) (below_take i (below m xs t))

pub rest_below : (m i : ℕ) (xs : List ℕ) → T (all_below m xs) → T (all_below m (drop i xs))
rest_below m i xs t = kept_below m (drop i xs) (below_drop i (below m xs t))
