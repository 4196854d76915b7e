-- Copying from the front. Assumes nothing.
use mathlib.Core.Path.{◌≡◌, ◌∙◌}
use mathlib.Core.List.{List, ◌++◌}
use Prim.Native.Nat.{ℕ, ◌+◌, ◌≤◌, ◌<◌}
use native.Mathlib.Numerals.{add-one}
use native.Mathlib.Omega.{arith}
use lib.ListN.{length, take, drop, get_or, set}
use lib.Seq.{take-suc, take_all, length-take-le}
use Rattle.outcome.proofs.Filled.{filled_more, filled_end}

-- the buffer after i bytes are copied
abbrev pub copied : List ℕ → List ℕ → ℕ → List ℕ
copied from o i = take i from ++ drop i o

pub copied_store : (from o to : List ℕ) (i : ℕ) → to ≡ copied from o i → i < length from → length o ≡ length from
    → set to i (get_or from i 0) ≡ copied from o (i + 1)
copied_store from o to i e h size =
    rw e
    (filled_more (take i from) o i (get_or from i 0) (length-take-le i from (omega arith)) (omega arith) ∙
    rw (add-one, take-suc from i 0 h))

pub copied_end : (from o : List ℕ) (i : ℕ) → length from ≤ i → length o ≡ length from → copied from o i ≡ from
copied_end from o i h size = filled_end (take i from) o i (omega arith) ∙ take_all i from h
