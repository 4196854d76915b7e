-- A buffer that is filled from its front: after i stores it is the first i elements, then what it held.
-- Assumes nothing.
use mathlib.Core.Path.{◌≡◌, ◌∙◌, sym}
use mathlib.Core.List.{List, [], ◌∷◌, ◌++◌}
use Prim.Native.Nat.{ℕ, suc, ◌+◌, ◌<◌, ◌≤◌}
use native.Mathlib.Numerals.{add-one}
use lib.ListN.{length, drop, set, get_or, drop_of_length-le}
use lib.Seq.{drop-cons, set_at, append_snoc}
use mathlib.Core.List.{append-nil}

-- one more store
pub filled_more : (xs o : List ℕ) (i v : ℕ) → length xs ≡ i → i < length o
    → set (xs ++ drop i o) i v ≡ xs ++ (v ∷ []) ++ drop (i + 1) o
filled_more xs o i v e h =
    rw (drop-cons o i 0 h, add-one) (set_at xs (get_or o i 0) (drop (suc i) o) v i e ∙ sym (append_snoc xs v (drop (suc i) o)))

-- the whole buffer is filled
pub filled_end : (xs o : List ℕ) (i : ℕ) → length o ≤ i → xs ++ drop i o ≡ xs
filled_end xs o i h = rw (drop_of_length-le o h) (append-nil xs)
