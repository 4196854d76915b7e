-- A part of a slice that is lent to be written, and what the whole is then. Assumes nothing.
use mathlib.Core.Path.{◌≡◌, ◌∙◌, ap, sym}
use mathlib.Core.List.{List, ◌++◌, append_assoc, append-nil}
use Prim.Native.Nat.{ℕ, ◌+◌, ◌-◌, ◌≤◌}
use native.Mathlib.Omega.{arith}
use lib.ListN.{length, take, drop, length-append, length-drop, drop_of_length-le}
use lib.Seq.{take_at, drop_at, drop-drop}
use borrow.Rule.Slice.PartMut.{mid_of, put_mid, mid_len}

module _ (at : ℕ) (front old new : List ℕ) (sized : length front ≡ at) where
  -- a part that is written behind the front: the front grows by it
  pub put_next : (end : ℕ) → at ≤ end → put_mid at (end - at) (front ++ drop at old) new ≡ front ++ new ++ drop end old
  put_next end ordered =
      let before : take at (front ++ drop at old) ≡ front = take_at front (drop at old) at sized in
      let reached : at + (end - at) ≡ end = omega arith in
      let behind : drop (end - at) (drop at (front ++ drop at old)) ≡ drop end old =
      ap (λ (xs : List ℕ). drop (end - at) xs) (drop_at front (drop at old) at sized)
      ∙ drop-drop (end - at) at old
      ∙ ap (λ (n : ℕ). drop n old) reached
      in
      (λ i. before i ++ (new ++ behind i)) ∙ sym (append_assoc front new (drop end old))

  -- the whole, with a front that was written, is as long as it was
  pub length_written : at ≤ length old → length (front ++ drop at old) ≡ length old
  length_written within = length-append front (drop at old) ∙ omega (arith, length-drop at old)

  -- a part up to the end: nothing is left behind it
  pub put_last : at ≤ length old → put_mid at (length (front ++ drop at old) - at) (front ++ drop at old) new ≡ front
      ++ new
  put_last within =
      let long : length (front ++ drop at old) ≡ length old = length_written within in
      put_next (length (front ++ drop at old)) (omega arith)
      ∙ ap (λ (rest : List ℕ). front ++ new ++ rest)
      (drop_of_length-le old {i = length (front ++ drop at old)} (omega arith))
      ∙ append-nil (front ++ new)

  -- the part up to the end has the places that are left
  pub length_last : at ≤ length old → length (mid_of at (length (front ++ drop at old) - at) (front ++ drop at old))
      ≡ length old - at
  length_last within =
      mid_len at (length (front ++ drop at old)) (front ++ drop at old) (omega arith)
      ∙ ap (λ (n : ℕ). n - at) (length_written within)
