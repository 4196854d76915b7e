-- Parts of lists as the code lends them. Assumes nothing.
use mathlib.Core.Path.{◌≡◌, ◌∙◌, sym, subst}
use mathlib.Core.List.{List, ◌++◌}
use Prim.Native.Nat.{ℕ, ◌-◌, ◌≤◌}
use native.Mathlib.Omega.{arith}
use lib.ListN.{length, take, drop, length-drop}
use lib.Seq.{length_front, length-take-le, take_all, take_at}

-- the first n places of an array are written, ..
pub written : (n : ℕ) (old : List ℕ) {new made : List ℕ} → n ≤ length old → length new ≡ length (take n old) → new ≡ made
    → take n (new ++ drop n old) ≡ made
written n old {new} fits kept e = take_at new (drop n old) n (kept ∙ length-take-le n old fits) ∙ e

-- .. and written again
pub rewritten : (n : ℕ) (old first : List ℕ) {new made : List ℕ} → n ≤ length old → length first ≡ length (take n old)
    → length new ≡ length (take n (first ++ drop n old)) → new ≡ made → take n (new ++ drop n (first ++ drop n old)) ≡ made
rewritten n old first fits kept again =
    written n (first ++ drop n old) (subst (λ (k : ℕ). n ≤ k) (sym (length_front old first n kept)) fits) again

-- what is left from d on
pub tail : (d : ℕ) (xs : List ℕ) → take (length xs - d) (drop d xs) ≡ drop d xs
tail d xs = take_all (length xs - d) (drop d xs) (omega (arith, length-drop d xs))
