-- A fact about all numbers below a bound, by one test that is computed. Assumes nothing.
use mathlib.Core.Path.{◌≡◌, sym, subst}
use mathlib.Core.Bool.{Bool, true, false, ◌&&◌}
use Prim.Native.Nat.{ℕ, zero, suc, ◌<◌}
use native.Mathlib.Omega.{arith}
use lib.Dec.{T}
use native.Mathlib.Decide.{ℕ_discrete}

-- the test passes at each number below n
abbrev pub every_below : (ℕ → Bool) → ℕ → Bool
every_below f zero = true
every_below f (suc n) = f n && every_below f n

pub both_left : (a b : Bool) → T (a && b) → T a
both_left true b t = tt
both_left false b t = t

pub both_right : (a b : Bool) → T (a && b) → T b
both_right true b t = t
both_right false b t = absurd t

at_top : (f : ℕ → Bool) (n k : ℕ) → T (f n) → (k < n → T (f k)) → k < suc n → Dec (k ≡ n) → T (f k)
at_top f n k top below h (yes e) = subst (λ (m : ℕ). T (f m)) (sym e) top
at_top f n k top below h (no ne) = below (omega arith)

pub at_below : (f : ℕ → Bool) (n : ℕ) → T (every_below f n) → (k : ℕ) → k < n → T (f k)
at_below f zero t k h = absurd (omega arith)
at_below f (suc n) t k h =
    at_top f n k (both_left (f n) (every_below f n) t) (at_below f n (both_right (f n) (every_below f n) t) k) h (ℕ_discrete k n)
