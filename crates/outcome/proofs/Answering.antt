-- Which answer a list of checks gives that is tested in groups. Assumes nothing.
use mathlib.Core.Path.{◌≡◌, refl, ◌∙◌, sym}
use mathlib.Core.Bool.{Bool, true, false}
use mathlib.Core.List.{List, ◌++◌}
use Prim.Native.Nat.{ℕ, zero, suc, ◌<◌}
use native.Mathlib.Nat.{not-suc-le-zero}
use native.Mathlib.Omega.{arith}
use borrow.Author.Tests.{eqb-true, eqb-false}
use lib.Dec.{eqb}
use Rattle.outcome.specs.Answer.{Check, first_refusal}
use Rattle.outcome.specs.Lists.{flat}
use Rattle.outcome.proofs.Checks.{passed_front, refused_front}

-- a group that refuses decides
pub stops : (xs ys : List Check) {r : ℕ} → r ≡ first_refusal xs → (r ≡ 0 → ⊥) → r ≡ first_refusal (xs ++ ys)
stops xs ys {r = zero} e h = absurd (h refl)
stops xs ys {r = suc k} e h = sym (refused_front xs ys k (sym e))

-- one that passes leaves the answer to what follows it
pub goes_on : (xs ys : List Check) {r q : ℕ} → r ≡ first_refusal xs → r ≡ 0 → q ≡ first_refusal ys → q ≡ first_refusal
    (xs ++ ys)
goes_on xs ys e z f = f ∙ sym (passed_front xs ys (sym e ∙ z))

-- of groups in order the first that refuses decides
pub flat_stops : (f : ℕ → List Check) (m j : ℕ) {r : ℕ} → j < m → first_refusal (flat f j) ≡ 0 → r ≡ first_refusal (f j)
    → (r ≡ 0 → ⊥) → r ≡ first_refusal (flat f m)
unfolding flat
flat_stops f zero j l z e h = absurd (not-suc-le-zero l)
flat_stops f (suc m) j {r = r} l z e h = at (λ n. flat_stops f m j n z e h) (eqb j m) refl
  where
    at : (j < m → r ≡ first_refusal (flat f m)) → (b : Bool) → eqb j m ≡ b → r ≡ first_refusal (flat f m ++ f m)
    at earlier true s = rw (← eqb-true j m s) (goes_on (flat f j) (f j) (sym z) refl e)
    at earlier false s =
        let n : j ≡ m → ⊥ = eqb-false j m s in
        stops (flat f m) (f m) (earlier (omega arith)) h

-- one group more
pub flat_passes : (f : ℕ → List Check) (j : ℕ) {r : ℕ} → first_refusal (flat f j) ≡ 0 → r ≡ first_refusal (f j) → r ≡ 0
    → first_refusal (flat f (suc j)) ≡ 0
unfolding flat
flat_passes f j z e h = sym (goes_on (flat f j) (f j) (sym z) refl (sym h ∙ e))
