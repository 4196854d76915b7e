-- Laws on lists put together in order, on totals, and on the test that two lists are equal.
-- Assumes nothing.
use mathlib.Core.Path.{◌≡◌, refl, ◌∙◌}
use mathlib.Core.Bool.{Bool, true, false, ◌&&◌}
use mathlib.Core.List.{List, [], ◌∷◌, ◌++◌, append_assoc}
use Prim.Native.Nat.{ℕ, zero, suc, ◌+◌, ◌<◌}
use native.Mathlib.Nat.{not-suc-le-zero}
use native.Mathlib.Omega.{arith}
use borrow.Author.Tests.{eqb-true, eqb-false, eq-eqb}
use lib.Dec.{T, eqb, eqb→eq}
use lib.Pointwise.{pointwise}
use lib.ListN.{length, take, drop, length-append}
use lib.Seq.{take_at, drop_at}
use Rattle.outcome.specs.Answer.{Check, first_refusal, pick}
use Rattle.outcome.specs.Lists.{flat, total, same}
use Rattle.outcome.proofs.Checks.{both_passed, passed_front}

-- below m + 1 is m itself, or below m
last_or : {P : ℕ → Type 0} (m : ℕ) → P m → ((j : ℕ) → j < m → P j) → (j : ℕ) → j < suc m → P j
last_or {P} m last front j h = at (eqb j m) refl
  where
    at : (b : Bool) → eqb j m ≡ b → P j
    at true e = rw (eqb-true j m e) last
    at false e = front j (let n : j ≡ m → ⊥ = eqb-false j m e in omega arith)

-- ---- lists put together in order

module _ {A : Type 0} where
  -- only what stands below m counts
  pub flat_ext : (f g : ℕ → List A) (m : ℕ) → ((j : ℕ) → j < m → f j ≡ g j) → flat f m ≡ flat g m
  unfolding flat
  flat_ext f g zero e = refl
  flat_ext f g (suc m) e =
      let front : flat f m ≡ flat g m = flat_ext f g m (λ j h. e j (omega arith)) in
      let last : f m ≡ g m = e m (omega arith) in
      λ i. front i ++ last i

  -- the length, where s gives that of each
  pub length_flat : (f : ℕ → List A) (s : ℕ → ℕ) (m : ℕ) → ((j : ℕ) → j < m → length (f j) ≡ s j) →
      length (flat f m) ≡ total s m
  unfolding flat total
  length_flat f s zero e = refl
  length_flat f s (suc m) e =
      length-append (flat f m) (f m) ∙ rw (length_flat f s m (λ j h. e j (omega arith)), e m (omega arith))

  -- list j is found behind the total of the lengths before it, whatever follows them all
  pub flat_part : (f : ℕ → List A) (s : ℕ → ℕ) (m : ℕ) → ((j : ℕ) → j < m → length (f j) ≡ s j) →
      (rest : List A) (j : ℕ) → j < m → take (s j) (drop (total s j) (flat f m ++ rest)) ≡ f j
  unfolding flat
  flat_part f s zero e rest j h = absurd (not-suc-le-zero h)
  flat_part f s (suc m) e rest j h =
      let below : (j : ℕ) → j < m → length (f j) ≡ s j = λ j h. e j (omega arith) in
      let last : take (s m) (drop (total s m) (flat f m ++ (f m ++ rest))) ≡ f m =
      rw (drop_at (flat f m) (f m ++ rest) (total s m) (length_flat f s m below))
      (take_at (f m) rest (s m) (e m (omega arith)))
      in
      rw (append_assoc (flat f m) (f m) rest) (last_or m last (flat_part f s m below (f m ++ rest)) j h)

-- ---- checks put together in order: answered 0 exactly where each list below m is

pub flat_answered : (f : ℕ → List Check) (m : ℕ) → ((j : ℕ) → j < m → first_refusal (f j) ≡ 0) → first_refusal (flat f m) ≡ 0
unfolding flat
flat_answered f zero e = refl
flat_answered f (suc m) e =
    passed_front (flat f m) (f m) (flat_answered f m (λ j h. e j (omega arith))) ∙ e m (omega arith)

pub flat_passed : (f : ℕ → List Check) (m : ℕ) → first_refusal (flat f m) ≡ 0 → (j : ℕ) → j < m → first_refusal (f j) ≡ 0
unfolding flat
flat_passed f zero e j h = absurd (not-suc-le-zero h)
flat_passed f (suc m) e j h =
    let both : (first_refusal (flat f m) ≡ 0) × (first_refusal (f m) ≡ 0) = both_passed (flat f m) (f m) e in
    last_or m both.1 (flat_passed f m both.0) j h

-- ---- totals

-- the first summand, taken off at the front
pub total_first : (f : ℕ → ℕ) (m : ℕ) → total f (suc m) ≡ f 0 + total (λ j. f (suc j)) m
unfolding total
total_first f zero = omega arith
total_first f (suc m) = omega (arith, total_first f m)

-- ---- the test that two lists are equal

pub same_refl : (xs : List ℕ) → same xs xs ≡ true
unfolding same
same_refl [] = refl
same_refl (x ∷ xs) = rw (eq-eqb x x refl) (same_refl xs)

both : (a b : Bool) → T (pick a b false) → T a × T b
both true b t = (tt, t)
both false b t = absurd t

pub same_equal : (xs ys : List ℕ) → T (same xs ys) → xs ≡ ys
unfolding same
same_equal [] [] t = refl
same_equal [] (y ∷ ys) t = absurd t
same_equal (x ∷ xs) [] t = absurd t
same_equal (x ∷ xs) (y ∷ ys) t =
    let parts : T (eqb x y) × T (same xs ys) = both (eqb x y) (same xs ys) t in
    let head : x ≡ y = eqb→eq x y parts.0 in
    let tail : xs ≡ ys = same_equal xs ys parts.1 in
    λ i. head i ∷ tail i

-- the library's `==` of two slices is this test
pub pointwise_same : (xs ys : List ℕ) → pointwise eqb xs ys ≡ same xs ys
unfolding same
pointwise_same [] [] = refl
pointwise_same [] (y ∷ ys) = refl
pointwise_same (x ∷ xs) [] = refl
pointwise_same (x ∷ xs) (y ∷ ys) =
    elim (eqb x y) as (λ b. (b && pointwise eqb xs ys) ≡ pick b (same xs ys) false) [ true ↦ pointwise_same xs ys | false ↦ refl ]
