-- Laws on the shuffle: its length, and that exchanges keep every sum over the positions, hence the number of ones.
-- Assumes nothing.
use mathlib.Core.Path.{◌≡◌, refl, ◌∙◌, ap}
use mathlib.Core.Bool.{Bool, true, false}
use mathlib.Core.List.{List, [], ◌∷◌, ◌++◌}
use Prim.Native.Nat.{ℕ, zero, suc, ◌+◌, ◌-◌, ◌*◌, ◌%◌, ◌<◌, ◌≤◌}
use native.Mathlib.Omega.{arith}
use native.Mathlib.Nat.{le_of_suc-le-suc, not-suc-le-zero, mod-lt}
use borrow.Author.Tests.{ltb-true}
use lib.Dec.{ltb, eqb}
use lib.ListN.{length, get_or, set, replicate, length-append, length-set, length-replicate}
use Rattle.outcome.specs.Answer.{pick}
use Rattle.packing.proofs.Below.{Below, none, more}
use Rattle.sampling.specs.Sampling.{fields}
use Rattle.sampling.specs.Shuffle.{limit, partners, exchange, exchanges, shuffle}
use Rattle.sampling.specs.Weight.{weight, ones}

pub length_exchange : (ps : List ℕ) (i j : ℕ) → length (exchange ps i j) ≡ length ps
unfolding exchange
length_exchange ps i j = simp length-set

length_exchanges : (j : ℕ) (is ps : List ℕ) → length (exchanges j is ps) ≡ length ps
unfolding exchanges
length_exchanges zero is ps = refl
length_exchanges (suc j) [] ps = refl
length_exchanges (suc j) (i ∷ is) ps = length_exchanges j is (exchange ps (suc j) i) ∙ length_exchange ps (suc j) i

-- the second challenge has t positions
pub length_shuffle : (t w : ℕ) (block : List ℕ) → w ≤ t → length (shuffle t w block) ≡ t
unfolding shuffle
length_shuffle t w block h =
    length_exchanges (t - 1) (partners (t - 1) (fields 16 block)) (replicate w 1 ++ replicate (t - w) 0) ∙
    simp (length-append, length-replicate) (omega arith)

-- the partner of a position is at most that position: partner k belongs to position j - k
within_by : (b : Bool) (j r : ℕ) (ks rest : List ℕ) → ((k : ℕ) → k < length ks → get_or ks k 0 + k ≤ j) →
    ((k : ℕ) → k < length rest → get_or rest k 0 + k ≤ suc j) →
    (k : ℕ) → k < length (pick b ((r % (j + 2)) ∷ ks) rest) → get_or (pick b ((r % (j + 2)) ∷ ks) rest) k 0 + k ≤ suc j
within_by true j r ks rest down same zero h = omega (arith, mod-lt r {m = j + 2} (omega arith))
within_by true j r ks rest down same (suc k) h = omega (arith, down k (le_of_suc-le-suc h))
within_by false j r ks rest down same k h = same k h

pub partners_within : (rs : List ℕ) (j k : ℕ) → k < length (partners j rs) → get_or (partners j rs) k 0 + k ≤ j
unfolding partners
partners_within [] zero k h = absurd (not-suc-le-zero h)
partners_within [] (suc j) k h = absurd (not-suc-le-zero h)
partners_within (r ∷ rs) zero k h = absurd (not-suc-le-zero h)
partners_within (r ∷ rs) (suc j) k h =
    within_by (ltb r (limit (j + 2))) j r (partners j rs) (partners (suc j) rs) (partners_within rs j) (partners_within rs (suc j)) k h

-- Sums. A position that takes the content of position j has it also where the two are one.
get_d_taken : (ps : List ℕ) (i j : ℕ) → get_or (set ps i (get_or ps j 0)) j 0 ≡ get_or ps j 0
get_d_taken [] i j = refl
get_d_taken (p ∷ ps) zero zero = refl
get_d_taken (p ∷ ps) zero (suc j) = refl
get_d_taken (p ∷ ps) (suc i) zero = refl
get_d_taken (p ∷ ps) (suc i) (suc j) = get_d_taken ps i j

module _ (f : ℕ → ℕ) where
  weight_set : (ps : List ℕ) (i v : ℕ) → i < length ps → weight f (set ps i v) + f (get_or ps i 0) ≡ weight f ps + f v
  unfolding weight
  weight_set [] i v h = absurd (not-suc-le-zero h)
  weight_set (p ∷ ps) zero v h = omega arith
  weight_set (p ∷ ps) (suc i) v h =
      let e : weight f (set ps i v) + f (get_or ps i 0) ≡ weight f ps + f v = weight_set ps i v (le_of_suc-le-suc h) in
      omega arith

  pub weight_exchange : (ps : List ℕ) (i j : ℕ) → i < length ps → j < length ps → weight f (exchange ps i j) ≡ weight f ps
  unfolding exchange
  weight_exchange ps i j hi hj =
      let once : List ℕ = set ps i (get_or ps j 0) in
      let first : weight f once + f (get_or ps i 0) ≡ weight f ps + f (get_or ps j 0) = weight_set ps i (get_or ps j 0) hi in
      let second : weight f (set once j (get_or ps i 0)) + f (get_or once j 0) ≡ weight f once + f (get_or ps i 0) =
      weight_set once j (get_or ps i 0) (simp length-set hj)
      in
      let same : f (get_or once j 0) ≡ f (get_or ps j 0) = ap f (get_d_taken ps i j) in
      omega arith

  Kept : List ℕ → Type 0
  Kept rs = (j : ℕ) (ps : List ℕ) → j < length ps → weight f (exchanges j (partners j rs) ps) ≡ weight f ps

  kept_by : (b : Bool) (r : ℕ) (rs : List ℕ) → Kept rs → (j : ℕ) (ps : List ℕ) → suc j < length ps →
      weight f (exchanges (suc j) (pick b ((r % (j + 2)) ∷ partners j rs) (partners (suc j) rs)) ps) ≡ weight f ps
  unfolding exchanges Kept
  kept_by true r rs kept j ps h =
      kept j (exchange ps (suc j) (r % (j + 2))) (rw (length_exchange ps (suc j) (r % (j + 2))) (omega arith)) ∙
      weight_exchange ps (suc j) (r % (j + 2)) h (omega (arith, mod-lt r {m = j + 2} (omega arith)))
  kept_by false r rs kept j ps h = kept (suc j) ps h

  weight_exchanges : (rs : List ℕ) (j : ℕ) (ps : List ℕ) → j < length ps → weight f (exchanges j (partners j rs) ps) ≡ weight f ps
  unfolding exchanges partners Kept
  weight_exchanges [] zero ps h = refl
  weight_exchanges [] (suc j) ps h = refl
  weight_exchanges (r ∷ rs) zero ps h = refl
  weight_exchanges (r ∷ rs) (suc j) ps h = kept_by (ltb r (limit (j + 2))) r rs (weight_exchanges rs) j ps h

  weight_append : (xs ys : List ℕ) → weight f (xs ++ ys) ≡ weight f xs + weight f ys
  unfolding weight
  weight_append [] ys = omega arith
  weight_append (x ∷ xs) ys = omega (arith, weight_append xs ys)

  weight_replicate : (n x : ℕ) → weight f (replicate n x) ≡ n * f x
  unfolding weight
  weight_replicate zero x = omega arith
  weight_replicate (suc n) x = omega (arith, weight_replicate n x)

  weight_start : (w z : ℕ) → weight f (replicate w 1 ++ replicate z 0) ≡ w * f 1 + z * f 0
  weight_start w z = simp (weight_append, weight_replicate)

  -- the sum over the second challenge is that over w ones and t - w zeros
  pub weight_shuffle : (t w : ℕ) (block : List ℕ) → w ≤ t → weight f (shuffle t w block) ≡ w * f 1 + (t - w) * f 0
  unfolding shuffle exchanges
  weight_shuffle zero w block h = weight_start w (0 - w)
  weight_shuffle (suc t) w block h =
      weight_exchanges (fields 16 block) (suc t - 1) (replicate w 1 ++ replicate (suc t - w) 0)
      (simp (length-append, length-replicate) (omega arith)) ∙
      weight_start w (suc t - w)

-- the second challenge has exactly w ones
pub ones_shuffle : (t w : ℕ) (block : List ℕ) → w ≤ t → ones (shuffle t w block) ≡ w
ones_shuffle t w block h = omega (arith, weight_shuffle (λ (x : ℕ). pick (eqb x 1) 1 0) t w block h)

over : ℕ → ℕ → ℕ
over m x = pick (ltb x m) 0 1

below_by : (b : Bool) {m x : ℕ} {xs : List ℕ} → ltb x m ≡ b → pick b 0 1 + weight (over m) xs ≡ 0 →
    (weight (over m) xs ≡ 0 → Below m xs) → Below m (x ∷ xs)
below_by true {m} {x} e h rest = more (ltb-true x m e) (rest (omega arith))
below_by false e h rest = absurd (omega arith)

below_weight : (m : ℕ) (xs : List ℕ) → weight (over m) xs ≡ 0 → Below m xs
unfolding weight over
below_weight m [] e = none
below_weight m (x ∷ xs) e = below_by (ltb x m) refl e (below_weight m xs)

-- every position of the second challenge holds 0 or 1
pub shuffle_below : (t w : ℕ) (block : List ℕ) → w ≤ t → Below 2 (shuffle t w block)
unfolding over
shuffle_below t w block h = below_weight 2 (shuffle t w block) (omega (arith, weight_shuffle (over 2) t w block h))
