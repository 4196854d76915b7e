-- Parts that stand one behind the other, and what a loop has put together. Assumes nothing.
use mathlib.Core.Path.{◌≡◌, refl, ap}
use mathlib.Core.List.{List, [], ◌++◌}
use Prim.Native.Nat.{ℕ, ◌+◌, ◌*◌, ◌<◌, ◌≤◌}
use native.Mathlib.Nat.{mul-le-mul_right}
use native.Mathlib.Numerals.{add-one}
use native.Mathlib.Omega.{arith}
use lib.ListN.{length, take, drop}
use lib.Seq.{take_at}
use Rattle.std.proofs.lemmas.Grind.{common_steps}
use Rattle.std.proofs.lemmas.Slice.{overwrites}
use Rattle.outcome.specs.Lists.{flat, total}
use Rattle.scheme.proofs.Challenges.{total_within}

-- n places of an array were lent and written: what is read from them
pub held : {n : ℕ} {new : List ℕ} (old : List ℕ) → length new ≡ n → take n (new ++ drop n old) ≡ new
held {n} {new} old long = take_at new (drop n old) n long

-- one of m parts ends within them, where `size` is their size k as it was computed
pub part_within : (j m size : ℕ) {n k : ℕ} → j < m → n ≡ m * k → size ≡ k → size * j + size ≤ n
part_within j m size l all e = rw (all, ← e) (omega (arith, mul-le-mul_right size l))

-- what a loop has put together begins with nothing, and grows by what a turn adds
pub flat_none : {A : Type 0} (f : ℕ → List A) → flat f 0 ≡ []
unfolding flat
flat_none f = refl

pub total_none : (f : ℕ → ℕ) → total f 0 ≡ 0
unfolding total
total_none f = refl

pub flat_more : {A : Type 0} (f : ℕ → List A) (j : ℕ) → flat f (j + 1) ≡ flat f j ++ f j
unfolding flat
flat_more f j = ap (λ (n : ℕ). flat f n) (add-one j)

pub total_more : (f : ℕ → ℕ) (j : ℕ) → total f (j + 1) ≡ total f j + f j
unfolding total
total_more f j = ap (λ (n : ℕ). total f n) (add-one j)

-- what the check adds to its own search where a buffer is written part behind part, and where a loop does so
pub ruleset parts = (common_steps, overwrites)

pub ruleset turns = (parts, flat_none, total_none, flat_more, total_more, total_within)
