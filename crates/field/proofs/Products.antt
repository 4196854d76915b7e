-- The rule of the table of products: one test that is computed over the whole table, and the law that carries it to
-- each entry. Assumes nothing.
use mathlib.Core.Path.{◌≡◌, ◌∙◌, ap}
use mathlib.Core.Bool.{Bool, true, ◌&&◌}
use mathlib.Core.List.{List, [], ◌∷◌}
use Prim.Native.Nat.{ℕ, zero, suc, ◌+◌, ◌*◌, ◌/◌, ◌%◌, ◌<◌}
use native.Mathlib.Omega.{arith}
use lib.Dec.{T, eqb, eqb→eq}
use lib.ListN.{length, get_or}
use Rattle.outcome.proofs.Computed.{at_below, both_left, both_right}
use Rattle.field.specs.Field.{power, times_power}
use Rattle.field.specs.InnerProducts.{Products, Multiples}

-- the product that belongs at a place of the table
abbrev placed : ℕ → ℕ
placed k = times_power (k / 127) (k % 127)

-- the test over all entries
abbrev pub every_placed : ℕ → List ℕ → Bool
every_placed k [] = true
every_placed k (y ∷ t) = eqb y (placed k) && every_placed (suc k) t

tested : (t : List ℕ) (k : ℕ) → T (every_placed k t) → (i : ℕ) → i < length t → get_or t i 0 ≡ placed (k + i)
tested [] k pass i h = absurd (omega arith)
tested (y ∷ t) k pass zero h =
    eqb→eq y (placed k) (both_left (eqb y (placed k)) (every_placed (suc k) t) pass) ∙ ap placed (omega arith)
tested (y ∷ t) k pass (suc i) h =
    tested t (suc k) (both_right (eqb y (placed k)) (every_placed (suc k) t) pass) i (omega arith) ∙ ap placed (omega arith)

-- so each product stands at its place, in a table of all of them that passes
pub products : (t : List ℕ) → length t ≡ 889 → T (every_placed 0 t) → Products t
unfolding Products
products t size pass a x ha hx =
    let power_of : (a * 127 + x) / 127 ≡ a = omega arith in
    let value_of_lem : (a * 127 + x) % 127 ≡ x = omega arith in
    tested t 0 pass (a * 127 + x) (omega arith) ∙ ap placed (omega arith)
    ∙ ap (λ (b : ℕ). times_power b ((a * 127 + x) % 127)) power_of
    ∙ ap (times_power a) value_of_lem

-- each multiple, by its exponent
pub multiple_at : (x : ℕ) (t : List ℕ) → Multiples x t → (a : ℕ) → a < 7 → get_or t a 0 ≡ times_power a x
unfolding Multiples
multiple_at x t rule = rule

-- a power of 2 is a value as it stands
raised : ℕ → Bool
raised a = eqb (times_power a 1) (power a)

pub power_value : (a : ℕ) → a < 7 → times_power a 1 ≡ power a
unfolding raised
power_value a ha = eqb→eq _ _ (at_below raised 7 tt a ha)
