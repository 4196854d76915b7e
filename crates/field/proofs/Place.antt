-- One place of the vectors: how response, transformation, mask and key hang together modulo 127.
-- Assumes nothing.
use mathlib.Core.Path.{◌≡◌, refl, ◌∙◌, sym, ap}
use Prim.Native.Nat.{ℕ, ◌+◌, ◌-◌, ◌*◌, ◌%◌, ◌<◌, ◌≤◌}
use native.Mathlib.Nat.{mod-mod}
use native.Mathlib.Omega.{arith}
use native.Mathlib.Decide.{dec_lt}
use lib.Arith.{lt_of_le-ne}
use lib.Pow.{pow-add}
use Rattle.field.specs.Field.{power, times_power, respond, less, minus, plus}
use Rattle.field.proofs.Congruence.{plus_congruent, times_congruent, power_reduced}
use Rattle.field.proofs.Inverse.{cancel}

-- powers multiply as exponents add
pub power_plus : (σ e : ℕ) → power (plus σ e) % 127 ≡ power σ * power e % 127
power_plus σ e = power_reduced (σ + e) ∙ ap (λ (x : ℕ). x % 127) (pow-add 2 σ e)

-- the key's exponent is the transformation plus the mask exponent
pub plus_minus : (a e : ℕ) → a < 7 → e < 7 → plus (minus a e) e ≡ a
plus_minus a e h l = omega arith

distributed : (a u β b : ℕ) → a * (u + β * b) ≡ a * u + β * (a * b)
distributed a u β b = omega arith

-- 2^σ (u + β 2^e) is 2^σ u + β 2^(σ + e)
pub scaled_response : (β σ u e : ℕ) → times_power σ (respond β u e) % 127 ≡ (times_power σ u + β * power (plus σ e)) % 127
scaled_response β σ u e =
    mod-mod (power σ * respond β u e) 127
    ∙ times_congruent (power σ) (respond β u e) (u + β * power e) (mod-mod (u + β * power e) 127)
    ∙ ap (λ (x : ℕ). x % 127) (distributed (power σ) u β (power e))
    ∙ plus_congruent (power σ * u) (times_power σ u) (β * (power σ * power e)) (β * power (plus σ e))
    (sym (mod-mod (power σ * u) 127))
    (times_congruent β (power σ * power e) (power (plus σ e)) (sym (power_plus σ e)))

-- − β s takes the key's part away
pub less_whole : (β x w s : ℕ) → s < 127 → w < 127 → x % 127 ≡ (w + β * s) % 127 → less β x s ≡ w
less_whole β x w s h l e =
    let whole : β * (s + (127 - s)) ≡ β * 127 = ap (λ (a : ℕ). β * a) (omega arith) in
    omega arith

-- where two different factors from 0 to 126 agree on a number, it is 0 modulo 127
greater : (β d t : ℕ) → 1 ≤ d → d ≤ 126 → β * t % 127 ≡ (β + d) * t % 127 → t % 127 ≡ 0
greater β d t l h e = cancel d t l h (omega arith)

two_factors : (β β' t : ℕ) → β ≤ 126 → β' ≤ 126 → (β ≡ β' → ⊥) → β * t % 127 ≡ β' * t % 127 → t % 127 ≡ 0
two_factors β β' t l l' differ e = go (dec_lt β β')
  where
    go : Dec (β < β') → t % 127 ≡ 0
    go (yes h) = greater β (β' - β) t (omega arith) (omega arith) (e ∙ ap (λ (x : ℕ). x * t % 127) (omega arith))
    go (no h) =
        let below : β' < β = lt_of_le-ne (omega arith) (λ same. differ (sym same)) in
        greater β' (β - β') t (omega arith) (omega arith) (sym e ∙ ap (λ (x : ℕ). x * t % 127) (omega arith))

-- what is left of w + β g after − β s, with g − s as g + (127 − s)
left_over : (β x w g s : ℕ) → x % 127 ≡ (w + β * g) % 127 → less β x s ≡ (w + β * (g + (127 - s))) % 127
left_over β x w g s e =
    plus_congruent x (w + β * g) (β * (127 - s)) (β * (127 - s)) e refl
    ∙ ap (λ (a : ℕ). a % 127) (grouped w β g (127 - s))
  where
    grouped : (w β g r : ℕ) → w + β * g + β * r ≡ w + β * (g + r)
    grouped w β g r = omega arith

-- where two different first challenges leave the same, g, the opened exponent's place, is s, the key's
pub two_challenges : (β β' x x' w g s : ℕ) → β ≤ 126 → β' ≤ 126 → (β ≡ β' → ⊥) → g < 127 → s < 127
    → x % 127 ≡ (w + β * g) % 127 → x' % 127 ≡ (w + β' * g) % 127 → less β x s ≡ less β' x' s → g ≡ s
two_challenges β β' x x' w g s l l' differ hg hs e e' left =
    let t : ℕ = g + (127 - s) in
    let sums : (w + β * t) % 127 ≡ (w + β' * t) % 127 =
    sym (left_over β x w g s e) ∙ left ∙ left_over β' x' w g s e' in
    let nought : t % 127 ≡ 0 = two_factors β β' t l l' differ (cancel_plus w (β * t) (β' * t) sums) in
    back nought
  where
    cancel_plus : (w a b : ℕ) → (w + a) % 127 ≡ (w + b) % 127 → a % 127 ≡ b % 127
    cancel_plus w a b e = omega arith

    back : (g + (127 - s)) % 127 ≡ 0 → g ≡ s
    back z = omega arith
