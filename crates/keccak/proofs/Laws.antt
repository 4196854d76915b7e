-- Laws of the permutation. Assumes nothing.
use mathlib.Core.Path.{◌≡◌, refl, ◌∙◌, ap}
use mathlib.Core.List.{List, [], ◌∷◌, ◌++◌, append-nil}
use mathlib.Core.Bool.{true, false}
use Prim.Native.Nat.{ℕ, zero, suc, ◌+◌, ◌≤◌}
use native.Mathlib.Omega.{arith}
use lib.ListN.{length, drop}
use lib.Seq.{sets, sets-eq, drop-length}
use Rattle.keccak.specs.Keccak.{complement, lane, state, keccak_f, rounds, round, iota, round_constant, chi, pi, rho, theta, added, beside, parities}
use Rattle.keccak.specs.InnerPlanes.{reveal, Parity, Beside, chi_row, turned_row, plane_of, xored}

pub length_keccak_f : (s : List ℕ) → length (keccak_f s) ≡ 25
unfolding keccak_f rounds round iota chi
length_keccak_f s = refl

-- ---- a round as the code goes about it: s is the lanes as it holds them

-- c is the parity of column x
abbrev pub Column : List ℕ → ℕ → ℕ → Type 0
Column s x c = Parity (lane s x 0) (lane s x 1) (lane s x 2) (lane s x 3) (lane s x 4) c

-- θ's sums
pub sums : (s : List ℕ) {c0 c1 c2 c3 c4 d0 d1 d2 d3 d4 : ℕ}
    → Column s 0 c0 → Column s 1 c1 → Column s 2 c2 → Column s 3 c3 → Column s 4 c4
    → Beside c4 c1 d0 → Beside c0 c2 d1 → Beside c1 c3 d2 → Beside c2 c4 d3 → Beside c3 c0 d4
    → (complement d0 ∷ d1 ∷ d2 ∷ complement d3 ∷ d4 ∷ []) ≡ beside (parities (reveal s))
unfolding reveal beside parities
sums s p0 p1 p2 p3 p4 b0 b1 b2 b3 b4 =
    let e0 = p0.by_flags false false false false true in
    let e1 = p1.by_flags true false false false false in
    let e2 = p2.by_flags true false true true false in
    let e3 = p3.by_flags false true false false false in
    let e4 = p4.by_flags false false false false false in
    (λ i. b0.by_flags false true i ∷ b1.by_flags true true i ∷ b2.by_flags true true i ∷ b3.by_flags true false i
    ∷ b4.by_flags true true i ∷ [])
    ∙ (λ i. beside (e0 i ∷ e1 i ∷ e2 i ∷ e3 i ∷ e4 i ∷ []))

-- and the planes
pub planes : (s : List ℕ) {d p0 p1 p2 p3 p4 : List ℕ} → d ≡ beside (parities (reveal s))
    → p0 ≡ plane_of (reveal s) d 0 → p1 ≡ plane_of (reveal s) d 1 → p2 ≡ plane_of (reveal s) d 2 → p3 ≡ plane_of (reveal s) d 3
    → p4 ≡ plane_of (reveal s) d 4 → p0 ++ p1 ++ p2 ++ p3 ++ p4 ≡ chi (pi (rho (theta (reveal s))))
unfolding chi pi rho theta added chi_row turned_row plane_of
planes s e e0 e1 e2 e3 e4 =
    let r = reveal s in
    (λ i. e0 i ++ e1 i ++ e2 i ++ e3 i ++ e4 i)
    ∙ (λ i. plane_of r (e i) 0 ++ plane_of r (e i) 1 ++ plane_of r (e i) 2 ++ plane_of r (e i) 3 ++ plane_of r (e i) 4)

-- one round more
pub step : (z : List ℕ) (k m : ℕ) {s t : List ℕ} {c : ℕ} → suc k ≡ m → s ≡ rounds k z → c ≡ round_constant k
    → t ≡ xored c (chi (pi (rho (theta s)))) → t ≡ rounds m z
unfolding rounds round iota xored
step z k m next before right after =
    after ∙ (λ i. xored (right i) (chi (pi (rho (theta (before i)))))) ∙ ap (λ (n : ℕ). rounds n z) next

-- the permutation reads nothing but the lanes
rounds_lanes : (s : List ℕ) (n : ℕ) → rounds (suc n) (state (lane s)) ≡ rounds (suc n) s
unfolding rounds round theta added parities
rounds_lanes s zero = refl
rounds_lanes s (suc n) = ap (round (suc n)) (rounds_lanes s n)

pub keccak_f_lanes : (s : List ℕ) → rounds 24 (state (lane s)) ≡ keccak_f s
unfolding keccak_f
keccak_f_lanes s = rounds_lanes s 23

-- stores at every index of a list leave what was stored
pub stored : (vs l : List ℕ) → length l ≡ length vs → sets l 0 vs ≡ vs
stored vs l e =
    let fits : 0 + length vs ≤ length l = omega arith in
    let whole : 0 + length vs ≡ length l = omega arith in
    sets-eq vs l 0 fits ∙ ap (λ (n : ℕ). vs ++ drop n l) whole ∙ ap (λ (r : List ℕ). vs ++ r) (drop-length l) ∙ append-nil vs
