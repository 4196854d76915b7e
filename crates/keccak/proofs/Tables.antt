-- The tables of the code are what FIPS 202's rules give, and a known answer of the permutation, each by one computed test.
-- Assumes nothing.
use mathlib.Core.Path.{◌≡◌, refl, ◌∙◌, ap}
use mathlib.Core.List.{List, [], ◌∷◌, map}
use Prim.Native.Nat.{ℕ, ◌<◌}
use native.Mathlib.Omega.{arith}
use lib.ListN.{get_or, replicate}
use Rattle.std.specs.List.{range_with_len}
use Rattle.std.proofs.lemmas.List.FromFn.{get_or-map-range_with_len}
use Rattle.keccak.specs.Keccak.{offsets, walk, round_constant, constant_bits, rc, shifted, keccak_f, rounds, round, iota, chi, pi, rho, theta, added, beside, parities}

-- ---- ρ's offsets

abbrev pub rotations : List ℕ
rotations =
    0 ∷ 1 ∷ 62 ∷ 28 ∷ 27
    ∷ 36 ∷ 44 ∷ 6 ∷ 55 ∷ 20
    ∷ 3 ∷ 10 ∷ 43 ∷ 25 ∷ 39
    ∷ 41 ∷ 45 ∷ 15 ∷ 21 ∷ 8
    ∷ 18 ∷ 2 ∷ 61 ∷ 56 ∷ 14 ∷ []

pub rotations_right : rotations ≡ offsets
unfolding offsets walk
rotations_right = refl

-- ---- ι's constants

abbrev pub constants : List ℕ
constants =
    0x1 ∷ 0x8082 ∷ 0x800000000000808a ∷ 0x8000000080008000
    ∷ 0x808b ∷ 0x80000001 ∷ 0x8000000080008081 ∷ 0x8000000000008009
    ∷ 0x8a ∷ 0x88 ∷ 0x80008009 ∷ 0x8000000a
    ∷ 0x8000808b ∷ 0x800000000000008b ∷ 0x8000000000008089 ∷ 0x8000000000008003
    ∷ 0x8000000000008002 ∷ 0x8000000000000080 ∷ 0x800a ∷ 0x800000008000000a
    ∷ 0x8000000080008081 ∷ 0x8000000000008080 ∷ 0x80000001 ∷ 0x8000000080008008 ∷ []

constants_right : constants ≡ map round_constant (range_with_len 0 24)
unfolding round_constant constant_bits rc shifted
constants_right = refl

pub constant_right : (k : ℕ) → k < 24 → get_or constants k 0 ≡ round_constant k
constant_right k h =
    ap (λ (l : List ℕ). get_or l k 0) constants_right ∙ get_or-map-range_with_len round_constant 0 24 k k 0 h (omega arith)

-- ---- the permutation of the state in which every bit is 0

pub known_answer : keccak_f (replicate 25 0) ≡
    0xf1258f7940e1dde7 ∷ 0x84d5ccf933c0478a ∷ 0xd598261ea65aa9ee ∷ 0xbd1547306f80494d ∷ 0x8b284e056253d057
    ∷ 0xff97a42d7f8e6fd4 ∷ 0x90fee5a0a44647c4 ∷ 0x8c5bda0cd6192e76 ∷ 0xad30a6f71b19059c ∷ 0x30935ab7d08ffc64
    ∷ 0xeb5aa93f2317d635 ∷ 0xa9a6e6260d712103 ∷ 0x81a57c16dbcf555f ∷ 0x43b831cd0347c826 ∷ 0x01f22f1a11a5569f
    ∷ 0x05e5635a21d9ae61 ∷ 0x64befef28cc970f2 ∷ 0x613670957bc46611 ∷ 0xb87c5a554fd00ecb ∷ 0x8c3ee88a1ccf32c8
    ∷ 0x940c7922ae3a2614 ∷ 0x1841f924a2c509e4 ∷ 0x16f53526e70465c2 ∷ 0x75f644e97f30a13b ∷ 0xeaf1ff7b5ceca249 ∷ []
unfolding keccak_f rounds round iota chi pi rho theta added beside parities offsets walk round_constant constant_bits rc shifted
known_answer = refl
