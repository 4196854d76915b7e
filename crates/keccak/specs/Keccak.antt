-- Keccak-f[1600], the permutation of FIPS 202 (section 3) at lanes of 64 bits. Assumes nothing.
use Rattle.std.specs.Prelude.{List, [], ◌∷◌, ◌++◌, ℕ, zero, suc, ◌+◌, ◌-◌, ◌*◌, ◌/◌, ◌%◌, ◌^◌, get_or, set, replicate}
use Rattle.std.specs.Int.Bits.{bit_and, bit_or, bit_xor}

-- A state is a list of 25 lanes, each a number below 2^64 whose bit z is the standard's bit (x, y, z). Lane (x, y)
-- stands at x + 5y, both coordinates modulo 5 (section 3.1.2).
abbrev pub lane : List ℕ → ℕ → ℕ → ℕ
lane s x y = get_or s (x % 5 + 5 * (y % 5)) 0

abbrev pub row : (ℕ → ℕ) → List ℕ
row f = f 0 ∷ f 1 ∷ f 2 ∷ f 3 ∷ f 4 ∷ []

abbrev pub state : (ℕ → ℕ → ℕ) → List ℕ
state f = row (λ x. f x 0) ++ row (λ x. f x 1) ++ row (λ x. f x 2) ++ row (λ x. f x 3) ++ row (λ x. f x 4)

-- bit z of a lane moves to bit z + r modulo 64
abbrev pub rotl : ℕ → ℕ → ℕ
rotl x r = bit_or (x * 2 ^ r % 2 ^ 64) (x / 2 ^ (64 - r))

-- every bit of a lane changes
abbrev pub complement : ℕ → ℕ
complement x = 2 ^ 64 - 1 - x

-- θ (section 3.2.1): C, the parity of each column; D, the parities of the two columns beside it, one of them turned by a
-- bit; and the lanes with D of their columns
unfoldable pub parities : List ℕ → List ℕ
parities s = row (λ x. bit_xor (bit_xor (bit_xor (bit_xor (lane s x 0) (lane s x 1)) (lane s x 2)) (lane s x 3)) (lane s x 4))

unfoldable pub beside : List ℕ → List ℕ
beside c = row (λ x. bit_xor (get_or c ((x + 4) % 5) 0) (rotl (get_or c ((x + 1) % 5) 0) 1))

unfoldable pub added : List ℕ → List ℕ → List ℕ
added s d = state (λ x y. bit_xor (lane s x y) (get_or d x 0))

unfoldable pub theta : List ℕ → List ℕ
theta s = added s (beside (parities s))

-- ρ (section 3.2.2): n steps of the walk (x, y) → (y, 2x + 3y), where the lane met at step t gets the offset (t + 1)(t + 2)/2
unfoldable pub walk : ℕ → ℕ → ℕ → ℕ → List ℕ → List ℕ
walk zero t x y os = os
walk (suc n) t x y os = walk n (t + 1) y ((2 * x + 3 * y) % 5) (set os (x + 5 * y) ((t + 1) * (t + 2) / 2 % 64))

-- the walk starts at (1, 0) and meets every lane but (0, 0), which stays as it is
unfoldable pub offsets : List ℕ
offsets = walk 24 0 1 0 (replicate 25 0)

unfoldable pub rho : List ℕ → List ℕ
rho s = state (λ x y. rotl (lane s x y) (lane offsets x y))

-- π (section 3.2.3)
unfoldable pub pi : List ℕ → List ℕ
pi s = state (λ x y. lane s (x + 3 * y) x)

-- χ (section 3.2.4)
unfoldable pub chi : List ℕ → List ℕ
chi s = state (λ x y. bit_xor (lane s x y) (bit_and (complement (lane s (x + 1) y)) (lane s (x + 2) y)))

-- ι (section 3.2.5). Algorithm 5's register as a number, bit i for R[i]: a step puts a 0 before R, adds R[8] to the bits
-- 0, 4, 5, 6, and keeps eight bits
unfoldable pub shifted : ℕ → ℕ
shifted zero = 1
shifted (suc t) = bit_xor (2 * shifted t) (2 * shifted t / 2 ^ 8 * (1 + 2 ^ 4 + 2 ^ 5 + 2 ^ 6)) % 2 ^ 8

unfoldable pub rc : ℕ → ℕ
rc t = shifted (t % 255) % 2

-- algorithm 6: bit 2^j - 1 of round k's constant is rc (j + 7k), for j below n
unfoldable pub constant_bits : ℕ → ℕ → ℕ
constant_bits k zero = 0
constant_bits k (suc j) = constant_bits k j + rc (j + 7 * k) * 2 ^ (2 ^ j - 1)

unfoldable pub round_constant : ℕ → ℕ
round_constant k = constant_bits k 7

unfoldable pub iota : ℕ → List ℕ → List ℕ
iota k s = set s 0 (bit_xor (lane s 0 0) (round_constant k))

-- Rnd (section 3.3) of round k, and the rounds 0 to n - 1
unfoldable pub round : ℕ → List ℕ → List ℕ
round k s = iota k (chi (pi (rho (theta s))))

unfoldable pub rounds : ℕ → List ℕ → List ℕ
rounds zero s = s
rounds (suc k) s = round k (rounds k s)

-- Keccak-f[1600] (sections 3.3 and 3.4)
unfoldable pub keccak_f : List ℕ → List ℕ
keccak_f s = rounds 24 s
