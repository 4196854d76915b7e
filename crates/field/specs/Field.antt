-- "Numbers of the scheme": values are modulo 127, exponents modulo 7, and exponent a stands for the value 2 ^ a.
-- Since 2 ^ 7 is 1 modulo 127, sums of exponents modulo 7 are products of their powers.
-- Assumes nothing.
use Rattle.std.specs.Prelude.{ℕ, ◌+◌, ◌-◌, ◌*◌, ◌%◌, ◌^◌}

-- the value that an exponent stands for
abbrev pub power : ℕ → ℕ
power a = 2 ^ a

-- a value times the power of an exponent
abbrev pub times_power : ℕ → ℕ → ℕ
times_power a x = power a * x % 127

-- y at a place: u' + β · 2^e'
abbrev pub respond : ℕ → ℕ → ℕ → ℕ
respond β u e = (u + β * power e) % 127

-- x − β · s, for s below 127
abbrev pub less : ℕ → ℕ → ℕ → ℕ
less β x s = (x + β * (127 - s)) % 127

-- exponents: a minus b, for b below 7, and a plus b
abbrev pub minus : ℕ → ℕ → ℕ
minus a b = (a + (7 - b)) % 7

abbrev pub plus : ℕ → ℕ → ℕ
plus a b = (a + b) % 7
