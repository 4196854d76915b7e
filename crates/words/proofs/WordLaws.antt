-- Numbers and their four bytes. Assumes nothing.
use mathlib.Core.Path.{◌≡◌}
use mathlib.Core.List.{List}
use Prim.Native.Nat.{ℕ, ◌+◌, ◌/◌, ◌%◌, ◌<◌}
use native.Mathlib.Omega.{arith}
use lib.ListN.{get_or}
use Rattle.std.proofs.lemmas.Nat.{from_le_bytes-to_le_bytes_4}
use Rattle.words.specs.Words.{number, word_at, Small}

-- the bytes of a number spell it
pub word_again : (n : ℕ) → Small n → number (n % 256) (n / 256 % 256) (n / 65536 % 256) (n / 16777216 % 256) ≡ n
word_again n h = omega (arith, from_le_bytes-to_le_bytes_4 n h)

-- every number of an image of bytes is below 2^32
pub word_small : (image : List ℕ) → ((i : ℕ) → get_or image i 0 < 256) → (at : ℕ) → Small (word_at image at)
unfolding word_at
word_small image bytes at = omega (arith, bytes at, bytes (at + 1), bytes (at + 2), bytes (at + 3))
