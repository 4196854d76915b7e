-- SHAKE, FIPS 202, over bytes: the sponge construction (section 4) on Keccak-f[1600], block by block.
-- A rate is a number of bytes, above 0 and below 200; this is the standard's function for each of them, 168 for
-- SHAKE128 and 136 for SHAKE256. Assumes nothing.
use Rattle.std.specs.Prelude.{◌≡◌, List, [], ◌∷◌, ◌++◌, ℕ, zero, suc, ◌+◌, ◌-◌, ◌*◌, ◌/◌, ◌%◌, length, take, drop, replicate}
use Rattle.std.specs.Borrow.{Bor}
use Rattle.std.specs.Int.Bits.{bit_xor}
use Rattle.keccak.specs.Keccak.{keccak_f}

-- bytes as one number, low byte first
unfoldable pub little : List ℕ → ℕ
little [] = 0
little (b ∷ bs) = b + 256 * little bs

-- the n low bytes of a number, low byte first
unfoldable pub low_bytes : ℕ → ℕ → List ℕ
low_bytes zero x = []
low_bytes (suc n) x = x % 256 ∷ low_bytes n (x / 256)

-- A string of 200 bytes is a state of 25 lanes of eight bytes (sections 3.1.2, 3.1.3 and B.1). A shorter string stands
-- for itself followed by zeros.
unfoldable pub lanes_of : ℕ → List ℕ → List ℕ
lanes_of zero p = []
lanes_of (suc n) p = little (take 8 p) ∷ lanes_of n (drop 8 p)

unfoldable pub bytes_of : List ℕ → List ℕ
bytes_of [] = []
bytes_of (x ∷ xs) = low_bytes 8 x ++ bytes_of xs

unfoldable pub xor_lanes : List ℕ → List ℕ → List ℕ
xor_lanes [] ys = []
xor_lanes (x ∷ xs) [] = x ∷ xs
xor_lanes (x ∷ xs) (y ∷ ys) = bit_xor x y ∷ xor_lanes xs ys

-- Steps 2 to 6 of algorithm 8 (section 4): n blocks of the padded string p, one after the other, go into the state s
unfoldable pub absorb_blocks : ℕ → ℕ → List ℕ → List ℕ → List ℕ
absorb_blocks rate zero s p = s
absorb_blocks rate (suc n) s p = absorb_blocks rate n (keccak_f (xor_lanes s (lanes_of 25 (take rate p)))) (drop rate p)

-- Steps 7 to 10: n blocks come out of the state s
unfoldable pub squeeze_blocks : ℕ → ℕ → List ℕ → List ℕ
squeeze_blocks rate zero s = []
squeeze_blocks rate (suc n) s = take rate (bytes_of s) ++ squeeze_blocks rate n (keccak_f s)

-- The suffix 1111 (section 6.2) and pad10*1 (section 5.1) where q bytes are left in the block, q at least 1 (section B.2)
unfoldable pub padding : ℕ → List ℕ
padding zero = []
padding (suc zero) = 0x9F ∷ []
padding (suc (suc q)) = 0x1F ∷ replicate q 0 ++ 0x80 ∷ []

unfoldable pub padded : ℕ → List ℕ → List ℕ
padded rate m = m ++ padding (rate - length m % rate)

-- the state that squeezing starts from
unfoldable pub absorbed : ℕ → List ℕ → List ℕ
absorbed rate m = absorb_blocks rate (length (padded rate m) / rate) (replicate 25 0) (padded rate m)

-- The first d bytes out of the state s. No block is empty, so that d blocks are enough.
unfoldable pub squeezed : ℕ → ℕ → List ℕ → List ℕ
squeezed rate d s = take d (squeeze_blocks rate d s)

-- d bytes out of the string m (algorithm 8, with the padding of SHAKE)
unfoldable pub shake : ℕ → List ℕ → ℕ → List ℕ
shake rate m d = squeezed rate d (absorbed rate m)

-- parts behind a string, one after the other
abbrev pub behind : List ℕ → List (Bor (List ℕ)) → List ℕ
behind m [] = m
behind m (part ∷ parts) = behind (m ++ part.now) parts

-- section 6.2: a capacity of 256 bits leaves 168 bytes, one of 512 bits leaves 136
unfoldable pub shake128 : List ℕ → ℕ → List ℕ
shake128 m d = shake 168 m d

unfoldable pub shake256 : List ℕ → ℕ → List ℕ
shake256 m d = shake 136 m d

-- what the entries promise: SHAKE128, or SHAKE256, of the input fills the lent buffer
abbrev pub Hashes128 : (input old new : List ℕ) → Type 0
Hashes128 input old new = new ≡ shake128 input (length old)

abbrev pub Hashes256 : (input old new : List ℕ) → Type 0
Hashes256 input old new = new ≡ shake256 input (length old)
