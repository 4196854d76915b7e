-- The sponge byte by byte: what a `Sponge` holds. The laws tie it to the blocks of `Shake`. Assumes nothing.
use Rattle.std.specs.Prelude.{◌≡◌, List, [], ◌∷◌, ◌++◌, ℕ, ◌+◌, ◌*◌, ◌/◌, ◌%◌, ◌^◌, ◌<◌, eqb, get_or, set, replicate}
use Rattle.std.specs.Int.Bits.{bit_xor}
use Rattle.outcome.specs.Answer.{pick}
use Rattle.keccak.specs.Keccak.{keccak_f}
use Rattle.shake.specs.Shake.{shake}

-- the state, the place of the next byte in the block, and the size of a block in bytes
pub record Sponge : Type 0 where
  pub lanes : List ℕ
  pub at : ℕ
  pub rate : ℕ

abbrev pub sponge : List ℕ → ℕ → ℕ → Sponge
sponge s at rate = record { lanes = s; at = at; rate = rate }

-- a byte goes into the state at place i
unfoldable pub xor_byte : List ℕ → ℕ → ℕ → List ℕ
xor_byte s i b = set s (i / 8) (bit_xor (get_or s (i / 8) 0) (b * 2 ^ (8 * (i % 8))))

-- bytes go in one after the other from place i on, within a block
unfoldable pub xor_bytes : List ℕ → ℕ → List ℕ → List ℕ
xor_bytes s i [] = s
xor_bytes s i (b ∷ bs) = xor_bytes (xor_byte s i b) (i + 1) bs

-- a full block is permuted, and the next one starts
unfoldable pub turned : List ℕ → ℕ → ℕ → Sponge
turned s at rate = pick (eqb at rate) (sponge (keccak_f s) 0 rate) (sponge s at rate)

unfoldable pub absorb_byte : Sponge → ℕ → Sponge
absorb_byte s b = turned (xor_byte s.lanes s.at b) (s.at + 1) s.rate

unfoldable pub absorb_bytes : Sponge → List ℕ → Sponge
absorb_bytes s [] = s
absorb_bytes s (b ∷ bs) = absorb_bytes (absorb_byte s b) bs

-- a sponge that no byte has gone into
unfoldable pub fresh : ℕ → Sponge
fresh rate = sponge (replicate 25 0) 0 rate

-- the rates in use: whole lanes, 72, 136 and 168 among them
pub record Rate (rate : ℕ) : Type 0 where
  pub some : 0 < rate
  pub fits : rate < 200
  pub whole : rate % 8 ≡ 0

-- a sponge that can take bytes in: its block has room
pub record Ready (s : Sponge) : Type 0 where
  pub rated : Rate s.rate
  pub room : s.at < s.rate

abbrev pub Bytes : List ℕ → Type 0
Bytes m = (i : ℕ) → get_or m i 0 < 256

-- the sponge holds the string m at this rate
pub record Holds (s : Sponge) (rate : ℕ) (m : List ℕ) : Type 0 where
  pub ready : Ready s
  pub bytes : Bytes m
  pub state : s ≡ absorb_bytes (fresh rate) m

-- from s to s' these bytes went in
pub record Absorbs (s : Sponge) (part : List ℕ) (s' : Sponge) : Type 0 where
  pub ready : Ready s'
  pub holds : {rate : ℕ} {m : List ℕ} → Holds s rate m → Holds s' rate (m ++ part)

-- out is what comes out of the string that the sponge holds
pub record Squeezes (s : Sponge) (d : ℕ) (out : List ℕ) : Type 0 where
  pub holds : {rate : ℕ} {m : List ℕ} → Holds s rate m → out ≡ shake rate m d
