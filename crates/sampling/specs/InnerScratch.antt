-- What the functions over lent scratch leave there.
-- Assumes nothing.
use Rattle.std.specs.Prelude.{◌≡◌, List, [], ◌∷◌, ℕ, ◌+◌, ◌-◌, ◌%◌, ◌≤◌, ltb, leb, length, take}
use Rattle.outcome.specs.Answer.{◌unless◌, short_draw, first_refusal, pick}
use Rattle.sampling.specs.declared.Draw.{Draw}
use Rattle.sampling.specs.Sampling.{yield, sample, enough}
use Rattle.sampling.specs.Shuffle.{limit, exchange, shuffle, shuffles}

-- Scratch has room for a draw and the rest of its last group.
abbrev pub Room : Draw → List ℕ → Type 0
Room d scratch = d.count + 8 ≤ length scratch

-- A draw of n into scratch got some: n or more exactly where the block yields enough, and then the first n are the
-- draw.
pub record Sampled (w m d n : ℕ) (block : List ℕ) (got : ℕ) (scratch : List ℕ) : Type 0 where
  pub suffices : leb n got ≡ enough n (yield w m d block)
  pub content : n ≤ got → take n scratch ≡ sample w m d n block

-- A shuffle in place is short exactly where the block does not suffice; else the positions are the second challenge.
pub record Shuffled (t w : ℕ) (block : List ℕ) (r : ℕ) (positions : List ℕ) : Type 0 where
  pub answer : r ≡ first_refusal (short_draw unless shuffles t block ∷ [])
  pub content : r ≡ 0 → positions ≡ shuffle t w block

-- what field r makes of position j and of the positions: dropped, nothing; else an exchange and the next lower position
abbrev pub next_position : ℕ → ℕ → ℕ
next_position j r = pick (ltb r (limit (j + 1))) (j - 1) j

abbrev pub next_positions : List ℕ → ℕ → ℕ → List ℕ
next_positions ps j r = pick (ltb r (limit (j + 1))) (exchange ps j (r % (j + 1))) ps
