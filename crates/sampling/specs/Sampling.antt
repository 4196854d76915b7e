-- "Draws": a block is read as fields of a width, in the bit order of packing; the acceptable ones are kept until
-- there are enough. Document 01 calls sampling a draw.
-- Assumes nothing.
use Rattle.std.specs.Prelude.{Bool, List, [], ◌∷◌, ℕ, ◌+◌, ◌*◌, ◌/◌, ltb, leb, eqb, length, take}
use Rattle.outcome.specs.Answer.{Check, ◌unless◌, bad_size, short_draw, pick}
use Rattle.packing.specs.Packing.{unpack}

-- the whole fields of width w in a block; bits left over at its end are not looked at
unfoldable pub fields : ℕ → List ℕ → List ℕ
fields w block = unpack w (8 * length block / w) block

-- the fields below m, each with d added
unfoldable pub keep : ℕ → ℕ → List ℕ → List ℕ
keep m d [] = []
keep m d (x ∷ xs) = pick (ltb x m) ((x + d) ∷ keep m d xs) (keep m d xs)

-- all that a block yields
unfoldable pub yield : ℕ → ℕ → ℕ → List ℕ → List ℕ
yield w m d block = keep m d (fields w block)

-- what is drawn: the first n
unfoldable pub sample : ℕ → ℕ → ℕ → ℕ → List ℕ → List ℕ
sample w m d n block = take n (yield w m d block)

-- a list is long enough; a draw that is not is short
unfoldable pub enough : ℕ → List ℕ → Bool
enough n xs = leb n (length xs)

-- the tests of a draw of n fields from a block of some bytes into a buffer of some bytes
unfoldable pub sample_checks : ℕ → ℕ → ℕ → ℕ → ℕ → List ℕ → ℕ → List Check
sample_checks w m d n bytes block out =
    bad_size unless eqb (length block) bytes ∷
    bad_size unless eqb out n ∷
    short_draw unless enough n (yield w m d block) ∷
    []
