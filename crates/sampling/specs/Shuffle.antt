-- "Second challenge": w ones and then zeros at t positions, shuffled by the 16-bit fields of a block.
-- Assumes nothing.
use Rattle.std.specs.Prelude.{Bool, List, [], ◌∷◌, ◌++◌, ℕ, zero, suc, ◌+◌, ◌-◌, ◌*◌, ◌/◌, ◌%◌, ltb, eqb, length, get_or, set, replicate}
use Rattle.outcome.specs.Answer.{Check, ◌unless◌, bad_size, short_draw, pick}
use Rattle.sampling.specs.Sampling.{fields, enough}

-- the greatest multiple of m up to 65536: fields from there on are dropped, so that each remainder is as likely
abbrev pub limit : ℕ → ℕ
limit m = 65536 / m * m

-- the partners of the positions j, j - 1, .. 1: for each the next field that is not dropped, modulo j + 1
unfoldable pub partners : ℕ → List ℕ → List ℕ
partners zero rs = []
partners (suc j) [] = []
partners (suc j) (r ∷ rs) = pick (ltb r (limit (j + 2))) ((r % (j + 2)) ∷ partners j rs) (partners (suc j) rs)

unfoldable pub exchange : List ℕ → ℕ → ℕ → List ℕ
exchange ps i j = set (set ps i (get_or ps j 0)) j (get_or ps i 0)

-- each position from j downward is exchanged with its partner
unfoldable pub exchanges : ℕ → List ℕ → List ℕ → List ℕ
exchanges zero is ps = ps
exchanges (suc j) [] ps = ps
exchanges (suc j) (i ∷ is) ps = exchanges j is (exchange ps (suc j) i)

-- the second challenge: position j is that of round j + 1
unfoldable pub shuffle : ℕ → ℕ → List ℕ → List ℕ
shuffle t w block = exchanges (t - 1) (partners (t - 1) (fields 16 block)) (replicate w 1 ++ replicate (t - w) 0)

-- a block suffices where each position but 0 gets a partner
unfoldable pub shuffles : ℕ → List ℕ → Bool
shuffles t block = enough (t - 1) (partners (t - 1) (fields 16 block))

unfoldable pub shuffle_checks : ℕ → ℕ → List ℕ → ℕ → List Check
shuffle_checks t bytes block out =
    bad_size unless eqb (length block) bytes ∷
    bad_size unless eqb out t ∷
    short_draw unless shuffles t block ∷
    []
