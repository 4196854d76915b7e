-- "Draws", as entries over a lent block: the number answered, and the content of the lent buffer.
-- Assumes nothing.
use Rattle.std.specs.Prelude.{List, ℕ, length}
use Rattle.outcome.specs.Answer.{Answers}
use Rattle.sampling.specs.Sampling.{sample, sample_checks}
use Rattle.sampling.specs.Shuffle.{shuffle, shuffle_checks}

-- a draw of n fields of width w below m, each plus d, from a block of some bytes, into a buffer that held `old`
abbrev pub AnswersSample : ℕ → ℕ → ℕ → ℕ → ℕ → List ℕ → List ℕ → ℕ → List ℕ → Type 0
AnswersSample w m d n bytes block old number lent =
    Answers (sample_checks w m d n bytes block (length old)) (sample w m d n block) old number lent

-- the second challenge at t positions, w of them ones, from a block of some bytes, into a buffer that held `old`
abbrev pub AnswersShuffle : ℕ → ℕ → ℕ → List ℕ → List ℕ → ℕ → List ℕ → Type 0
AnswersShuffle t w bytes block old number lent =
    Answers (shuffle_checks t bytes block (length old)) (shuffle t w block) old number lent
