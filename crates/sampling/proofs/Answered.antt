-- An entry that answers 0 has drawn: the wanted count, each value in range; w ones among t positions.
-- Assumes nothing.
use mathlib.Core.Path.{◌≡◌, sym}
use mathlib.Core.List.{List}
use Prim.Native.Nat.{ℕ, ◌+◌, ◌≤◌, ◌<◌}
use lib.Dec.{T}
use lib.ListN.{length, get_or}
use Rattle.outcome.proofs.Checks.{passed}
use Rattle.packing.proofs.Below.{Below}
use Rattle.sampling.specs.Sampling.{enough, yield, sample_checks}
use Rattle.sampling.specs.Weight.{ones}
use Rattle.sampling.specs.Entry.{AnswersSample, AnswersShuffle}
use Rattle.sampling.proofs.Kept.{Drawn, length_sample, sample_drawn, sample_below}
use Rattle.sampling.proofs.Shuffling.{length_shuffle, ones_shuffle, shuffle_below}

module _ (w m d n bytes : ℕ) (block old lent : List ℕ) (a : AnswersSample w m d n bytes block old 0 lent) where
  ok : T (enough n (yield w m d block))
  unfolding sample_checks
  ok = (passed (sample_checks w m d n bytes block (length old)) (sym a.answer)).1.1.0

  pub sample_count : length lent ≡ n
  sample_count = rw a.content (length_sample w m d n block ok)

  pub sample_range : (i : ℕ) → i < n → Drawn m d (get_or lent i 0)
  sample_range i h = rw a.content (sample_drawn w m d n block ok i h)

  pub sample_fields : Below (m + d) lent
  sample_fields = rw a.content (sample_below w m d n block)

module _ (t w bytes : ℕ) (block old lent : List ℕ) (fits : w ≤ t) (a : AnswersShuffle t w bytes block old 0 lent) where
  pub shuffle_count : length lent ≡ t
  shuffle_count = rw a.content (length_shuffle t w block fits)

  pub shuffle_ones : ones lent ≡ w
  shuffle_ones = rw a.content (ones_shuffle t w block fits)

  pub shuffle_bits : Below 2 lent
  shuffle_bits = rw a.content (shuffle_below t w block fits)
