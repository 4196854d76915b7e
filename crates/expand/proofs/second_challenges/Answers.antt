-- `second_challenges`: one part holds the packed first challenges, the other the hash. Assumes nothing.
use Rattle.std.proofs.Common.{◌≡◌, ℕ, List, length, replicate, ◌∙◌, arith, take_all}
use Rattle.scheme.specs.Strings.{bytes_from, second_challenge_string}
use Rattle.scheme.specs.Sign.{second_challenges, second_drawn, second_block}
use Rattle.expand.proofs.Lent.{lent, lent_hash, lent_part}
use Rattle.sampling.specs.Shuffle.{shuffle, shuffles}
use Rattle.sampling.specs.InnerScratch.{Shuffled}
use Rattle.expand.specs.InnerExpanded.{Expanded}
use Rattle.expand.proofs.second_challenges.Goals as goal

-- the shuffled positions fill what was lent
from_shuffle : (t w : ℕ) {r : ℕ} {block positions : List ℕ} → length positions ≡ t → Shuffled t w block r positions
    → Expanded (shuffles t block) t (shuffle t w block) r positions
from_shuffle t w {r} {block} {positions} long shuffled =
    record { answer = shuffled.answer; content = λ zero. take_all t positions (omega arith) ∙ shuffled.content zero }

pub returns : goal.returns
unfolding second_challenges second_drawn second_block second_challenge_string bytes_from
returns c =
    let p = c.args.p.sizes in
    let size = c.packed_size-size.result in
    from_shuffle p.t p.w (c.shuffle.auto.positions ∙ c.requires.2)
    (rw (
      lent_hash (lent p.second (replicate 1024 0) c.hash.new.out (omega arith) c.hash.auto.out) _ _ c.hash.ensures,
      lent_part (lent size (replicate 448 0) c.pack.new.out (omega (arith, c.packed_size-size.ensures, c.args.p.sound.t_fits)) c.pack.auto.out),
      c.pack.ensures,
      c.requires.2,
    ) at c.shuffle.ensures)
