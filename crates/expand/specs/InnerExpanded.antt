-- What a draw from a hashed string leaves in lent scratch.
-- Assumes nothing.
use Rattle.std.specs.Prelude.{◌≡◌, Bool, List, [], ◌∷◌, ℕ, take}
use Rattle.outcome.specs.Answer.{◌unless◌, short_draw, first_refusal}
use Rattle.sampling.specs.declared.Draw.{Draw}
use Rattle.sampling.specs.Sampling.{sample, enough, yield}

-- The answer is short where the block does not yield enough; else the first n places of the scratch are the draw.
pub record Expanded (drawn : Bool) (n : ℕ) (value : List ℕ) (r : ℕ) (scratch : List ℕ) : Type 0 where
  pub answer : r ≡ first_refusal (short_draw unless drawn ∷ [])
  pub content : r ≡ 0 → take n scratch ≡ value

-- a draw from a block
abbrev pub ExpandedFrom : (d : Draw) (block : List ℕ) → ℕ → List ℕ → Type 0
ExpandedFrom d block =
    Expanded
    (enough d.count (yield d.width d.limit d.added block))
    d.count
    (sample d.width d.limit d.added d.count block)
