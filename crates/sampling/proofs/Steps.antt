-- The shuffle by its steps: what is left to do after some fields, at position j.
-- Assumes nothing.
use mathlib.Core.Path.{◌≡◌, refl, ◌∙◌, sym, ap}
use mathlib.Core.Bool.{Bool, true, false}
use mathlib.Core.List.{List, [], ◌∷◌, ◌++◌}
use Prim.Native.Nat.{ℕ, zero, suc, ◌+◌, ◌-◌, ◌*◌, ◌%◌, ◌<◌, ◌≤◌}
use native.Mathlib.Omega.{arith}
use native.Mathlib.Nat.{not-suc-le-zero}
use lib.Dec.{ltb, leb-suc-suc, leb-suc-zero, leb-zero}
use lib.ListN.{length, get_or, replicate}
use Rattle.outcome.specs.Answer.{short_draw, pick}
use Rattle.outcome.proofs.Checks.{number_positive, fails, holds}
use Rattle.packing.proofs.Below.{Below}
use Rattle.sampling.specs.Sampling.{fields, enough}
use Rattle.sampling.specs.Shuffle.{limit, partners, exchange, exchanges, shuffle, shuffles}
use Rattle.sampling.specs.InnerScratch.{Shuffled, next_position, next_positions}
use Rattle.sampling.proofs.Fields.{fields_pair}

-- with the fields rs left, position j and the positions ps lead to the shuffle
pub record Leads (t w : ℕ) (block rs : List ℕ) (j : ℕ) (ps : List ℕ) : Type 0 where
  pub content : exchanges j (partners j rs) ps ≡ shuffle t w block
  pub suffices : enough j (partners j rs) ≡ shuffles t block

pub starts : (w : ℕ) {t : ℕ} (block : List ℕ) {ps : List ℕ} → length ps ≡ t → ps ≡ replicate w 1 ++ replicate (t - w) 0 →
    Leads (length ps) w block (fields 16 block) (length ps - 1) ps
unfolding shuffle shuffles
starts w {t} block {ps} l e =
    let begun : ps ≡ replicate w 1 ++ replicate (length ps - w) 0 =
    e ∙ ap (λ (n : ℕ). replicate w 1 ++ replicate (n - w) 0) (sym l)
    in
    record {
      content = ap (exchanges (length ps - 1) (partners (length ps - 1) (fields 16 block))) begun;
      suffices = refl;
    }

-- at position 0 the shuffle is done
pub ends : {t n w j : ℕ} {block rs ps : List ℕ} → n ≡ t → j ≡ 0 → Leads n w block rs j ps → Shuffled t w block 0 ps
unfolding exchanges enough
ends {t} {w = w} {j = j} {block = block} {rs = rs} {ps = ps} n≡t j≡0 l =
    let done : Leads t w block rs 0 ps = rw (n≡t, j≡0) at l in
    record {
      answer = sym (holds short_draw (shuffles t block) [] (sym done.suffices ∙ leb-zero (length (partners 0 rs))));
      content = λ _. done.content;
    }

-- with no field left for another position the block is short
pub runs_short : {t n w j : ℕ} {block rs ps : List ℕ} → n ≡ t → 0 < j → rs ≡ [] → Leads n w block rs j ps → Shuffled t w block 2 ps
unfolding partners enough
runs_short {j = zero} n≡t pos none l = absurd (not-suc-le-zero pos)
runs_short {t} {w = w} {j = suc j} {block = block} {ps = ps} n≡t pos none l =
    let left : Leads t w block [] (suc j) ps = rw (n≡t, none) at l in
    record {
      answer = sym (fails short_draw (shuffles t block) [] (sym left.suffices ∙ leb-suc-zero j));
      content = λ e. absurd (number_positive short_draw e);
    }

-- the definitions go by j + 2 at position j + 1
limit_at : (j : ℕ) → limit (suc j + 1) ≡ limit (j + 2)
limit_at j = ap limit (omega arith)

content_by : (b : Bool) (j r : ℕ) (rs ps : List ℕ) →
    exchanges (suc j) (pick b ((r % (j + 2)) ∷ partners j rs) (partners (suc j) rs)) ps ≡
    exchanges (pick b (suc j - 1) (suc j)) (partners (pick b (suc j - 1) (suc j)) rs) (pick b (exchange ps (suc j) (r % (suc j + 1))) ps)
unfolding exchanges
content_by true j r rs ps =
    let down : suc j - 1 ≡ j = omega arith in
    let up : suc j + 1 ≡ j + 2 = omega arith in
    rw (down, up)
content_by false j r rs ps = refl

content_step : (j r : ℕ) (rs ps : List ℕ) → 0 < j →
    exchanges j (partners j (r ∷ rs)) ps ≡ exchanges (next_position j r) (partners (next_position j r) rs) (next_positions ps j r)
unfolding partners
content_step zero r rs ps h = absurd (not-suc-le-zero h)
content_step (suc j) r rs ps h = rw (limit_at j) (content_by (ltb r (limit (j + 2))) j r rs ps)

suffices_by : (b : Bool) (j i : ℕ) (rs : List ℕ) →
    enough (suc j) (pick b (i ∷ partners j rs) (partners (suc j) rs)) ≡
    enough (pick b (suc j - 1) (suc j)) (partners (pick b (suc j - 1) (suc j)) rs)
unfolding enough
suffices_by true j i rs =
    let down : suc j - 1 ≡ j = omega arith in
    rw down (leb-suc-suc j (length (partners j rs)))
suffices_by false j i rs = refl

suffices_step : (j r : ℕ) (rs : List ℕ) → 0 < j →
    enough j (partners j (r ∷ rs)) ≡ enough (next_position j r) (partners (next_position j r) rs)
unfolding partners
suffices_step zero r rs h = absurd (not-suc-le-zero h)
suffices_step (suc j) r rs h = rw (limit_at j) (suffices_by (ltb r (limit (j + 2))) j (r % (j + 2)) rs)

step : {t w j r : ℕ} {block rs ps : List ℕ} → 0 < j → Leads t w block (r ∷ rs) j ps → Leads t w block rs (next_position j r) (next_positions ps j r)
step {j = j} {r = r} {rs = rs} {ps = ps} h l =
    record { content = sym (content_step j r rs ps h) ∙ l.content; suffices = sym (suffices_step j r rs h) ∙ l.suffices }

-- the field of the next two bytes
pub step_pair : {t w j r : ℕ} {block ps : List ℕ} (rest pair later : List ℕ) → Below 256 rest → rest ≡ pair ++ later →
    length pair ≡ 2 → r ≡ get_or pair 0 0 + 256 * get_or pair 1 0 → 0 < j → Leads t w block (fields 16 rest) j ps →
    Leads t w block (fields 16 later) (next_position j r) (next_positions ps j r)
step_pair rest pair later b e two q pos l =
    let next : fields 16 rest ≡ (get_or pair 0 0 + 256 * get_or pair 1 0) ∷ fields 16 later =
    rw e (fields_pair pair later (rw e at b) two)
    in
    rw q (step pos (rw next at l))

-- positions are settled downward
pick_le : (b : Bool) (j : ℕ) → pick b (j - 1) j ≤ j
pick_le true j = omega arith
pick_le false j = omega arith

pub next_le : (j r : ℕ) → next_position j r ≤ j
next_le j r = pick_le (ltb r (limit (j + 1))) j
