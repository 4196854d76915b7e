-- Laws of the input cut into lines, and of what its lines store. Assumes nothing.
use mathlib.Core.Path.{◌≡◌, refl, ◌∙◌, sym, ap}
use mathlib.Core.Bool.{Bool, true, false, cond}
use mathlib.Core.List.{List, [], ◌∷◌, ◌++◌}
use Prim.Native.Nat.{ℕ, zero, suc, ◌+◌, ◌-◌, ◌≤◌, ◌<◌}
use native.Mathlib.Numerals.{add-one}
use native.Mathlib.Omega.{arith}
use lib.Dec.{eqb, ltb}
use lib.ListN.{length, get_or, take, drop, length-drop, drop_of_length-le}
use lib.Seq.{take-suc, drop-cons, get_or-drop}
use borrow.Author.Tests.{eq-eqb, ne_eqb, eqb-true, ltb-true, ltb-false}
use Rattle.std.specs.Prelude.{Option, Some, None}
use Rattle.std.specs.List.{position_or_len}
use Rattle.std.proofs.lemmas.List.Sums.{fails_before_first, passes_at_first}
use Rattle.outcome.specs.Answer.{pick}
use Rattle.profile.specs.declared.Profile.{Profile}
use Rattle.profile.specs.Rules.{Class}
use Rattle.profile.specs.Line.{line_feed, read_line}
use Rattle.store.specs.Reached.{Run}
use Rattle.store.proofs.Reached.{run_then}
use Rattle.preview.specs.Preview.{cut_after, cut, LineAt, calls_of, calls_in}

-- ---- the next line

-- no LF stands from a place of the input up to i: what is cut there is cut with these bytes before it
pub record Passed (input : List ℕ) (at i : ℕ) : Type 0 where
  pub start : at ≤ i
  pub within : i ≤ length input
  pub left : cut_after (take (i - at) (drop at input)) (drop i input) ≡ cut (drop at input)

pub passed_none : (input : List ℕ) (at : ℕ) → at ≤ length input → Passed input at at
passed_none input at h =
    let none : at - at ≡ 0 = omega arith in
    record { start = omega arith; within = h; left = rw none }

module _ (input : List ℕ) (at i : ℕ) (passed : Passed input at i) where
  module _ (more : i < length input) where
    longer : take (i + 1 - at) (drop at input) ≡ take (i - at) (drop at input) ++ (get_or input i 0 ∷ [])
    longer =
        let next : i + 1 - at ≡ suc (i - at) = omega (arith, passed.start) in
        let place : at + (i - at) ≡ i = omega (arith, passed.start) in
        rw next
        (take-suc (drop at input) (i - at) 0 (omega (arith, passed.start, length-drop at input))
        ∙ ap (λ (b : ℕ). take (i - at) (drop at input) ++ (b ∷ []))
        (get_or-drop at input (i - at) 0 ∙ ap (λ (k : ℕ). get_or input k 0) place))

    step : cut_after (take (i - at) (drop at input)) (drop i input)
        ≡ pick (eqb (get_or input i 0) line_feed)
        (take (i + 1 - at) (drop at input) ∷ cut (drop (i + 1) input))
        (cut_after (take (i + 1 - at) (drop at input)) (drop (i + 1) input))
    unfolding cut_after
    step = rw (drop-cons input i 0 more, longer, add-one i)

    pub passed_more : (get_or input i 0 ≡ line_feed → ⊥) → Passed input at (i + 1)
    passed_more other =
        let no = ne_eqb (get_or input i 0) line_feed other in
        record { start = omega (arith, passed.start); within = omega arith; left = sym (rw no at step) ∙ passed.left }

    pub line_found : get_or input i 0 ≡ line_feed → LineAt input at (i + 1)
    line_found e =
        let yes = eq-eqb (get_or input i 0) line_feed e in
        record {
          start = omega (arith, passed.start);
          within = omega arith;
          line = sym passed.left ∙ (rw yes at step);
        }

  pub line_unfinished : length input ≤ i → cut (drop at input) ≡ []
  unfolding cut_after
  line_unfinished end = sym passed.left ∙ rw (drop_of_length-le input end)

-- ---- its LF, as the library finds it

-- how many bytes stand before the first LF, or all of them
abbrev pub before : List ℕ → ℕ
before bytes = position_or_len (λ b. eqb b line_feed) bytes

-- the place of the first LF, where there is one
abbrev pub feed : List ℕ → Option ℕ
feed bytes = cond (ltb (before bytes) (length bytes)) (Some (before bytes)) None

module _ (input : List ℕ) (at : ℕ) (h : at ≤ length input) where
  passed_far : (n : ℕ) → n ≤ before (drop at input) → n ≤ length (drop at input) → Passed input at (at + n)
  passed_far zero few room = let none : at + 0 ≡ at = omega arith in rw none (passed_none input at h)
  passed_far (suc n) few room =
      let next : at + suc n ≡ at + n + 1 = omega arith in
      let none : eqb (get_or (drop at input) n 0) line_feed ≡ false =
      fails_before_first (λ b. eqb b line_feed) (drop at input) n 0 (omega arith) in
      let other : eqb (get_or input (at + n) 0) line_feed ≡ false = rw (get_or-drop at input n 0) at none in
      rw next (passed_more input at (at + n) (passed_far n (omega arith) (omega arith)) (omega (arith, length-drop at input))
      (λ e. absurd (cc (other, eq-eqb (get_or input (at + n) 0) line_feed e))))

  found_at : before (drop at input) < length (drop at input) → LineAt input at (at + before (drop at input) + 1)
  found_at l =
      let n : ℕ = before (drop at input) in
      let yes : eqb (get_or (drop at input) n 0) line_feed ≡ true =
      passes_at_first (λ b. eqb b line_feed) (drop at input) 0 l in
      line_found input at (at + n) (passed_far n (omega arith) (omega arith)) (omega (arith, length-drop at input))
      (eqb-true _ _ (rw (get_or-drop at input n 0) at yes))

  -- where an LF was found
  pub line_at : (i : ℕ) → ◌≡◌ {A = Option ℕ} (Some i) (feed (drop at input)) → LineAt input at (at + i + 1)
  line_at i e = by (ltb (before (drop at input)) (length (drop at input))) refl e
    where
      by : (t : Bool) → ltb (before (drop at input)) (length (drop at input)) ≡ t
          → ◌≡◌ {A = Option ℕ} (Some i) (cond t (Some (before (drop at input))) None) → LineAt input at (at + i + 1)
      by true l e = let same : i ≡ before (drop at input) = cc in rw same (found_at (ltb-true _ _ l))
      by false l e = absurd cc

  -- where none was
  pub line_missing : ◌≡◌ {A = Option ℕ} None (feed (drop at input)) → cut (drop at input) ≡ []
  line_missing e = by (ltb (before (drop at input)) (length (drop at input))) refl e
    where
      by : (t : Bool) → ltb (before (drop at input)) (length (drop at input)) ≡ t
          → ◌≡◌ {A = Option ℕ} None (cond t (Some (before (drop at input))) None) → cut (drop at input) ≡ []
      by true l e = absurd cc
      by false l e =
          let n : ℕ = length (drop at input) in
          let far : n ≤ before (drop at input) = ltb-false (before (drop at input)) n l in
          line_unfinished input at (at + n) (passed_far n far (omega arith)) (omega (arith, length-drop at input))

-- ---- what the lines store

-- before the first line qs were stored, and the lines before a place left ps: what the lines from there on make of ps,
-- all lines make of qs
abbrev pub Left : List Class → List ℕ → List Profile → ℕ → List Profile → Type 0
Left table input qs at ps =
    (rs : List Profile) → Run table ps (calls_in table (cut (drop at input))) rs
    → Run table qs (calls_in table (cut input)) rs

pub left_all : (table : List Class) (input : List ℕ) (qs : List Profile) → Left table input qs 0 qs
left_all table input qs rs run = run

module _ (table : List Class) (input : List ℕ) (at : ℕ) (first ps : List Profile) (left : Left table input first at ps) where
  pub left_fewer : (end : ℕ) → LineAt input at end → (qs : List Profile)
      → Run table ps (calls_of (read_line table (take (end - at) (drop at input)))) qs
      → Left table input first end qs
  unfolding calls_in
  left_fewer end found qs run rs others =
      left rs
      (rw found.line
      (run_then table (calls_of (read_line table (take (end - at) (drop at input))))
      (calls_in table (cut (drop end input))) ps qs rs run others))

  pub left_none : cut (drop at input) ≡ [] → Run table first (calls_in table (cut input)) ps
  unfolding calls_in
  left_none none = left ps (rw none refl)
