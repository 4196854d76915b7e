-- The theorems of specs/Theorems.antt on every store. Assumes nothing.
use mathlib.Core.Path.{◌≡◌, refl, ◌∙◌, sym, subst}
use mathlib.Core.Bool.{Bool, true, false}
use mathlib.Core.List.{List, [], ◌∷◌, ◌++◌}
use mathlib.Core.Logic.{◌⊎◌, inl, inr}
use Prim.Native.Nat.{ℕ, ◌≤◌, ◌<◌}
use native.Mathlib.Omega.{arith}
use lib.Dec.{T, eqb, leb}
use lib.ListN.{length, drop}
use borrow.Author.Tests.{eqb-true, ltb-false, leb-true, leb-false}
use Rattle.outcome.specs.Answer.{bad_size, bad_profile, not_stored, bad_device, ◌unless◌, first_refusal, AnswersFront}
use Rattle.outcome.specs.Result.{Result, Ok, Err}
use Rattle.outcome.proofs.Checks.{passed}
use Rattle.profile.specs.declared.Profile.{Profile}
use Rattle.profile.specs.Rules.{Class, valid}
use Rattle.profile.specs.Line.{longest, line_of}
use Rattle.store.specs.Stored.{store_size, stored, is_done}
use Rattle.store.specs.Calls.{valid_in, found_line, found_checks}
use Rattle.store.proofs.KeyLaws.{both_true}
use Rattle.store.proofs.FoundLaws.{nothing_found}
use Rattle.nearest.specs.declared.Measured.{Measured}
use Rattle.nearest.specs.Nearest.{measured_of, measured_ok, far_from, is_of, reach, near, best_of, best, nearest_in, suggest_checks}
use Rattle.outcome.specs.Lists.{In}
use Rattle.nearest.specs.Theorems.{Suggested, NoneWithin, NineExactly, LineSuggested}
use Rattle.nearest.proofs.BestLaws.{
  AsGood,
  good_each,
  best_good,
  best_in,
  near_in,
  in_near,
  near_parts,
  parts_near,
}

-- ---- against all that is stored

leb_cases : (a b : ℕ) → (a ≤ b) ⊎ (b < a)
leb_cases a b = go (leb a b) refl
  where
    go : (t : Bool) → leb a b ≡ t → (a ≤ b) ⊎ (b < a)
    go true e = inl (leb-true a b e)
    go false e = inr (leb-false a b e)

is_of_parts : (m : Measured) (q : Profile) → is_of m q ≡ true → (q.country ≡ m.country) × (q.hertz ≡ m.hertz)
unfolding is_of
is_of_parts m q e =
    let first = both_true (eqb q.country.first m.country.first) _ e in
    let second = both_true (eqb q.country.second m.country.second) _ first.1 in
    let p0 = eqb-true q.country.first m.country.first first.0 in
    let p1 = eqb-true q.country.second m.country.second second.0 in
    (λ i. record { first = p0 i; second = p1 i }, eqb-true q.hertz m.hertz second.1)

module _ (m : Measured) (ps : List Profile) where
  -- what is nearest counts, and is at least as good as all that count
  pub nearest_good : (p : Profile) → nearest_in m ps ≡ Ok p
      → In p (near m ps) × ((q : Profile) → In q (near m ps) → AsGood m p q)
  nearest_good p e = go (near m ps) e
    where
      go : (l : List Profile) → best m l ≡ Ok p → In p l × ((q : Profile) → In q l → AsGood m p q)
      go [] e = let z : ◌≡◌ {A = ℕ} 0 1 = cc in absurd (omega arith)
      go (r ∷ rs) e =
          let same : best_of m r rs ≡ p = cc in
          let good = best_good m r rs in (
            subst (λ (b : Profile). In b (r ∷ rs)) same (best_in m r rs),
            subst (λ (b : Profile). (q : Profile) → In q (r ∷ rs) → AsGood m b q) same
                (good_each m (best_of m r rs) r rs good.0 good.1),
          )

  pub suggested : (p : Profile) → nearest_in m ps ≡ Ok p → Suggested m ps p
  suggested p e =
      let good = nearest_good p e in
      let counts = near_in m ps p good.0 in
      let parts = near_parts m p counts.1 in
      let its = is_of_parts m p parts.0 in
      let within = parts.1 in
      record {
        is_stored = counts.0;
        country = its.0;
        hertz = its.1;
        within = within;
        nothing_nearer = λ q i of. nearer q (good.1 q) i of within;
        lowest =
            λ q i of same.
            let counts : In q (near m ps) = in_near m ps q i (parts_near m q of (omega arith)) in
            ltb-false q.volts p.volts ((good.1 q counts).1 (sym same));
      }
    where
      nearer : (q : Profile) → (In q (near m ps) → AsGood m p q) → In q ps → is_of m q ≡ true → far_from m p ≤ reach
          → far_from m p ≤ far_from m q
      nearer q good i of within = go (leb_cases (far_from m q) reach)
        where
          go : (far_from m q ≤ reach) ⊎ (reach < far_from m q) → far_from m p ≤ far_from m q
          go (inl h) = (good (in_near m ps q i (parts_near m q of h))).0
          go (inr h) = omega arith

  -- nothing is nearest exactly where none lies within reach
  pub none_within : is_done (nearest_in m ps) ≡ false → NoneWithin m ps
  none_within e q i of = go (leb_cases (far_from m q) reach)
    where
      some : (l : List Profile) → In q l → is_done (best m l) ≡ false → ⊥
      some [] i e = i
      some (r ∷ rs) i e = let z : ◌≡◌ {A = ℕ} 0 1 = cc in omega arith

      go : (far_from m q ≤ reach) ⊎ (reach < far_from m q) → reach < far_from m q
      go (inl h) = absurd (some (near m ps) (in_near m ps q i (parts_near m q of h)) e)
      go (inr h) = h

  pub within_none : NoneWithin m ps → nearest_in m ps ≡ Err not_stored
  within_none none = go (near m ps) (λ q i. i)
    where
      go : (l : List Profile) → ((q : Profile) → In q l → In q (near m ps)) → best m l ≡ Err not_stored
      go [] all = refl
      go (r ∷ rs) all =
          let counts = near_in m ps r (all r (inl refl)) in
          let parts = near_parts m r counts.1 in
          let far = none r counts.0 parts.0 in
          let close = parts.1 in
          absurd (omega arith)

-- ---- the entry's answers

-- where 9 is the number of the first check that fails
nine : (a b c d e f : Bool)
    → first_refusal
    (bad_device unless a
    ∷ bad_device unless b
    ∷ bad_size unless c
    ∷ bad_size unless d
    ∷ not_stored unless e
    ∷ bad_profile unless f
    ∷ [])
    ≡ 9
    → (a ≡ true) × (b ≡ true) × (c ≡ true) × (d ≡ true) × (e ≡ false)
nine false b c d e f z = let h : ◌≡◌ {A = ℕ} 10 9 = z in absurd (omega arith)
nine true false c d e f z = let h : ◌≡◌ {A = ℕ} 10 9 = z in absurd (omega arith)
nine true true false d e f z = let h : ◌≡◌ {A = ℕ} 1 9 = z in absurd (omega arith)
nine true true true false e f z = let h : ◌≡◌ {A = ℕ} 1 9 = z in absurd (omega arith)
nine true true true true false f z = (refl, refl, refl, refl, refl)
nine true true true true true false z = let h : ◌≡◌ {A = ℕ} 5 9 = z in absurd (omega arith)
nine true true true true true true z = let h : ◌≡◌ {A = ℕ} 0 9 = z in absurd (omega arith)

pub nine_exactly : (table : List Class) → NineExactly table
nine_exactly table image country hertz volts old before answer lent after suggests =
    let m : Measured = measured_of country hertz volts in
    let found : Result Profile = nearest_in m (stored image) in (
      λ e.
          let all =
          nine (eqb (length country) 2) (measured_ok m) (eqb (length image) store_size) (eqb (length old) longest)
          (is_done found) (valid_in table found) (sym suggests.answers.answer ∙ e) in (
            record {
              two = eqb-true (length country) 2 all.0;
              sound = all.1;
              whole = eqb-true (length image) store_size all.2;
              room = eqb-true (length old) longest all.3;
            },
            none_within m (stored image) all.4,
          ),
      λ asks none.
          suggests.answers.answer
          ∙ sym
          (nothing_found table image country old asks.two asks.sound asks.whole asks.room {before = before}
          (sym (within_none m (stored image) none))).answers.answer,
    )

pub line_suggested : (table : List Class) → LineSuggested table
line_suggested table image country hertz volts old before answer lent after suggests zero =
    let m : Measured = measured_of country hertz volts in
    let checks = suggest_checks table image country hertz volts old in
    let all = (passed checks (sym suggests.answers.answer ∙ zero)).1.1.1.1 in
    go (nearest_in m (stored image)) refl all.0 all.1.0 suggests
  where
    go : (found : Result Profile) → nearest_in (measured_of country hertz volts) (stored image) ≡ found
        → T (is_done found) → T (valid_in table found)
        → AnswersFront
        (found_checks table image country (measured_ok (measured_of country hertz volts)) found old)
        (found_line found) old before answer lent after
        → (p : Profile) × Suggested (measured_of country hertz volts) (stored image) p × T (valid table p)
        × (lent ≡ line_of p ++ drop (length (line_of p)) old) × (after ≡ length (line_of p))
    go (Ok p) e there ok writes = (
      p,
      suggested (measured_of country hertz volts) (stored image) p e,
      ok,
      rw zero at writes.answers.content,
      rw zero at writes.size,
    )
    go (Err r) e there ok writes = absurd there
