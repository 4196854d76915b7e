-- Laws of being one of a list, and of the best of a list: it is one of them, and at least as good as each. Assumes
-- nothing.
use mathlib.Core.Path.{◌≡◌, refl, ◌∙◌, sym, ap, subst}
use mathlib.Core.Bool.{Bool, true, false, ◌&&◌, ◌||◌}
use mathlib.Core.List.{List, [], ◌∷◌}
use mathlib.Core.Logic.{inl, inr}
use Prim.Native.Nat.{◌≤◌}
use native.Mathlib.Omega.{arith}
use lib.Dec.{eqb, leb, ltb}
use borrow.Author.Tests.{ltb-true, ltb-false, leb-true, eqb-true, le-ltb, le-leb, eq-eqb}
use Rattle.outcome.specs.Answer.{pick}
use Rattle.outcome.specs.Lists.{In}
use Rattle.profile.specs.declared.Profile.{Profile}
use Rattle.store.proofs.KeyLaws.{both_true, not_both}
use Rattle.nearest.specs.declared.Measured.{Measured}
use Rattle.nearest.specs.Nearest.{far_from, is_of, reach, is_near, near, wins_tie, is_better, best_of}

-- ---- the tie rule: nothing else here knows what it says

tie_self : (p : Profile) → wins_tie p p ≡ false
tie_self p = le-ltb p.volts p.volts (omega arith)

tie_trans : (p q r : Profile) → wins_tie q p ≡ false → wins_tie r q ≡ false → wins_tie r p ≡ false
tie_trans p q r e f =
    let low = ltb-false q.volts p.volts e in
    let next = ltb-false r.volts q.volts f in
    le-ltb r.volts p.volts (omega arith)

tie_other : (p q : Profile) → wins_tie p q ≡ true → wins_tie q p ≡ false
tie_other p q e =
    let less = ltb-true p.volts q.volts e in
    le-ltb q.volts p.volts (omega arith)

tie_equal : (p q : Profile) → wins_tie q p ≡ false → wins_tie p q ≡ false → p.volts ≡ q.volts
tie_equal p q e f =
    let least = ltb-false q.volts p.volts e in
    let most = ltb-false p.volts q.volts f in
    omega arith

-- ---- at least as good

abbrev pub AsGood : Measured → Profile → Profile → Type 0
AsGood m p q = (far_from m p ≤ far_from m q) × (far_from m p ≡ far_from m q → wins_tie q p ≡ false)

module _ (m : Measured) where
  good_self : (p : Profile) → AsGood m p p
  good_self p = (omega arith, λ e. tie_self p)

  good_trans : (p q r : Profile) → AsGood m p q → AsGood m q r → AsGood m p r
  good_trans p q r a b =
      let first = a.0 in
      let second = b.0 in
      (omega arith, λ e. tie_trans p q r (a.1 (omega arith)) (b.1 (omega arith)))

  -- the better one is, and where none is better the one that is held
  good_better : (p q : Profile) → is_better m p q ≡ true → AsGood m p q
  unfolding is_better
  good_better p q e = go (ltb (far_from m p) (far_from m q)) refl e
    where
      go : (b : Bool) → ltb (far_from m p) (far_from m q) ≡ b
          → (b || (eqb (far_from m p) (far_from m q) && wins_tie p q)) ≡ true → AsGood m p q
      go true less e =
          let nearer = ltb-true (far_from m p) (far_from m q) less in
          (omega arith, λ same. absurd (omega arith))
      go false less e =
          let both = both_true (eqb (far_from m p) (far_from m q)) (wins_tie p q) e in
          let same = eqb-true (far_from m p) (far_from m q) both.0 in
          (omega arith, λ again. tie_other p q both.1)

  good_kept : (p q : Profile) → is_better m q p ≡ false → AsGood m p q
  unfolding is_better
  good_kept p q e = go (ltb (far_from m q) (far_from m p)) refl e
    where
      go : (b : Bool) → ltb (far_from m q) (far_from m p) ≡ b
          → (b || (eqb (far_from m q) (far_from m p) && wins_tie q p)) ≡ false → AsGood m p q
      go true less e = absurd (not_both true refl e)
      go false less e =
          let most = ltb-false (far_from m q) (far_from m p) less in
          (most, λ same. rw (eq-eqb (far_from m q) (far_from m p) (sym same)) at e)

  -- two that are at least as good as each other have the same volts
  pub same_volts : (p q : Profile) → AsGood m p q → AsGood m q p → p.volts ≡ q.volts
  same_volts p q a b =
      let first = a.0 in
      let second = b.0 in
      tie_equal p q (a.1 (omega arith)) (b.1 (omega arith))

  -- ---- the best of a list

  pub good_each : (b r : Profile) (rs : List Profile) → AsGood m b r → ((q : Profile) → In q rs → AsGood m b q)
      → (q : Profile) → In q (r ∷ rs) → AsGood m b q
  good_each b r rs first others q (inl e) = subst (AsGood m b) (sym e) first
  good_each b r rs first others q (inr i) = others q i

  -- of the first and of every other
  abbrev Best : Profile → List Profile → Profile → Type 0
  Best p ps b = AsGood m b p × ((q : Profile) → In q ps → AsGood m b q)

  pub best_good : (p : Profile) (ps : List Profile) → Best p ps (best_of m p ps)
  unfolding best_of
  best_good p [] = (good_self p, λ q i. absurd i)
  best_good p (r ∷ rs) = go (is_better m r p) refl (best_good r rs) (best_good p rs)
    where
      go : (b : Bool) → is_better m r p ≡ b → Best r rs (best_of m r rs) → Best p rs (best_of m p rs)
          → Best p (r ∷ rs) (best_of m (pick b r p) rs)
      go true e rest other = (
        good_trans (best_of m r rs) r p rest.0 (good_better r p e),
        good_each (best_of m r rs) r rs rest.0 rest.1,
      )
      go false e other rest = (
        rest.0,
        good_each (best_of m p rs) r rs (good_trans (best_of m p rs) p r rest.0 (good_kept p r e)) rest.1,
      )

  in_skip : (b p r : Profile) (rs : List Profile) → In b (p ∷ rs) → In b (p ∷ (r ∷ rs))
  in_skip b p r rs (inl e) = inl e
  in_skip b p r rs (inr i) = inr (inr i)

  pub best_in : (p : Profile) (ps : List Profile) → In (best_of m p ps) (p ∷ ps)
  unfolding best_of
  best_in p [] = inl refl
  best_in p (r ∷ rs) = go (is_better m r p) (best_in r rs) (best_in p rs)
    where
      go : (b : Bool) → In (best_of m r rs) (r ∷ rs) → In (best_of m p rs) (p ∷ rs)
          → In (best_of m (pick b r p) rs) (p ∷ (r ∷ rs))
      go true new old = inr new
      go false new old = in_skip (best_of m p rs) p r rs old

  -- ---- those that count

  pub near_in : (ps : List Profile) (q : Profile) → In q (near m ps) → In q ps × (is_near m q ≡ true)
  unfolding near
  near_in [] q i = absurd i
  near_in (p ∷ ps) q i = go (is_near m p) refl i (near_in ps q)
    where
      go : (b : Bool) → is_near m p ≡ b → In q (pick b (p ∷ near m ps) (near m ps))
          → (In q (near m ps) → In q ps × (is_near m q ≡ true)) → In q (p ∷ ps) × (is_near m q ≡ true)
      go true e (inl s) rest = (inl s, ap (is_near m) s ∙ e)
      go true e (inr j) rest = (inr (rest j).0, (rest j).1)
      go false e j rest = (inr (rest j).0, (rest j).1)

  pub in_near : (ps : List Profile) (q : Profile) → In q ps → is_near m q ≡ true → In q (near m ps)
  unfolding near
  in_near [] q i n = i
  in_near (p ∷ ps) q (inl s) n = go (is_near m p) refl
    where
      go : (b : Bool) → is_near m p ≡ b → In q (pick b (p ∷ near m ps) (near m ps))
      go true e = inl s
      go false e = absurd (not_both (is_near m p) (ap (is_near m) (sym s) ∙ n) e)
  in_near (p ∷ ps) q (inr i) n = go (is_near m p) (in_near ps q i n)
    where
      go : (b : Bool) → In q (near m ps) → In q (pick b (p ∷ near m ps) (near m ps))
      go true j = inr j
      go false j = j

  -- of the country and the hertz, and within reach
  pub near_parts : (q : Profile) → is_near m q ≡ true → (is_of m q ≡ true) × (far_from m q ≤ reach)
  near_parts q e =
      let both = both_true (is_of m q) (leb (far_from m q) reach) e in
      (both.0, leb-true (far_from m q) reach both.1)

  pub parts_near : (q : Profile) → is_of m q ≡ true → far_from m q ≤ reach → is_near m q ≡ true
  parts_near q e h = rw (e, le-leb (far_from m q) reach h)
