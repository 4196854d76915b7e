-- The theorem of specs/Theorems.antt on stores that calls reached: there no two profiles of one country and hertz have
-- the same volts, so that the order of the slots does not matter. Assumes nothing.
use mathlib.Core.Path.{◌≡◌, refl, ◌∙◌, sym, ap, subst}
use mathlib.Core.Bool.{Bool, true, false}
use mathlib.Core.List.Permᴰ
use mathlib.Core.List.{
  List,
  [],
  ◌∷◌,
}
use mathlib.Core.Logic.{inl, inr}
use Prim.Native.Nat.{ℕ}
use native.Mathlib.Omega.{arith}
use lib.Dec.{T}
use borrow.Author.Tests.{eqb-true}
use Rattle.outcome.specs.Answer.{pick}
use Rattle.outcome.specs.Result.{Result, Ok, Err}
use Rattle.profile.specs.declared.Profile.{Profile}
use Rattle.profile.specs.Rules.{Class, class_in, is_class, valid}
use Rattle.profile.proofs.RuleLaws.{parts}
use Rattle.store.specs.declared.Key.{Key}
use Rattle.store.specs.declared.Device.{Device}
use Rattle.store.specs.Keys.{key_of, device_key, same_key}
use Rattle.store.specs.Stored.{find, is_done, is_stored, Distinct}
use Rattle.store.specs.Calls.{Perm}
use Rattle.store.specs.Reached.{AllValid}
use Rattle.store.proofs.KeyLaws.{not_both, same_eq, same_refl, device_of_valid}
use Rattle.store.proofs.LookupLaws.{lookup_found}
use Rattle.store.proofs.Reached.{reached_hold}
use Rattle.nearest.specs.declared.Measured.{Measured}
use Rattle.nearest.specs.Nearest.{nearest_in}
use Rattle.outcome.specs.Lists.{In}
use Rattle.nearest.specs.Theorems.{device_for, ReachedNearest}
use Rattle.nearest.proofs.BestLaws.{same_volts, near_in, in_near, near_parts}
use Rattle.nearest.proofs.Theorems.{nearest_good, suggested, none_within, within_none}

-- ---- being one of a list

perm_in : (p : Profile) {ps qs : List Profile} → Perm ps qs → In p ps → In p qs
perm_in p Permᴰ.nil i = i
perm_in p (Permᴰ.cons e d) (inl s) = inl (s ∙ e)
perm_in p (Permᴰ.cons e d) (inr i) = inr (perm_in p d i)
perm_in p (Permᴰ.swap e f) (inl s) = inr (inl (s ∙ e))
perm_in p (Permᴰ.swap e f) (inr (inl s)) = inl (s ∙ f)
perm_in p (Permᴰ.swap e f) (inr (inr i)) = inr (inr i)
perm_in p (Permᴰ.trans d e) i = perm_in p e (perm_in p d i)

in_valid : (table : List Class) (p : Profile) (ps : List Profile) → In p ps → AllValid table ps → T (valid table p)
in_valid table p [] i all = absurd i
in_valid table p (q ∷ qs) (inl s) all = subst (λ (r : Profile). T (valid table r)) (sym s) all.0
in_valid table p (q ∷ qs) (inr i) all = in_valid table p qs i all.1

-- where no key stands twice, what is stored is found under its key
in_find : (p : Profile) (ps : List Profile) → In p ps → Distinct ps → find (key_of p) ps ≡ Ok p
unfolding find
in_find p [] i one = absurd i
in_find p (q ∷ qs) (inl s) one =
    subst (λ (r : Profile). find (key_of r) (q ∷ qs) ≡ Ok r) (sym s) (rw (same_refl (key_of q)))
in_find p (q ∷ qs) (inr i) one = go (same_key (key_of q) (key_of p)) refl (in_find p qs i one.1)
  where
    go : (b : Bool) → same_key (key_of q) (key_of p) ≡ b → find (key_of p) qs ≡ Ok p
        → pick b (Ok q) (find (key_of p) qs) ≡ Ok p
    go true e rest =
        let twice : is_stored (key_of q) qs ≡ true =
        ap (λ (k : Key). is_stored k qs) (same_eq (key_of q) (key_of p) e) ∙ ap is_done rest in
        absurd (not_both (is_stored (key_of q) qs) twice one.0)
    go false e rest = rest

-- ---- the class follows from the volts

one_class : (r : Result ℕ) (a b : ℕ) → is_class r a ≡ true → is_class r b ≡ true → a ≡ b
one_class (Ok c) a b e f = eqb-true a c e ∙ sym (eqb-true b c f)
one_class (Err r) a b e f = absurd (not_both false e refl)

same_class : (table : List Class) (p q : Profile) → T (valid table p) → T (valid table q) → p.volts ≡ q.volts
    → p.class ≡ q.class
same_class table p q ok fine volts =
    let mine = (parts table p ok).agrees in
    let other = (parts table q fine).agrees in
    one_class (class_in table p.volts) p.class q.class mine (rw volts other)

-- ---- the order does not matter

module _ (table : List Class) (m : Measured) {ps qs : List Profile} (perm : Perm ps qs) (all : AllValid table ps)
    (one : Distinct ps) where
  back : Perm qs ps
  unfolding Permᴰ.symm
  back = Permᴰ.symm perm

  both : (p q : Profile) → nearest_in m ps ≡ Ok p → nearest_in m qs ≡ Ok q
      → ◌≡◌ {A = Result Profile} (Ok p) (Ok q)
  both p q e f =
      let p_good = nearest_good m ps p e in
      let q_good = nearest_good m qs q f in
      let p_near = near_in m ps p p_good.0 in
      let q_near = near_in m qs q q_good.0 in
      let q_in = perm_in q back q_near.0 in
      let ahead = p_good.1 q (in_near m ps q q_in q_near.1) in
      let behind = q_good.1 p (in_near m qs p (perm_in p perm p_near.0) p_near.1) in
      let volts = same_volts m p q ahead behind in
      let class =
      same_class table p q (in_valid table p ps p_near.0 all) (in_valid table q ps q_in all) volts in
      let mine = suggested m ps p e in
      let other = suggested m qs q f in
      let country = mine.country ∙ sym other.country in
      let hertz = mine.hertz ∙ sym other.hertz in
      let key : key_of p ≡ key_of q = λ i. record { country = country i; class = class i; hertz = hertz i } in
      sym (in_find p ps p_near.0 one) ∙ ap (λ (k : Key). find k ps) key ∙ in_find q ps q_in one

  -- nothing in one, something in the other
  apart : {rs ss : List Profile} → Perm rs ss → (p : Profile) → nearest_in m rs ≡ Ok p
      → is_done (nearest_in m ss) ≡ false → ⊥
  apart {rs} {ss} d p e f =
      let good = nearest_good m rs p e in
      let counts = near_in m rs p good.0 in
      let here = suggested m rs p e in
      let close = here.within in
      let far = none_within m ss f p (perm_in p d counts.0) (near_parts m p counts.1).0 in
      omega arith

  perm_nearest : nearest_in m ps ≡ nearest_in m qs
  perm_nearest = go (nearest_in m ps) (nearest_in m qs) refl refl
    where
      go : (r s : Result Profile) → nearest_in m ps ≡ r → nearest_in m qs ≡ s → r ≡ s
      go (Ok p) (Ok q) e f = both p q e f
      go (Ok p) (Err s) e f = absurd (apart perm p e (ap is_done f))
      go (Err r) (Ok q) e f = absurd (apart back q f (ap is_done e))
      go (Err r) (Err s) e f =
          let none = within_none m ps (none_within m ps (ap is_done e)) in
          let other = within_none m qs (none_within m qs (ap is_done f)) in
          sym e ∙ none ∙ sym other ∙ f

-- ---- reached stores

pub reached_nearest : ReachedNearest
reached_nearest table calls ps run m =
    let holds = reached_hold table calls ps run in
    record {
      as_map = perm_nearest table m holds.listed holds.all_valid holds.distinct;
      looked_up =
          λ p e.
          let it = suggested m ps p e in
          let ok = in_valid table p ps it.is_stored holds.all_valid in
          let device : Device = device_for m p.class in
          let own : device_key device ≡ key_of p =
          λ i. record { country = sym it.country i; class = p.class; hertz = sym it.hertz i } in
          let fine = device_of_valid table p device ok own in
          let found = ap (λ (k : Key). find k ps) own ∙ in_find p ps it.is_stored holds.distinct in
          (ok, lookup_found table device ps fine p found);
    }
