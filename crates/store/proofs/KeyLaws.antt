-- Laws of keys and of choices between two results. Assumes nothing.
use mathlib.Core.Path.{◌≡◌, refl, ◌∙◌, sym, ap}
use mathlib.Core.Bool.{Bool, true, false, ◌&&◌, ◌||◌, not, not-not, and_assoc}
use mathlib.Core.List.{List, [], ◌∷◌}
use Prim.Native.Nat.{ℕ}
use native.Mathlib.Omega.{arith}
use lib.Dec.{T, eqb}
use borrow.Author.Tests.{eqb-true, eq-eqb}
use Rattle.outcome.specs.Answer.{pick}
use Rattle.outcome.specs.Result.{Ok}
use Rattle.profile.specs.declared.Profile.{Profile}
use Rattle.profile.specs.Rules.{Class, contains, class_in, is_class, valid}
use Rattle.profile.proofs.RuleLaws.{parts, valid_hertz}
use Rattle.store.specs.declared.Key.{Key}
use Rattle.store.specs.declared.Device.{Device}
use Rattle.store.specs.Keys.{key_of, device_key, same_key, has_class, device_ok}

-- ---- tests and choices

pub both_true : (a b : Bool) → (a && b) ≡ true → (a ≡ true) × (b ≡ true)
both_true true b e = (refl, e)
both_true false b e = let z : ◌≡◌ {A = ℕ} 0 1 = cc in absurd (omega arith)

pub and_fails : (a b : Bool) → a ≡ false → (a && b) ≡ false
and_fails a b e = rw e

pub and_holds : (a b : Bool) → a ≡ true → (a && b) ≡ b
and_holds a b e = rw e

pub not_both : (b : Bool) → b ≡ true → b ≡ false → ⊥
not_both b t f = let z : ◌≡◌ {A = ℕ} 0 1 = cc in omega arith

-- a second choice by the same test adds nothing
pub pick_again : {A : Type 0} (b : Bool) (x y z : A) → pick b x (pick b y z) ≡ pick b x z
pick_again true x y z = refl
pick_again false x y z = refl

-- two choices of which at most one is made may change places
pub pick_apart : {A : Type 0} (a b : Bool) (x y z : A) → (a ≡ true → b ≡ true → ⊥)
    → pick a x (pick b y z) ≡ pick b y (pick a x z)
pick_apart true true x y z apart = absurd (apart refl refl)
pick_apart true false x y z apart = refl
pick_apart false b x y z apart = refl

-- ---- keys

-- `==` of two keys
pub equal_keys : (a b : Key)
    → (eqb a.country.first b.country.first && eqb a.country.second b.country.second && (eqb a.class b.class && eqb a.hertz b.hertz))
    ≡ same_key a b
unfolding same_key
equal_keys a b = simp and_assoc

-- and what `!=` says of two keys that are known
pub compared : {a b a' b' : Key} {r : Bool}
    → r
    ≡ not (eqb a.country.first b.country.first && eqb a.country.second b.country.second && (eqb a.class b.class && eqb a.hertz b.hertz))
    → a ≡ a' → b ≡ b' → same_key a' b' ≡ not r
compared {a} {b} {r = r} e p q =
    sym (λ i. same_key (p i) (q i)) ∙ sym (equal_keys a b) ∙ sym (not-not _) ∙ sym (ap not e)

pub same_eq : (a b : Key) → same_key a b ≡ true → a ≡ b
unfolding same_key
same_eq a b e =
    let first = both_true (eqb a.country.first b.country.first) _ e in
    let second = both_true (eqb a.country.second b.country.second) _ first.1 in
    let p0 = eqb-true a.country.first b.country.first first.0 in
    let p1 = eqb-true a.country.second b.country.second second.0 in
    let third = both_true (eqb a.class b.class) _ second.1 in
    let p2 = eqb-true a.class b.class third.0 in
    let p3 = eqb-true a.hertz b.hertz third.1 in
    λ i. record { country = record { first = p0 i; second = p1 i }; class = p2 i; hertz = p3 i }

pub same_refl : (a : Key) → same_key a a ≡ true
unfolding same_key
same_refl a =
    rw (eq-eqb a.country.first _ refl, eq-eqb a.country.second _ refl)
    (rw (eq-eqb a.class _ refl, eq-eqb a.hertz _ refl))

pub same_sym : (a b : Key) → same_key a b ≡ true → same_key b a ≡ true
same_sym a b e = rw (same_eq a b e) (same_refl b)

pub same_comm : (a b : Key) → same_key a b ≡ same_key b a
same_comm a b = go (same_key a b) (same_key b a) refl refl
  where
    go : (x y : Bool) → same_key a b ≡ x → same_key b a ≡ y → x ≡ y
    go true true e f = refl
    go true false e f = absurd (not_both (same_key b a) (same_sym a b e) f)
    go false true e f = absurd (not_both (same_key a b) (same_sym b a f) e)
    go false false e f = refl

-- keys that differ are not both a third
pub same_apart : (a b k : Key) → same_key a b ≡ false → same_key a k ≡ true → same_key b k ≡ true → ⊥
same_apart a b k differ ak bk =
    not_both (same_key a b) (rw (same_eq a k ak ∙ sym (same_eq b k bk)) (same_refl b)) differ

pub key_apart : (a b : Key) → (a ≡ b → ⊥) → same_key a b ≡ false
key_apart a b differ = go (same_key a b) refl
  where
    go : (s : Bool) → same_key a b ≡ s → s ≡ false
    go true e = absurd (differ (same_eq a b e))
    go false e = refl

-- ---- the device of a valid profile

or_second : (a b : Bool) → b ≡ true → (a || b) ≡ true
or_second true b e = refl
or_second false b e = e

-- the class that a table gives for some volts is one of the table
class_known : (table : List Class) (volts letter : ℕ) → is_class (class_in table volts) letter ≡ true
    → has_class table letter ≡ true
class_known [] volts letter e = e
class_known (c ∷ cs) volts letter e = go (contains c.volts volts) e (class_known cs volts letter)
  where
    go : (b : Bool) → is_class (pick b (Ok c.letter) (class_in cs volts)) letter ≡ true
        → (is_class (class_in cs volts) letter ≡ true → has_class cs letter ≡ true)
        → (eqb letter c.letter || has_class cs letter) ≡ true
    go true e rest = rw e
    go false e rest = or_second (eqb letter c.letter) (has_class cs letter) (rest e)

pub device_of_valid : (table : List Class) (profile : Profile) (device : Device) → T (valid table profile)
    → device_key device ≡ key_of profile → device_ok table device ≡ true
unfolding device_ok
device_of_valid table profile device ok its =
    let rules = parts table profile ok in
    let country : device.country ≡ profile.country = ap (λ (k : Key). k.country) its in
    let class : device.class ≡ profile.class = ap (λ (k : Key). k.class) its in
    let hertz : device.hertz ≡ profile.hertz = ap (λ (k : Key). k.hertz) its in
    rw (country, class, hertz, rules.first, rules.second, class_known table profile.volts profile.class rules.agrees)
    (valid_hertz table profile ok)
