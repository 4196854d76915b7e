-- The classes of a table: the rows of a sound one rise, so that no two hold the same volts, or have one letter.
-- Assumes nothing.
use mathlib.Core.Path.{◌≡◌, refl, ◌∙◌, sym, ap}
use mathlib.Core.Bool.{Bool, true, false}
use mathlib.Core.Logic.{inl, inr}
use mathlib.Core.List.{List, [], ◌∷◌}
use Prim.Native.Nat.{ℕ, ◌≤◌, ◌<◌}
use native.Mathlib.Omega.{arith}
use lib.Dec.{leb, ltb}
use borrow.Author.Tests.{leb-true, ltb-true}
use Rattle.outcome.specs.Answer.{bad_profile, pick}
use Rattle.outcome.specs.Result.{Ok, Err}
use Rattle.profile.specs.Rules.{Range, ◌to◌, contains, Class, class_in, low, high}
use Rattle.profile.proofs.RuleLaws.{and_first, and_rest}
use Rattle.table.specs.File.{sound_row, follows, sound_rows}
use Rattle.outcome.specs.Lists.{In}
use Rattle.table.specs.Theorems.{ClassHeld}
use Rattle.table.proofs.RowLaws.{bounds, first_sound}
use Rattle.table.proofs.TextLaws.{rest_sound}

-- ---- the row that holds some volts

pub class_row : ClassHeld
class_row [] volts letter e = let z : ◌≡◌ {A = ℕ} 0 1 = cc in absurd (omega arith)
class_row (c ∷ cs) volts letter e = go (contains c.volts volts) refl e (class_row cs volts letter)
  where
    go : (b : Bool) → contains c.volts volts ≡ b → pick b (Ok c.letter) (class_in cs volts) ≡ Ok letter
        → (class_in cs volts ≡ Ok letter → (d : Class) × In d cs × (contains d.volts volts ≡ true) × (d.letter ≡ letter))
        → (d : Class) × In d (c ∷ cs) × (contains d.volts volts ≡ true) × (d.letter ≡ letter)
    go true here e later = (c, inl refl, here, (cc))
    go false here e later = let found = later e in (found.0, inr found.1, found.2, found.3)

pub no_class : (table : List Class) (volts : ℕ) → ((c : Class) → In c table → contains c.volts volts ≡ false)
    → class_in table volts ≡ Err bad_profile
no_class [] volts none = refl
no_class (c ∷ cs) volts none = rw (none c (inl refl)) (no_class cs volts (λ d m. none d (inr m)))

-- ---- rows that rise

-- a row stands behind another: its letter and its volts are above
abbrev Above : Class → Class → Type 0
Above c d = (c.letter < d.letter) × (high c.volts < low d.volts)

rises : (c d : Class) → follows c d ≡ true → Above c d
rises c d e =
    let letters_rise = ltb c.letter d.letter in (
      ltb-true c.letter d.letter (and_first letters_rise _ e),
      ltb-true (high c.volts) (low d.volts) (and_rest letters_rise _ e),
    )

-- every row behind the first is above it
all_above : (c : Class) (cs : List Class) → sound_rows (c ∷ cs) ≡ true → (d : Class) → In d cs → Above c d
unfolding sound_rows
all_above c [] e d m = absurd m
all_above c (b ∷ cs) e d (inl here) = rw here (rises c b (and_first (follows c b) _ (and_rest (sound_row c) _ e)))
all_above c (b ∷ cs) e d (inr m) =
    let next = rises c b (and_first (follows c b) _ (and_rest (sound_row c) _ e)) in
    let later = all_above b cs (rest_sound c (b ∷ cs) e) d m in
    let own = bounds b (first_sound b cs (rest_sound c (b ∷ cs) e)) in
    (omega arith, omega arith)

-- what a range holds lies between its ends
held : (r : Range) (n : ℕ) → contains r n ≡ true → (low r ≤ n) × (n ≤ high r)
held (l to h) n e = (leb-true l n (and_first (leb l n) _ e), leb-true n h (and_rest (leb l n) _ e))

pub one_holds : (table : List Class) → sound_rows table ≡ true → (c d : Class) → In c table → In d table → (volts : ℕ)
    → contains c.volts volts ≡ true → contains d.volts volts ≡ true → d ≡ c
one_holds [] e c d m n volts hc hd = absurd m
one_holds (b ∷ bs) e c d (inl p) (inl q) volts hc hd = q ∙ sym p
one_holds (b ∷ bs) e c d (inl p) (inr n) volts hc hd =
    let over = all_above b bs e d n in
    let first = rw p at (held c.volts volts hc) in
    let second = held d.volts volts hd in
    absurd (omega arith)
one_holds (b ∷ bs) e c d (inr m) (inl q) volts hc hd =
    let over = all_above b bs e c m in
    let first = rw q at (held d.volts volts hd) in
    let second = held c.volts volts hc in
    absurd (omega arith)
one_holds (b ∷ bs) e c d (inr m) (inr n) volts hc hd = one_holds bs (rest_sound b bs e) c d m n volts hc hd

pub one_letter : (table : List Class) → sound_rows table ≡ true → (c d : Class) → In c table → In d table
    → c.letter ≡ d.letter → c ≡ d
one_letter [] e c d m n same = absurd m
one_letter (b ∷ bs) e c d (inl p) (inl q) same = p ∙ sym q
one_letter (b ∷ bs) e c d (inl p) (inr n) same =
    let over = all_above b bs e d n in
    let first : c.letter ≡ b.letter = ap (λ (x : Class). x.letter) p in
    absurd (omega arith)
one_letter (b ∷ bs) e c d (inr m) (inl q) same =
    let over = all_above b bs e c m in
    let first : d.letter ≡ b.letter = ap (λ (x : Class). x.letter) q in
    absurd (omega arith)
one_letter (b ∷ bs) e c d (inr m) (inr n) same = one_letter bs (rest_sound b bs e) c d m n same

-- where some row holds volts, some class is found
pub some_class : (table : List Class) (c : Class) → In c table → (volts : ℕ) → contains c.volts volts ≡ true
    → (letter : ℕ) × (class_in table volts ≡ Ok letter)
some_class [] c m volts h = absurd m
some_class (b ∷ bs) c (inl p) volts h =
    let here : contains b.volts volts ≡ true = rw p at h in
    (b.letter, rw here)
some_class (b ∷ bs) c (inr m) volts h = first (contains b.volts volts) (some_class bs c m volts h)
  where
    first : (t : Bool) → (letter : ℕ) × (class_in bs volts ≡ Ok letter)
        → (letter : ℕ) × (pick t (Ok b.letter) (class_in bs volts) ≡ Ok letter)
    first true later = (b.letter, refl)
    first false later = later
