-- The rows of a class table's image. Assumes nothing.
use mathlib.Core.Path.{◌≡◌, refl, ◌∙◌, sym, ap}
use mathlib.Core.Bool.{Bool, true, false}
use mathlib.Core.List.{List, [], ◌∷◌}
use Prim.Native.Nat.{ℕ, suc, ◌+◌, ◌-◌, ◌*◌, min, ◌≤◌, ◌<◌}
use native.Mathlib.Numerals.{add-one}
use native.Mathlib.Omega.{arith}
use lib.Dec.{eqb}
use lib.ListN.{length}
use borrow.Author.Tests.{eq-eqb, ne_eqb, eqb-true}
use Rattle.outcome.specs.Answer.{bad_profile, pick}
use Rattle.outcome.specs.Result.{Ok, Err}
use Rattle.std.proofs.lemmas.Grind.{common_steps}
use Rattle.words.specs.Words.{word_at}
use Rattle.profile.specs.Rules.{Class, classes, contains, class_in}
use Rattle.profile.specs.Table.{most_rows, row_size, table_size, rows_used, row_at, rows_from, table_of}

-- ---- how many are used

pub other_size : (image : List ℕ) → (length image ≡ table_size → ⊥) → rows_used image ≡ 0
unfolding rows_used
other_size image h = rw (ne_eqb (length image) table_size h)

pub right_size : (image : List ℕ) → length image ≡ table_size → rows_used image ≡ min (word_at image 0) most_rows
unfolding rows_used
right_size image h = rw (eq-eqb (length image) table_size h)

pub few_used : (image : List ℕ) → rows_used image ≤ most_rows
unfolding rows_used
few_used image = go (eqb (length image) table_size)
  where
    go : (b : Bool) → pick b (min (word_at image 0) most_rows) 0 ≤ most_rows
    go true = omega arith
    go false = omega arith

pub ruleset sizes = (common_steps, other_size, right_size)

-- rows that are used have room in the image
pub rows_room : (image : List ℕ) → 0 < rows_used image → 4 + row_size * rows_used image ≤ length image
unfolding rows_used
rows_room image h = go (eqb (length image) table_size) refl h
  where
    go : (b : Bool) → eqb (length image) table_size ≡ b → 0 < pick b (min (word_at image 0) most_rows) 0
        → 4 + row_size * pick b (min (word_at image 0) most_rows) 0 ≤ length image
    go true e h = omega (arith, eqb-true (length image) table_size e)
    go false e h = absurd (omega arith)

-- ---- the rows, one after the other

pub next_row : (image : List ℕ) (i n : ℕ) → i < n
    → rows_from image i (n - i) ≡ row_at image (4 + row_size * i) ∷ rows_from image (i + 1) (n - (i + 1))
unfolding rows_from
next_row image i n h = let more : n - i ≡ suc (n - (i + 1)) = omega arith in rw (more, add-one)

pub no_row : (image : List ℕ) (i n : ℕ) → n ≤ i → rows_from image i (n - i) ≡ []
unfolding rows_from
no_row image i n h = let none : n - i ≡ 0 = omega arith in rw none

pub ruleset row_by_row = (common_steps, next_row, no_row)

-- ---- the classes that they mean

pub no_rows : (image : List ℕ) → rows_used image ≡ 0 → table_of image ≡ classes
unfolding table_of
no_rows image e = rw e

pub some_rows : (image : List ℕ) → (rows_used image ≡ 0 → ⊥) → table_of image ≡ rows_from image 0 (rows_used image)
unfolding table_of
some_rows image h = rw (ne_eqb (rows_used image) 0 h)

pub ruleset meanings = (common_steps, no_rows, some_rows, rows_room)

-- ---- rows that are asked one after the other

-- what the rows from place i on answer is what all answer
abbrev pub RestAnswers : {A : Type 0} → (List Class → A) → List ℕ → ℕ → ℕ → Type 0
RestAnswers asked image n i = asked (rows_from image i (n - i)) ≡ asked (rows_from image 0 n)

module _ {A : Type 0} (asked : List Class → A) (image : List ℕ) (n : ℕ) where
  pub rest_first : RestAnswers asked image n 0
  rest_first = let all : n - 0 ≡ n = omega arith in ap (λ (m : ℕ). asked (rows_from image 0 m)) all

  module _ (i : ℕ) (before : RestAnswers asked image n i) where
    abbrev row : Class
    row = row_at image (4 + row_size * i)

    -- the row answers for itself and those behind it
    pub rest_here : {a : A} → i < n → ((cs : List Class) → asked (row ∷ cs) ≡ a) → a ≡ asked (rows_from image 0 n)
    rest_here h here =
        sym (here (rows_from image (i + 1) (n - (i + 1)))) ∙ sym (ap asked (next_row image i n h)) ∙ before

    -- the row leaves the answer to those behind it
    pub rest_later : i < n → ((cs : List Class) → asked (row ∷ cs) ≡ asked cs) → RestAnswers asked image n (i + 1)
    rest_later h other =
        sym (other (rows_from image (i + 1) (n - (i + 1)))) ∙ sym (ap asked (next_row image i n h)) ∙ before

    pub rest_none : n ≤ i → asked [] ≡ asked (rows_from image 0 n)
    rest_none h = sym (ap asked (no_row image i n h)) ∙ before

-- ---- the class of volts, row by row

-- what is found in the rows from place i on is what is found in all
abbrev pub Found : List ℕ → ℕ → ℕ → ℕ → Type 0
Found image n volts i = RestAnswers (λ cs. class_in cs volts) image n i

module _ (image : List ℕ) (n volts : ℕ) where
  pub found_first : Found image n volts 0
  found_first = rest_first (λ cs. class_in cs volts) image n

  module _ (i : ℕ) (before : Found image n volts i) where
    pub found_here : i < n → contains (row_at image (4 + row_size * i)).volts volts ≡ true
        → Ok (word_at image (4 + row_size * i)) ≡ class_in (rows_from image 0 n) volts
    found_here h here = rest_here (λ cs. class_in cs volts) image n i before h (λ cs. rw here refl)

    pub found_later : i < n → contains (row_at image (4 + row_size * i)).volts volts ≡ false → Found image n volts (i + 1)
    found_later h other = rest_later (λ cs. class_in cs volts) image n i before h (λ cs. rw other refl)

    pub found_nowhere : n ≤ i → Err bad_profile ≡ class_in (rows_from image 0 n) volts
    found_nowhere h = rest_none (λ cs. class_in cs volts) image n i before h
