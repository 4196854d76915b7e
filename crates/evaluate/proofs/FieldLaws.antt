-- Laws of closed lines, and of a line cut into fields at its commas. Assumes nothing.
use mathlib.Core.Path.{◌≡◌, refl, ◌∙◌, sym, ap}
use mathlib.Core.Bool.{Bool, true, false, cond, not}
use mathlib.Core.List.{List, [], ◌∷◌}
use Prim.Native.Nat.{ℕ, suc, ◌+◌, ◌≤◌, ◌<◌}
use native.Mathlib.Nat.{zero-add}
use native.Mathlib.Omega.{arith}
use borrow.Author.Tests.{ltb-false, eqb-true, eqb-false, eq-eqb, ne_eqb}
use lib.Dec.{eqb, ltb}
use lib.ListN.{length, get_or}
use Rattle.std.specs.Prelude.{Some, None, Option}
use Rattle.std.specs.List.{position_or_len, slice_split, onto_first, enumerate_from}
use Rattle.std.proofs.lemmas.List.FromFn.{length-enumerate_from, get_or-enumerate_from}
use Rattle.outcome.specs.Answer.{pick}
use Rattle.profile.specs.Line.{comma, line_feed}
use Rattle.evaluate.specs.Evaluate.{is_closed, longer, fields}

-- ---- closed lines

-- the place of the first LF
abbrev first_feed : List ℕ → ℕ
first_feed = position_or_len (λ b. eqb b line_feed)

-- two comparisons of which each implies the other are the same test
same_test : (a b c d : ℕ) → (a ≡ b → c ≡ d) → (c ≡ d → a ≡ b) → eqb a b ≡ eqb c d
same_test a b c d to from = at (eqb a b) refl
  where
    at : (t : Bool) → eqb a b ≡ t → t ≡ eqb c d
    at true e = sym (eq-eqb c d (to (eqb-true a b e)))
    at false e = sym (ne_eqb c d (λ f. eqb-false a b e (from f)))

-- the first LF is the last byte
closed_place : (input : List ℕ) → eqb (first_feed input + 1) (length input) ≡ is_closed input
unfolding is_closed
closed_place [] = refl
closed_place (b ∷ bytes) = at (closed_place bytes) (eqb b line_feed)
  where
    at : eqb (first_feed bytes + 1) (length bytes) ≡ is_closed bytes → (t : Bool) → eqb (cond (not t) (1 + first_feed bytes) 0 + 1) (suc (length bytes))
        ≡ pick t (eqb (length bytes) 0) (is_closed bytes)
    at rest true = same_test 1 (suc (length bytes)) (length bytes) 0 (λ e. omega arith) (λ e. omega arith)
    at rest false =
        same_test (1 + first_feed bytes + 1) (suc (length bytes)) (first_feed bytes + 1) (length bytes) (λ e. omega arith)
        (λ e. omega arith)
        ∙ rest

module _ (input : List ℕ) where
  -- where an LF was found
  pub closed_found : (i : ℕ)
      → ◌≡◌ {A = Option ℕ} (Some i) (cond (ltb (first_feed input) (length input)) (Some (first_feed input)) None)
      → eqb (i + 1) (length input) ≡ is_closed input
  closed_found i e = at (ltb (first_feed input) (length input)) e
    where
      at : (t : Bool) → ◌≡◌ {A = Option ℕ} (Some i) (cond t (Some (first_feed input)) None)
          → eqb (i + 1) (length input) ≡ is_closed input
      at true e = let same : i ≡ first_feed input = cc in rw same (closed_place input)
      at false e = cc

  -- where none was
  pub closed_never : ◌≡◌ {A = Option ℕ} None (cond (ltb (first_feed input) (length input)) (Some (first_feed input)) None)
      → false ≡ is_closed input
  closed_never e = at (ltb (first_feed input) (length input)) refl e
    where
      at : (t : Bool) → ltb (first_feed input) (length input) ≡ t
          → ◌≡◌ {A = Option ℕ} None (cond t (Some (first_feed input)) None) → false ≡ is_closed input
      at true f e = cc
      at false f e =
          let far : length input ≤ first_feed input = ltb-false (first_feed input) (length input) f in
          sym (ne_eqb (first_feed input + 1) (length input) (λ same. omega arith)) ∙ closed_place input

-- ---- fields

-- a byte more at the front of the first field, as the library has it
front_longer : (b : ℕ) (fs : List (List ℕ)) → longer b fs ≡ onto_first b fs
front_longer b [] = refl
front_longer b (f ∷ fs) = refl

-- the fields are what the library cuts at the commas
pub fields_split : (input : List ℕ) → slice_split (λ b. eqb b comma) input ≡ fields input
unfolding fields
fields_split [] = refl
fields_split (b ∷ bytes) = at (fields_split bytes) (eqb b comma)
  where
    at : slice_split (λ c. eqb c comma) bytes ≡ fields bytes → (t : Bool) → cond t ([] ∷ slice_split (λ c. eqb c comma) bytes) (onto_first b (slice_split (λ c. eqb c comma) bytes))
        ≡ pick t ([] ∷ fields bytes) (longer b (fields bytes))
    at rest true = ap (λ (fs : List (List ℕ)). [] ∷ fs) rest
    at rest false = ap (onto_first b) rest ∙ sym (front_longer b (fields bytes))

-- the bytes of some fields, with a comma each
abbrev pub size : List (List ℕ) → ℕ
size [] = 0
size (f ∷ fs) = length f + 1 + size fs

size_longer : (b : ℕ) (fs : List (List ℕ)) → 1 ≤ length fs → size (longer b fs) ≡ size fs + 1
size_longer b [] h = absurd (omega arith)
size_longer b (f ∷ fs) h = omega arith

-- there is a field then
longer_some : (b : ℕ) (fs : List (List ℕ)) → 1 ≤ length (longer b fs)
longer_some b [] = omega arith
longer_some b (f ∷ fs) = omega arith

-- there is always a field
pub some_field : (bytes : List ℕ) → 1 ≤ length (fields bytes)
unfolding fields
some_field [] = omega arith
some_field (b ∷ bytes) = at (eqb b comma)
  where
    at : (t : Bool) → 1 ≤ length (pick t ([] ∷ fields bytes) (longer b (fields bytes)))
    at true = omega arith
    at false = longer_some b (fields bytes)

-- the input's fields have its bytes and one comma more
pub fields_size : (input : List ℕ) → size (fields input) ≡ length input + 1
unfolding fields
fields_size [] = refl
fields_size (b ∷ bytes) = at (fields_size bytes) (eqb b comma)
  where
    at : size (fields bytes) ≡ length bytes + 1 → (t : Bool) → size (pick t ([] ∷ fields bytes) (longer b (fields bytes))) ≡ length (b ∷ bytes) + 1
    at rest true = omega arith
    at rest false = omega (arith, size_longer b (fields bytes) (some_field bytes))

-- the item of a turn of a loop over the fields and their numbers: the field of that number
pub record Item (input : List ℕ) (turns k : ℕ) (f : List ℕ) : Type 0 where
  pub inside : turns < length (fields input)
  pub number : k ≡ turns
  pub bytes : f ≡ get_or (fields input) turns f

pub item_at : (input : List ℕ) (turns k : ℕ) (f : List ℕ)
    → (turns < length (enumerate_from 0 (slice_split (λ b. eqb b comma) input)))
    × ◌≡◌ {A = ℕ × List ℕ} (k, f) (get_or (enumerate_from 0 (slice_split (λ b. eqb b comma) input)) turns (k, f))
    → Item input turns k f
item_at input turns k f (inside, same) =
    let cut : slice_split (λ b. eqb b comma) input ≡ fields input = fields_split input in
    let within : turns < length (fields input) = rw (length-enumerate_from, cut) at inside in
    let both : ◌≡◌ {A = ℕ × List ℕ} (k, f) (0 + turns, get_or (fields input) turns f) =
    (rw cut at same) ∙ get_or-enumerate_from 0 (fields input) turns (k, f) within in
    record { inside = within; number = ap (λ (p : ℕ × List ℕ). p.0) both ∙ zero-add turns; bytes = ap (λ (p : ℕ × List ℕ). p.1) both }

-- after the last turn all fields were items
pub all_items : (input : List ℕ) (turns : ℕ) → turns ≡ length (enumerate_from 0 (slice_split (λ b. eqb b comma) input))
    → length (fields input) ≤ turns
all_items input turns e =
    omega (arith, length-enumerate_from 0 (slice_split (λ b. eqb b comma) input), ap length (fields_split input))
