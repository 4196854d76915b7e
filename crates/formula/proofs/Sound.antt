-- What the readers find stands there: its text and the bytes after it are the bytes read, and it is within the limits.
-- Assumes nothing.
use mathlib.Core.Path.{◌≡◌, refl, ◌∙◌, sym, ap}
use mathlib.Core.Bool.{Bool, true, false}
use mathlib.Core.List.{List, [], ◌∷◌, ◌++◌, append_assoc}
use Prim.Native.Nat.{ℕ, zero, suc, ◌≤◌}
use lib.Dec.{eqb}
use borrow.Author.Tests.{eqb-true}
use Rattle.outcome.specs.Answer.{pick}
use Rattle.decimal.specs.Decimal.{decimal}
use Rattle.formula.specs.Grammar.{
  Sum,
  only,
  single,
  Atom,
  number,
  nominal,
  group,
  opening,
  closing,
  letter_n,
  most_number,
  sum_text,
  product_text,
  atom_text,
  sum_within,
  product_within,
  atom_within,
  is_additive,
  is_multiplicative,
}
use Rattle.formula.specs.Reader.{
  Front,
  found,
  none,
  after,
  read_number,
  closed,
  atom_with,
  scale_by,
  add_by,
  product_with,
  sum_with,
  read_group,
  read_atom,
  read_product,
  read_sum,
}
use Rattle.formula.proofs.NumberLaws.{found_same, none_found, number_sound}
use Rattle.formula.proofs.ChainLaws.{first_sound}
use Rattle.formula.proofs.OperatorLaws.{byte_additive, byte_multiplicative}

-- a reader finds only what stands there, with these texts and within these limits
abbrev pub ReadsSound : {A : Type 0} → (List ℕ → Front A) → (A → List ℕ) → (A → Type 0) → Type 0
ReadsSound {A} reader text ok =
    (bytes rest : List ℕ) (a : A) → reader bytes ≡ found a rest → (text a ++ rest ≡ bytes) × ok a

-- a closing parenthesis was there
closed_sound : (s : Sum) (bytes rest : List ℕ) (a : Atom) → closed s bytes ≡ found a rest
    → (group s ≡ a) × (bytes ≡ closing ∷ rest)
unfolding closed
closed_sound s [] rest a e = absurd (none_found e)
closed_sound s (b ∷ bytes) rest a e = by_test (eqb b closing) refl e
  where
    by_test : (t : Bool) → eqb b closing ≡ t → pick t (found (group s) bytes) none ≡ found a rest
        → (group s ≡ a) × (b ∷ bytes ≡ closing ∷ rest)
    by_test true f e = ((found_same e).0, rw (eqb-true b closing f, (found_same e).1))
    by_test false f e = absurd (none_found e)

module _ (pairs : ℕ) (inner_sound : ReadsSound (read_group pairs) sum_text (λ s. atom_within (group s) pairs)) where
  -- an atom, where what is read in parentheses stands there
  atom_sound : ReadsSound (read_atom pairs) atom_text (λ a. atom_within a pairs)
  unfolding atom_with atom_text atom_within
  atom_sound [] rest a e = absurd (none_found e)
  atom_sound (b ∷ bytes) rest a e =
      by_tests (eqb b letter_n) (eqb b opening) refl refl (read_group pairs bytes) refl (read_number (b ∷ bytes)) refl e
    where
      by_tests : (t u : Bool) → eqb b letter_n ≡ t → eqb b opening ≡ u → (g : Front Sum) → read_group pairs bytes ≡ g
          → (m : Front ℕ) → read_number (b ∷ bytes) ≡ m
          → pick t (found nominal bytes) (pick u (after g closed) (after m (λ n behind. found (number n) behind)))
          ≡ found a rest
          → (atom_text a ++ rest ≡ b ∷ bytes) × atom_within a pairs
      by_tests true u et eu g eg m em e =
          let same : (nominal ≡ a) × (bytes ≡ rest) = found_same e in
          (rw (← same.0, ← same.1, eqb-true b letter_n et), rw (← same.0) tt)
      by_tests false true et eu (found s behind) eg m em e =
          let ends : (group s ≡ a) × (behind ≡ closing ∷ rest) = closed_sound s behind rest a e in
          let it : (sum_text s ++ behind ≡ bytes) × atom_within (group s) pairs = inner_sound bytes behind s eg in
          let text : sum_text s ++ (closing ∷ []) ++ rest ≡ bytes =
          append_assoc (sum_text s) (closing ∷ []) rest ∙ ap (λ (l : List ℕ). sum_text s ++ l) (sym ends.1) ∙ it.0 in
          (rw (← ends.0, eqb-true b opening eu) (ap (λ (l : List ℕ). opening ∷ l) text), rw (← ends.0) it.1)
      by_tests false true et eu none eg m em e = absurd (none_found e)
      by_tests false false et eu g eg (found n behind) em e =
          let same : (number n ≡ a) × (behind ≡ rest) = found_same e in
          let it : (decimal n ++ behind ≡ b ∷ bytes) × (n ≤ most_number) = number_sound (b ∷ bytes) behind n em in
          (rw (← same.0, ← same.1) it.0, rw (← same.0) it.1)
      by_tests false false et eu g eg none em e = absurd (none_found e)

  -- atoms with operators between them
  product_sound : ReadsSound (read_product pairs) product_text (λ p. product_within p pairs)
  unfolding product_with product_text product_within
  product_sound =
      first_sound is_multiplicative scale_by (read_atom pairs) product_text atom_text (λ p. product_within p pairs)
      (λ a. atom_within a pairs) atom_sound
      (λ p b a o. ap (λ (c : ℕ). product_text p ++ (c ∷ atom_text a)) (byte_multiplicative b o)) (λ p b a h k. (h, k))
      single (λ a. refl) (λ a h. h)

  -- products with operators between them
  sum_sound : ReadsSound (read_sum pairs) sum_text (λ s. sum_within s pairs)
  unfolding sum_with sum_text sum_within
  sum_sound =
      first_sound is_additive add_by (read_product pairs) sum_text product_text (λ s. sum_within s pairs)
      (λ p. product_within p pairs) product_sound
      (λ s b p o. ap (λ (c : ℕ). sum_text s ++ (c ∷ product_text p)) (byte_additive b o)) (λ s b p h k. (h, k))
      only (λ p. refl) (λ p h. h)

-- what stands in parentheses, with one pair fewer
group_sound : (pairs : ℕ) → ReadsSound (read_group pairs) sum_text (λ s. atom_within (group s) pairs)
unfolding read_group atom_within
group_sound zero bytes rest s e = absurd (none_found e)
group_sound (suc pairs) bytes rest s e = sum_sound pairs (group_sound pairs) bytes rest s e

-- a sum that is found stands there
pub sum_reads_sound : (pairs : ℕ) → ReadsSound (read_sum pairs) sum_text (λ s. sum_within s pairs)
sum_reads_sound pairs = sum_sound pairs (group_sound pairs)
