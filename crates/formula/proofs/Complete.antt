-- What stands there is found: a tree's text, where nothing that follows could belong to it, is read as that tree. By induction
-- on the trees; of a sum or a product it is shown that reading arrives behind it with turns left for all that follows.
-- Assumes nothing.
use mathlib.Core.Path.{◌≡◌, refl, ◌∙◌, sym, ap, subst}
use mathlib.Core.Bool.{true, false, false≢true}
use mathlib.Core.List.{List, [], ◌∷◌, ◌++◌, append_assoc}
use Prim.Native.Nat.{ℕ, zero, suc, ◌≤◌}
use native.Mathlib.Omega.{arith}
use lib.Dec.{eqb}
use lib.ListN.{length}
use borrow.Author.Tests.{ne_eqb}
use Rattle.decimal.specs.Decimal.{decimal, is_digit}
use Rattle.formula.specs.Grammar.{
  Additive,
  Multiplicative,
  Sum,
  only,
  add,
  Product,
  single,
  scale,
  Atom,
  number,
  nominal,
  group,
  opening,
  closing,
  letter_n,
  most_number,
  additive_byte,
  multiplicative_byte,
  sum_text,
  product_text,
  atom_text,
  sum_within,
  product_within,
  atom_within,
  is_additive,
  is_multiplicative,
  additive,
  multiplicative,
}
use Rattle.formula.specs.Reader.{
  found,
  read_number,
  closed,
  atom_with,
  scale_by,
  add_by,
  product_with,
  sum_with,
  read_group,
  read_atom,
  read_product,
  read_sum,
}
use Rattle.formula.proofs.NumberLaws.{starts, number_complete, number_starts}
use Rattle.formula.proofs.ChainLaws.{Arrives, arrives_found, arrives_grown}
use Rattle.formula.proofs.OperatorLaws.{
  of_additive,
  is_additive_lem,
  additive_digit,
  additive_other,
  of_multiplicative,
  is_multiplicative_lem,
  multiplicative_digit,
}

-- reading a sum's text arrives behind it, with the sum
abbrev SumRead : ℕ → Sum → List ℕ → Type 0
SumRead pairs = Arrives is_additive add_by (read_product pairs) (read_sum pairs) sum_text

-- and so for a product
abbrev ProductRead : ℕ → Product → List ℕ → Type 0
ProductRead pairs = Arrives is_multiplicative scale_by (read_atom pairs) (read_product pairs) product_text

-- where no operator of its level follows, it is found
sum_found : (pairs : ℕ) (s : Sum) (rest : List ℕ) → starts is_additive rest ≡ false → SumRead pairs s rest
    → read_sum pairs (sum_text s ++ rest) ≡ found s rest
sum_found pairs = arrives_found is_additive add_by (read_product pairs) (read_sum pairs) sum_text product_text

product_found : (pairs : ℕ) (p : Product) (rest : List ℕ) → starts is_multiplicative rest ≡ false
    → ProductRead pairs p rest → read_product pairs (product_text p ++ rest) ≡ found p rest
product_found pairs = arrives_found is_multiplicative scale_by (read_atom pairs) (read_product pairs) product_text atom_text

-- ---- one step for each kind of tree

-- a sum of one product
only_read : (pairs : ℕ) (p : Product) (rest : List ℕ) → read_product pairs (product_text p ++ rest) ≡ found p rest
    → SumRead pairs (only p) rest
unfolding sum_text sum_with
only_read pairs p rest e = (length rest, omega arith, rw e)

-- a sum, an operator and a product
add_read : (pairs : ℕ) (s : Sum) (o : Additive) (p : Product) (rest : List ℕ)
    → read_product pairs (product_text p ++ rest) ≡ found p rest
    → SumRead pairs s (additive_byte o ∷ (product_text p ++ rest)) → SumRead pairs (add s o p) rest
unfolding sum_text
add_read pairs s o p rest e read =
    let b : ℕ = additive_byte o in
    let grown : SumRead pairs (add s (additive b) p) rest =
    arrives_grown is_additive add_by (read_product pairs) (read_sum pairs) sum_text product_text s b p rest (is_additive_lem o)
    (ap (λ (q : Additive). sum_text s ++ (additive_byte q ∷ product_text p)) (of_additive o)) e read in
    subst (λ (q : Additive). SumRead pairs (add s q p) rest) (of_additive o) grown

-- a product of one atom, and a product, an operator and an atom, alike
single_read : (pairs : ℕ) (a : Atom) (rest : List ℕ) → read_atom pairs (atom_text a ++ rest) ≡ found a rest
    → ProductRead pairs (single a) rest
unfolding product_text product_with
single_read pairs a rest e = (length rest, omega arith, rw e)

scale_read : (pairs : ℕ) (p : Product) (o : Multiplicative) (a : Atom) (rest : List ℕ)
    → read_atom pairs (atom_text a ++ rest) ≡ found a rest
    → ProductRead pairs p (multiplicative_byte o ∷ (atom_text a ++ rest)) → ProductRead pairs (scale p o a) rest
unfolding product_text
scale_read pairs p o a rest e read =
    let b : ℕ = multiplicative_byte o in
    let grown : ProductRead pairs (scale p (multiplicative b) a) rest =
    arrives_grown is_multiplicative scale_by (read_atom pairs) (read_product pairs) product_text atom_text p b a rest
    (is_multiplicative_lem o)
    (ap (λ (q : Multiplicative). product_text p ++ (multiplicative_byte q ∷ atom_text a)) (of_multiplicative o)) e read in
    subst (λ (q : Multiplicative). ProductRead pairs (scale p q a) rest) (of_multiplicative o) grown

-- a digit is not a byte that is none
digit_not : (b c : ℕ) → is_digit b ≡ true → is_digit c ≡ false → eqb b c ≡ false
digit_not b c d e = ne_eqb b c (λ same. false≢true (sym e ∙ ap is_digit (sym same) ∙ d))

-- bytes that start with a digit are an atom where they are a number
digits_atom : (pairs : ℕ) (bytes : List ℕ) (n : ℕ) (rest : List ℕ) → starts is_digit bytes ≡ true
    → read_number bytes ≡ found n rest → read_atom pairs bytes ≡ found (number n) rest
unfolding atom_with
digits_atom pairs [] n rest d e = absurd (false≢true d)
digits_atom pairs (b ∷ bytes) n rest d e = rw (digit_not b letter_n d refl, digit_not b opening d refl, e)

-- a number is an atom
number_read : (pairs n : ℕ) (rest : List ℕ) → n ≤ most_number → starts is_digit rest ≡ false
    → read_atom pairs (decimal n ++ rest) ≡ found (number n) rest
number_read pairs n rest h stop =
    digits_atom pairs (decimal n ++ rest) n rest (number_starts n rest) (number_complete n rest h stop)

-- a sum in parentheses is an atom, with one pair more
group_read : (pairs : ℕ) (s : Sum) (rest : List ℕ) → SumRead pairs s (closing ∷ rest)
    → read_atom (suc pairs) (atom_text (group s) ++ rest) ≡ found (group s) rest
unfolding atom_text atom_with read_group closed
group_read pairs s rest read =
    rw (append_assoc (sum_text s) (closing ∷ []) rest, sum_found pairs s (closing ∷ rest) refl read)

-- ---- all trees

mutual
  unfolding sum_text sum_within atom_with

  sum_complete : (s : Sum) (pairs : ℕ) → sum_within s pairs → (rest : List ℕ) → starts is_digit rest ≡ false
      → starts is_multiplicative rest ≡ false → SumRead pairs s rest
  sum_complete (only p) pairs k rest d m =
      only_read pairs p rest (product_found pairs p rest m (product_complete p pairs k rest d))
  sum_complete (add s o p) pairs k rest d m =
      add_read pairs s o p rest
      (product_found pairs p rest m (product_complete p pairs k.1 rest d))
      (sum_complete s pairs k.0 (additive_byte o ∷ (product_text p ++ rest)) (additive_digit o) (additive_other o))

  product_complete : (p : Product) (pairs : ℕ) → product_within p pairs → (rest : List ℕ) → starts is_digit rest ≡ false
      → ProductRead pairs p rest
  product_complete (single a) pairs k rest d = single_read pairs a rest (atom_complete a pairs k rest d)
  product_complete (scale p o a) pairs k rest d =
      scale_read pairs p o a rest
      (atom_complete a pairs k.1 rest d)
      (product_complete p pairs k.0 (multiplicative_byte o ∷ (atom_text a ++ rest)) (multiplicative_digit o))

  atom_complete : (a : Atom) (pairs : ℕ) → atom_within a pairs → (rest : List ℕ) → starts is_digit rest ≡ false
      → read_atom pairs (atom_text a ++ rest) ≡ found a rest
  atom_complete (number n) pairs k rest d = number_read pairs n rest k d
  atom_complete nominal pairs k rest d = refl
  atom_complete (group s) zero k rest d = absurd k
  atom_complete (group s) (suc pairs) k rest d =
      group_read pairs s rest (sum_complete s pairs k (closing ∷ rest) refl refl)

-- a sum within the limits is found where its text ends the bytes
pub whole_sum_lem : (s : Sum) (pairs : ℕ) → sum_within s pairs → read_sum pairs (sum_text s ++ []) ≡ found s []
whole_sum_lem s pairs k = sum_found pairs s [] refl (sum_complete s pairs k [] refl refl)
