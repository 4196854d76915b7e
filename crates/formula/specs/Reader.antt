-- Reading a formula, as a function on bytes: the tree at the front of some bytes, and what follows it. What it finds is
-- what the grammar derives, and all of that (Theorems).
-- Assumes nothing.
use Rattle.std.specs.Prelude.{Bool, ◌&&◌, List, [], ◌∷◌, ℕ, zero, suc, eqb, leb, length, ℤ}
use Rattle.outcome.specs.Answer.{bad_formula, pick}
use Rattle.outcome.specs.Result.{Result, Ok, Err}
use Rattle.outcome.specs.Lists.{same}
use Rattle.decimal.specs.Decimal.{decimal, leading_digits, leading_number, after_number}
use Rattle.formula.specs.Grammar.{
  Sum,
  only,
  add,
  Product,
  single,
  scale,
  Atom,
  number,
  nominal,
  group,
  Formula,
  sum,
  negative,
  opening,
  closing,
  letter_n,
  dash,
  most_number,
  deepest,
  longest_formula,
  formula_value,
  is_additive,
  is_multiplicative,
  additive,
  multiplicative,
}

-- what stands at the front of some bytes, and the bytes after it; or nothing of the kind
pub data Front (A : Type 0) : Type 0 where
  found : A → List ℕ → Front A
  none : Front A

-- go on behind what was found
abbrev pub after : {A B : Type 0} → Front A → (A → List ℕ → Front B) → Front B
after (found a rest) k = k a rest
after none k = none

-- a number without leading zeros, at most the greatest
unfoldable pub read_number : List ℕ → Front ℕ
read_number bytes =
    let n : ℕ = leading_number bytes in
    pick (same (leading_digits bytes) (decimal n) && leb n most_number) (found n (after_number bytes)) none

-- Items with operators between them, from left to right: to what was found so far, each operator and item is added. Every turn
-- takes a byte or more, so that no more turns than bytes are left are needed.
module _ {A B : Type 0} (is_operator : ℕ → Bool) (grow : A → ℕ → B → A) (item : List ℕ → Front B) where
  unfoldable pub chain : ℕ → A → List ℕ → Front A
  chain zero a bytes = found a bytes
  chain (suc turns) a [] = found a []
  chain (suc turns) a (b ∷ bytes) =
      pick (is_operator b) (after (item bytes) (λ x rest. chain turns (grow a b x) rest)) (found a (b ∷ bytes))

-- a closing parenthesis must follow
unfoldable pub closed : Sum → List ℕ → Front Atom
closed s [] = none
closed s (b ∷ bytes) = pick (eqb b closing) (found (group s) bytes) none

-- an atom, where `inner` reads what stands in parentheses
unfoldable pub atom_with : (List ℕ → Front Sum) → List ℕ → Front Atom
atom_with inner [] = none
atom_with inner (b ∷ bytes) =
    pick (eqb b letter_n) (found nominal bytes)
    (pick (eqb b opening) (after (inner bytes) closed) (after (read_number (b ∷ bytes)) (λ n rest. found (number n) rest)))

abbrev pub scale_by : Product → ℕ → Atom → Product
scale_by p b a = scale p (multiplicative b) a

abbrev pub add_by : Sum → ℕ → Product → Sum
add_by s b p = add s (additive b) p

unfoldable pub product_with : (List ℕ → Front Atom) → List ℕ → Front Product
product_with item bytes =
    after (item bytes) (λ a rest. chain is_multiplicative scale_by item (length rest) (single a) rest)

unfoldable pub sum_with : (List ℕ → Front Product) → List ℕ → Front Sum
sum_with item bytes = after (item bytes) (λ p rest. chain is_additive add_by item (length rest) (only p) rest)

-- what may stand in parentheses, where so many pairs may open: with none, nothing
unfoldable pub read_group : ℕ → List ℕ → Front Sum
read_group zero bytes = none
read_group (suc pairs) bytes = sum_with (product_with (atom_with (read_group pairs))) bytes

abbrev pub read_atom : ℕ → List ℕ → Front Atom
read_atom pairs = atom_with (read_group pairs)

abbrev pub read_product : ℕ → List ℕ → Front Product
read_product pairs = product_with (read_atom pairs)

abbrev pub read_sum : ℕ → List ℕ → Front Sum
read_sum pairs = sum_with (read_product pairs)

-- nothing follows
abbrev pub whole_sum : Front Sum → Result Formula
whole_sum (found s []) = Ok (sum s)
whole_sum (found s (b ∷ bytes)) = Err bad_formula
whole_sum none = Err bad_formula

abbrev pub whole_negative : Front ℕ → Result Formula
whole_negative (found n []) = pick (eqb n 0) (Err bad_formula) (Ok (negative n))
whole_negative (found n (b ∷ bytes)) = Err bad_formula
whole_negative none = Err bad_formula

-- a field that begins with a minus is a negative number, any other a sum
unfoldable pub read_short : List ℕ → Result Formula
read_short [] = Err bad_formula
read_short (b ∷ bytes) =
    pick (eqb b dash) (whole_negative (read_number bytes)) (whole_sum (read_sum deepest (b ∷ bytes)))

unfoldable pub read_formula : List ℕ → Result Formula
read_formula field = pick (leb (length field) longest_formula) (read_short field) (Err bad_formula)

-- what a field is worth at these nominal volts
abbrev pub value_in : ℕ → Result Formula → Result ℤ
value_in volts (Ok f) = formula_value f volts
value_in volts (Err r) = Err r

unfoldable pub value_of : ℕ → List ℕ → Result ℤ
value_of volts field = value_in volts (read_formula field)
