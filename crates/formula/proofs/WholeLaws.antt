-- Where something follows a part that was read the field is no formula; and what a field is worth, by its length and its
-- first byte. Assumes nothing.
use mathlib.Core.Path.{◌≡◌, refl, ◌∙◌, sym, ap}
use mathlib.Core.Bool.{Bool, true, false, false≢true, and-eq-true_iff, and-true}
use mathlib.Core.List.{List, [], ◌∷◌}
use Prim.Native.Nat.{ℕ, suc, ◌≤◌, ◌<◌}
use native.Mathlib.Omega.{arith}
use borrow.Author.Tests.{le-leb, lt-leb}
use lib.Dec.{eqb}
use lib.Pointwise.{pointwise}
use lib.IntN.{ℤ}
use lib.ListN.{length, take, drop, get_or}
use lib.Seq.{drop-cons}
use Rattle.std.specs.Prelude.{Some}
use Rattle.outcome.specs.Answer.{bad_formula, pick}
use Rattle.outcome.specs.Result.{Result, Ok, Err}
use Rattle.formula.specs.Grammar.{Sum, negative, dash, deepest, longest_formula}
use Rattle.formula.specs.Reader.{Front, found, none, read_number, atom_with, product_with, sum_with, whole_negative, whole_sum, read_short, read_formula, value_in, value_of}
use Rattle.formula.specs.InnerReader.{PartAt, NumberPart, SumAt, NegativeOf, SumOf}
use Rattle.formula.specs.Meaning.{Evaluates}
use Rattle.formula.proofs.ReaderLaws.{Found, was_found}

-- ---- something follows what was read

-- something follows what was found
record Longer {A : Type 0} (front : Front A) : Type 0 where
  item : A
  next : ℕ
  rest : List ℕ
  is : front ≡ found item (next ∷ rest)

-- so it is where a part ends before the end
read_longer : {A B : Type 0} {value : A → B} {front : Front A} {s : List ℕ} {at : ℕ} {w : B} {end : ℕ}
    → PartAt value front s at (Some (w, end)) → (end ≡ length s → ⊥) → Longer front
read_longer {A} {B} {value} {front} {s} {at} {w} {end} part h =
    let inside : end ≤ length s = part.ends.1 in
    let what : Found value front w (drop end s) = was_found value front part.read in
    record {
      item = what.got;
      next = get_or s end 0;
      rest = drop (suc end) s;
      is = what.is ∙ ap (found what.got) (drop-cons s end 0 (omega arith));
    }

-- a plain negative number that something follows
pub negative_longer : (digits : List ℕ) {n end : ℕ} → NumberPart digits 0 (Some (n, end)) → (end ≡ length digits → ⊥)
    → NegativeOf digits (Err bad_formula)
negative_longer digits part h =
    record { worth = sym (ap (λ (f : Front ℕ). value_in 0 (whole_negative f)) (read_longer part h).is); small = tt }

-- a sum that something follows
pub sum_longer : (volts : ℕ) (field : List ℕ) {w : Result ℤ} {end : ℕ} → SumAt volts deepest field 0 (Some (w, end))
    → (end ≡ length field → ⊥) → SumOf volts field (Err bad_formula)
sum_longer volts field part h =
    record { worth = sym (ap (λ (f : Front Sum). value_in volts (whole_sum f)) (read_longer part h).is); small = tt }

-- ---- a whole field

-- a negative number is worth the same at all volts
negative_any : (volts : ℕ) (front : Front ℕ) → value_in volts (whole_negative front) ≡ value_in 0 (whole_negative front)
negative_any volts none = refl
negative_any volts (found n []) = at (eqb n 0)
  where
    at : (t : Bool) → value_in volts (pick t (Err bad_formula) (Ok (negative n)))
        ≡ value_in 0 (pick t (Err bad_formula) (Ok (negative n)))
    at true = refl
    at false = refl
negative_any volts (found n (b ∷ bytes)) = refl

-- too long a field is no formula
pub field_long : (volts : ℕ) (field : List ℕ) → longest_formula < length field → Evaluates volts field (Err bad_formula)
unfolding value_of read_formula
field_long volts field h = record { worth = rw (lt-leb (length field) longest_formula h); small = tt }

module _ (volts : ℕ) {r : Result ℤ} where
  -- after a minus the answer is that for a negative number
  pub field_negative : (field digits : List ℕ) → length field ≤ longest_formula → pointwise eqb (take 1 field) (dash ∷ []) ≡ true
      → digits ≡ drop 1 field → NegativeOf digits r → Evaluates volts field r
  unfolding value_of read_formula read_short
  field_negative [] digits short e same a = absurd (false≢true e)
  field_negative (b ∷ bytes) digits short e same a =
      record {
        worth =
            a.worth
            ∙ rw same (sym (rw (le-leb (length (b ∷ bytes)) longest_formula short, ((and-eq-true_iff (eqb b dash) true).0 e).0)
            (negative_any volts (read_number bytes))));
        small = a.small;
      }

  -- else it is that for a sum
  pub field_sum : (field : List ℕ) → length field ≤ longest_formula → pointwise eqb (take 1 field) (dash ∷ []) ≡ false
      → SumOf volts field r → Evaluates volts field r
  unfolding value_of read_formula read_short sum_with product_with atom_with
  field_sum [] short e a = a
  field_sum (b ∷ bytes) short e a =
      record {
        worth = a.worth ∙ sym (rw (le-leb (length (b ∷ bytes)) longest_formula short, sym (and-true (eqb b dash)) ∙ e));
        small = a.small;
      }
