-- The atom at a place of the bytes: what each answer of its reader rests on. Assumes nothing.
use mathlib.Core.Path.{◌≡◌, refl, sym, ◌∙◌, ap}
use mathlib.Core.List.{List, ◌∷◌}
use Prim.Native.Nat.{ℕ, zero, suc, ◌+◌, ◌-◌, ◌≤◌, ◌<◌}
use native.Mathlib.Numerals.{add-one}
use native.Mathlib.Omega.{arith}
use borrow.Author.Tests.{ne_eqb}
use lib.ListN.{length, drop, get_or, drop_of_length-le}
use lib.Seq.{drop-cons}
use lib.IntN.{ℤ, pos}
use Rattle.outcome.specs.Result.{Result, Ok}
use Rattle.std.specs.Prelude.{Option, Some, None}
use Rattle.formula.specs.Grammar.{
  Sum,
  number,
  opening,
  closing,
  letter_n,
  sum_value,
  atom_value,
}
use Rattle.formula.specs.Reader.{Front, found, none, after, read_number, closed, atom_with, read_group, read_sum}
use Rattle.formula.specs.InnerReader.{worths, PartAt, NumberPart, SumAt}
use Rattle.formula.proofs.ReaderLaws.{Found, was_found, was_none}

-- a part whose front is known
part_with : {A B : Type 0} {value : A → B} {front front' : Front A} {s : List ℕ} {at : ℕ} {r : Option (B × ℕ)}
    → front ≡ front' → PartAt value front' s at r → PartAt value front s at r
part_with {value = value} e part = record { read = part.read ∙ ap (worths value) (sym e); ends = part.ends }

-- where a pair may open, a sum may stand in it that has one pair fewer
one_pair_fewer : (pairs fewer : ℕ) → 1 ≤ pairs → fewer ≡ pairs - 1 → (bytes : List ℕ)
    → read_group pairs bytes ≡ read_sum fewer bytes
unfolding read_group
one_pair_fewer zero fewer h e bytes = absurd (omega arith)
one_pair_fewer (suc pairs) fewer h e bytes =
    let same : pairs ≡ fewer = omega arith in
    ap (λ (k : ℕ). read_sum k bytes) same

-- so a sum with one pair fewer is what may stand in it
pub in_parentheses : (volts pairs : ℕ) {fewer : ℕ} (s : List ℕ) (at : ℕ) → 1 ≤ pairs → fewer ≡ pairs - 1
    → (r : Option (Result ℤ × ℕ)) → SumAt volts fewer s at r
    → PartAt (λ x. sum_value x volts) (read_group pairs (drop at s)) s at r
in_parentheses volts pairs {fewer} s at h e r part = part_with (one_pair_fewer pairs fewer h e (drop at s)) part

-- where none may open, nothing stands in parentheses
pub no_pair : (bytes : List ℕ) → read_group 0 bytes ≡ none
unfolding read_group
no_pair bytes = refl

unread : {A B : Type 0} {value : A → B} {front : Front A} {s : List ℕ} {at : ℕ} → front ≡ none
    → PartAt value front s at None
unread e = part_with e (record { read = refl; ends = tt })

-- a number as an atom, and none as none
module _ (volts : ℕ) {s : List ℕ} {at : ℕ} where
  numbers : (front : Front ℕ) (n end : ℕ) → PartAt (λ k. k) front s at (Some (n, end))
      → PartAt (λ a. atom_value a volts) (after front (λ k rest. found (number k) rest)) s at (Some (Ok (pos n), end))
  unfolding atom_value
  numbers (found k rest) n end part = record { read = ap (worths (λ k. Ok (pos k))) part.read; ends = part.ends }
  numbers none n end part = let e = part.read in cc

  no_numbers : (front : Front ℕ) → PartAt (λ k. k) front s at None
      → PartAt (λ a. atom_value a volts) (after front (λ k rest. found (number k) rest)) s at None
  no_numbers (found k rest) part = let e = part.read in cc
  no_numbers none part = record { read = refl; ends = tt }

module _ (volts : ℕ) (inner : List ℕ → Front Sum) (s : List ℕ) (at : ℕ) where
  -- nothing is left
  pub atom_missing : length s ≤ at → PartAt (λ a. atom_value a volts) (atom_with inner (drop at s)) s at None
  unfolding atom_with
  atom_missing e = unread (ap (atom_with inner) (drop_of_length-le s {i = at} e))

  module _ (h : at < length s) {b : ℕ} (first : b ≡ get_or s at 0) where
    here : drop at s ≡ b ∷ drop (at + 1) s
    here = rw (add-one, first) (drop-cons s at 0 h)

    front_at : {c : ℕ} → b ≡ c → atom_with inner (drop at s) ≡ atom_with inner (c ∷ drop (at + 1) s)
    front_at e = ap (atom_with inner) here ∙ ap (λ (x : ℕ). atom_with inner (x ∷ drop (at + 1) s)) e

    -- N
    pub atom_nominal : b ≡ letter_n
        → PartAt (λ a. atom_value a volts) (atom_with inner (drop at s)) s at (Some (Ok (pos volts), at + 1))
    unfolding atom_with atom_value
    atom_nominal e = part_with (front_at e) (record { read = refl; ends = (omega arith, omega arith) })

    module _ (no_letter : b ≡ letter_n → ⊥) (no_opening : b ≡ opening → ⊥) where
      front_number : atom_with inner (drop at s) ≡ after (read_number (drop at s)) (λ k rest. found (number k) rest)
      unfolding atom_with
      front_number =
          front_at refl
          ∙ rw (ne_eqb b letter_n no_letter, ne_eqb b opening no_opening)
          (ap (λ (bytes : List ℕ). after (read_number bytes) (λ k rest. found (number k) rest)) (sym here))

      -- a number
      pub atom_number : {n end : ℕ} → NumberPart s at (Some (n, end))
          → PartAt (λ a. atom_value a volts) (atom_with inner (drop at s)) s at (Some (Ok (pos n), end))
      atom_number {n} {end} part = part_with front_number (numbers volts (read_number (drop at s)) n end part)

      -- or nothing of the kind
      pub atom_no_number : NumberPart s at None
          → PartAt (λ a. atom_value a volts) (atom_with inner (drop at s)) s at None
      atom_no_number part = part_with front_number (no_numbers volts (read_number (drop at s)) part)

    module _ (paren : b ≡ opening) where
      opened : atom_with inner (drop at s) ≡ after (inner (drop (at + 1) s)) closed
      unfolding atom_with
      opened = front_at paren

      -- no sum stands behind the parenthesis
      pub atom_hollow : inner (drop (at + 1) s) ≡ none
          → PartAt (λ a. atom_value a volts) (atom_with inner (drop at s)) s at None
      atom_hollow e = unread (opened ∙ rw e)

      pub atom_unread : PartAt (λ x. sum_value x volts) (inner (drop (at + 1) s)) s (at + 1) None
          → PartAt (λ a. atom_value a volts) (atom_with inner (drop at s)) s at None
      atom_unread part = atom_hollow (was_none (λ x. sum_value x volts) (inner (drop (at + 1) s)) part.read)

      module _ {w : Result ℤ} {end : ℕ}
          (part : PartAt (λ x. sum_value x volts) (inner (drop (at + 1) s)) s (at + 1) (Some (w, end))) where
        inside : Found (λ x. sum_value x volts) (inner (drop (at + 1) s)) w (drop end s)
        inside = was_found (λ x. sum_value x volts) (inner (drop (at + 1) s)) part.read

        behind : atom_with inner (drop at s) ≡ closed inside.got (drop end s)
        behind = opened ∙ rw inside.is

        -- nothing follows the sum
        pub atom_open : length s ≤ end → PartAt (λ a. atom_value a volts) (atom_with inner (drop at s)) s at None
        unfolding closed
        atom_open e = unread (behind ∙ ap (closed inside.got) (drop_of_length-le s {i = end} e))

        module _ (l : end < length s) {c : ℕ} (next : c ≡ get_or s end 0) where
          next_byte : {d : ℕ} → c ≡ d → closed inside.got (drop end s) ≡ closed inside.got (d ∷ drop (end + 1) s)
          next_byte e =
              ap (closed inside.got) (rw add-one (drop-cons s end 0 l))
              ∙ ap (λ (x : ℕ). closed inside.got (x ∷ drop (end + 1) s)) (sym next ∙ e)

          -- another byte than the closing parenthesis follows it
          pub atom_unclosed : (c ≡ closing → ⊥) → PartAt (λ a. atom_value a volts) (atom_with inner (drop at s)) s at None
          unfolding closed
          atom_unclosed other = unread (behind ∙ next_byte refl ∙ rw (ne_eqb c closing other))

          -- the closing parenthesis follows it
          pub atom_closed : c ≡ closing
              → PartAt (λ a. atom_value a volts) (atom_with inner (drop at s)) s at (Some (w, end + 1))
          unfolding closed atom_value
          atom_closed e =
              part_with (behind ∙ next_byte e)
              (record {
                read = ap (λ (v : Result ℤ). found v (drop (end + 1) s)) (sym inside.worth);
                ends = (omega (arith, part.ends.0), omega arith);
              })
