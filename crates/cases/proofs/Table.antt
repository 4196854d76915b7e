-- The theorem over the table of bench cases: one test, computed over the whole table, and one law that carries it to each line.
-- Assumes nothing.
use mathlib.Core.Path.{◌≡◌, refl}
use mathlib.Core.Bool.{Bool, true, false, ◌&&◌, So-prop, and-eq-true_iff}
use mathlib.Core.List.{List, [], ◌∷◌, zip_with, Mem, not-mem-nil, forall_mem-cons}
use Prim.Native.Nat.{ℕ}
use lib.Dec.{eqb}
use Rattle.outcome.specs.Answer.{first_refusal, pick}
use Rattle.outcome.specs.Lists.{same}
use Rattle.outcome.proofs.Lists.{same_equal}
use Rattle.packing.specs.Packing.{number, digits, pack, unpack, spare_zero, all_below, pack_checks, unpack_checks}
use Rattle.sampling.specs.Sampling.{fields, keep, yield, sample, enough, sample_checks}
use Rattle.sampling.specs.Shuffle.{partners, exchange, exchanges, shuffle, shuffles, shuffle_checks}
use Rattle.linear.specs.Linear.{powers, scaled, response, transformation, less_times, dot, rows_times, syndrome}
use Rattle.scheme.specs.Round.{reply_values, reply_exponents, reply_syndrome}
use Rattle.decimal.specs.Decimal.{decimal, last_digits, leading_digits, value_from, leading_number, after_number}
use Rattle.profile.specs.Rules.{fields_of, obeys, valid}
use Rattle.profile.specs.Line.{field_bytes, written, line_of, field_number, after_field, numbers_in, scanned, read_line}
use Rattle.cases.specs.Table.{runs, outcome, expected, table, holds, EveryCase, Told}

-- the law: a test that the whole list passes is passed by each of its members
module _ {A : Type 0} (test : A → Bool) where
  abbrev every : List A → Bool
  every [] = true
  every (x ∷ xs) = test x && every xs

  each : (xs : List A) → every xs ≡ true → (x : A) → Mem x xs → test x ≡ true
  each [] passed x m = absurd (not-mem-nil m)
  each (x ∷ xs) passed y m =
      let both : (test x ≡ true) × (every xs ≡ true) = (and-eq-true_iff (test x) (every xs)).0 passed in
      (forall_mem-cons (λ z. So-prop (test z))).1 (both.0, each xs both.1) y m

-- the test
tested : every holds table ≡ true
unfolding zip_with same number digits pack unpack spare_zero all_below pack_checks unpack_checks fields keep yield sample enough sample_checks partners exchange exchanges shuffle shuffles shuffle_checks powers scaled response transformation less_times dot rows_times syndrome reply_values reply_exponents reply_syndrome decimal last_digits leading_digits value_from leading_number after_number fields_of obeys valid field_bytes written line_of field_number after_field numbers_in scanned read_line runs
tested = refl

-- the theorem
pub every_case : EveryCase
every_case c m = same_equal (outcome c) (expected c) (rw (each holds table tested c m) tt)

-- ---- what an entry's contract says of its answer is the outcome

picked : (b : Bool) (made old : List ℕ) → pick b (pick b made old) [] ≡ pick b made []
picked true made old = refl
picked false made old = refl

pub told : Told
told checks made old number lent a =
    rw (a.content, a.answer) (λ i. first_refusal checks ∷ picked (eqb (first_refusal checks) 0) made old i)
