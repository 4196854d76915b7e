-- The theorems of specs/Theorems.antt. Assumes nothing.
use mathlib.Core.Path.{◌≡◌, refl, ◌∙◌, sym, ap, subst}
use mathlib.Core.Bool.{true}
use mathlib.Core.List.{List, [], ◌∷◌, ◌++◌}
use Prim.Native.Nat.{ℕ, suc}
use native.Mathlib.Omega.{arith}
use lib.Dec.{T, eqb, leb}
use lib.ListN.{length, drop}
use lib.IntN.{ℤ}
use borrow.Author.Tests.{le-leb, eq-eqb}
use Rattle.outcome.specs.Answer.{bad_size, bad_profile, Check, ◌unless◌, first_refusal, Passed}
use Rattle.outcome.specs.Result.{Result, Ok, Err}
use Rattle.outcome.proofs.Checks.{holds, passed, answered}
use Rattle.formula.specs.Reader.{value_of}
use Rattle.formula.proofs.Theorems.{worth_is_meant, one_meaning, value_number, value_negative}
use Rattle.profile.specs.declared.Profile.{Profile}
use Rattle.profile.specs.Rules.{Class, valid}
use Rattle.profile.specs.Table.{table_size, table_of}
use Rattle.profile.specs.Line.{longest, line_of, read_line}
use Rattle.profile.proofs.Theorems.{reads_written, writes_read, line_lengths_hold}
use Rattle.evaluate.specs.Evaluate.{
  longest_input,
  is_closed,
  fields,
  text_from,
  plain_text,
  frame,
  plain_line,
  is_read,
  volts_in,
  plain_checks,
  evaluate_checks,
  EvaluatesLine,
}
use Rattle.evaluate.specs.Theorems.{TextAsMeant, ComesOutRead, PlainStays}
use Rattle.evaluate.proofs.PlainLaws.{closed_line, framed, plain_line_lem}

-- ---- the text rests on what the formulas mean

-- a text depends on nothing but the numbers of its limits
same_text : (value other : ℕ → List ℕ → Result ℤ) → ((k : ℕ) (f : List ℕ) → value k f ≡ other k f) → (k : ℕ)
    (fs : List (List ℕ)) → text_from value k fs ≡ text_from other k fs
unfolding text_from
same_text value other same k [] = refl
same_text value other same k (f ∷ []) = rw (same k f)
same_text value other same k (f ∷ g ∷ fs) = rw (same k f, same_text value other same (suc k) (g ∷ fs))

pub text_as_meant : TextAsMeant
unfolding plain_text
text_as_meant meant means volts input =
    same_text (λ k f. meant volts f) (λ k f. value_of volts f)
    (λ k f. one_meaning volts f (meant volts f) (value_of volts f) (means volts f) (worth_is_meant volts f)) 0 (fields input)

-- what an entry hands out that refuses nothing: the plain line
handed : (table input old : List ℕ) (before answer : ℕ) (lent : List ℕ) (after : ℕ) (text : List ℕ)
    → EvaluatesLine table input old before answer lent after → answer ≡ 0 → plain_line (table_of table) input ≡ Ok text
    → (lent ≡ text ++ drop (length text) old) × (after ≡ length text)
handed table input old before answer lent after text meets zero plain =
    (meets.answers.content ∙ rw (zero, plain), meets.size ∙ rw (zero, plain))

-- ---- what comes out is a line

-- a text whose checks all pass is the line of a valid profile
finished : (table : List Class) (plain : Result (List ℕ)) → first_refusal (plain_checks table plain) ≡ 0
    → (p : Profile) × T (valid table p) × (plain ≡ Ok (line_of p))
finished table (Err r) e = absurd (passed (plain_checks table (Err r)) e).0
finished table (Ok text) e = at (read_line table text) refl (passed (plain_checks table (Ok text)) e).0
  where
    at : (read : Result Profile) → read_line table text ≡ read → T (is_read read)
        → (p : Profile) × T (valid table p) × (◌≡◌ {A = Result (List ℕ)} (Ok text) (Ok (line_of p)))
    at (Ok p) f t = let back = writes_read table text p f in (p, back.1, ap Ok (sym back.0))
    at (Err r) f t = absurd t

pub comes_out_read : (table : List ℕ) → ComesOutRead table
comes_out_read table input old before answer lent after meets zero =
    let classes : List Class = table_of table in
    let checks : List Check = evaluate_checks table input old in
    let known : Passed checks = passed checks (sym meets.answers.answer ∙ zero) in
    let rest : List Check = plain_checks classes (plain_line classes input) in
    let found : (p : Profile) × T (valid classes p) × (plain_line classes input ≡ Ok (line_of p)) =
    finished classes (plain_line classes input) (answered rest known.1.1.1.1.1) in
    let p : Profile = found.0 in
    let ok : T (valid classes p) = found.1 in
    let plain : plain_line classes input ≡ Ok (line_of p) = found.2 in
    let out : (lent ≡ line_of p ++ drop (length (line_of p)) old) × (after ≡ length (line_of p)) =
    handed table input old before answer lent after (line_of p) meets zero plain in
    (p, ok, plain, reads_written classes p ok, out.0, out.1)

-- ---- a plain line stays

module _ (table : List ℕ) where
  -- the line of a valid profile passes every check, and the plain line is itself
  module _ (p : Profile) (ok : T (valid (table_of table) p)) where
    itself : plain_line (table_of table) (line_of p) ≡ Ok (line_of p)
    itself = plain_line_lem (table_of table) p ok value_number value_negative (volts_in (frame (table_of table) (line_of p)))

    passes : (old : List ℕ) → length table ≡ table_size → length old ≡ longest
        → first_refusal (evaluate_checks table (line_of p) old) ≡ 0
    passes old whole size =
        let classes : List Class = table_of table in
        let line : List ℕ = line_of p in
        let sized : eqb (length table) table_size ≡ true = eq-eqb (length table) table_size whole in
        let short : leb (length line) longest_input ≡ true =
        le-leb (length line) longest_input (omega (arith, line_lengths_hold classes p ok)) in
        let room : eqb (length old) longest ≡ true = eq-eqb (length old) longest size in
        let closed : is_closed line ≡ true = closed_line classes p ok in
        let read : is_read (frame classes line) ≡ true = ap is_read (framed classes p ok) in
        let plain : first_refusal (plain_checks classes (plain_line classes line)) ≡ 0 =
        ap (λ (r : Result (List ℕ)). first_refusal (plain_checks classes r)) itself
        ∙ ap (λ (r : Result Profile). first_refusal (bad_profile unless is_read r ∷ [])) (reads_written classes p ok) in
        let rest₅ : List Check = plain_checks classes (plain_line classes line) in
        let rest₄ : List Check = bad_profile unless is_read (frame classes line) ∷ rest₅ in
        let rest₃ : List Check = bad_profile unless is_closed line ∷ rest₄ in
        let rest₂ : List Check = bad_size unless eqb (length old) longest ∷ rest₃ in
        let rest₁ : List Check = bad_size unless leb (length line) longest_input ∷ rest₂ in
        holds bad_size (eqb (length table) table_size) rest₁ sized
        ∙ holds bad_size (leb (length line) longest_input) rest₂ short
        ∙ holds bad_size (eqb (length old) longest) rest₃ room
        ∙ holds bad_profile (is_closed line) rest₄ closed
        ∙ holds bad_profile (is_read (frame classes line)) rest₅ read
        ∙ plain

  pub plain_stays : PlainStays table
  plain_stays line p whole read old before answer lent after room meets =
      let back : (line_of p ≡ line) × T (valid (table_of table) p) = writes_read (table_of table) line p read in
      let ok : T (valid (table_of table) p) = back.1 in
      let zero : answer ≡ 0 =
      meets.answers.answer
      ∙ subst (λ (l : List ℕ). first_refusal (evaluate_checks table l old) ≡ 0) back.0 (passes p ok old whole room) in
      let plain : plain_line (table_of table) line ≡ Ok line =
      subst (λ (l : List ℕ). plain_line (table_of table) l ≡ Ok l) back.0 (itself p ok) in
      let out : (lent ≡ line ++ drop (length line) old) × (after ≡ length line) =
      handed table line old before answer lent after line meets zero plain in
      (zero, out.0, out.1)
