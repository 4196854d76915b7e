-- What the entry answers, by the first check that fails, under every class table. Assumes nothing.
use mathlib.Core.Path.{◌≡◌, refl, ◌∙◌, sym, ap, subst}
use mathlib.Core.Bool.{true, false}
use mathlib.Core.List.{List, [], ◌∷◌, ◌++◌}
use Prim.Native.Nat.{ℕ, ◌≤◌, ◌<◌}
use lib.Dec.{T}
use lib.ListN.{length, drop}
use borrow.Author.Tests.{eq-eqb, ne_eqb, le-leb, lt-leb}
use Rattle.std.specs.Prelude.{Some, None}
use Rattle.outcome.specs.declared.refusal.Refusal.{Refusal}
use Rattle.outcome.specs.Answer.{
  number_of,
  bad_size,
  bad_profile,
  Check,
  ◌unless◌,
  first_refusal,
  AnswersFront,
}
use Rattle.outcome.specs.Result.{Result, Ok, Err}
use Rattle.outcome.proofs.Checks.{number_positive, done as answered_done, refuses}
use Rattle.formula.specs.declared.volts.Volts.{Volts}
use Rattle.profile.specs.declared.Profile.{Profile}
use Rattle.profile.specs.Rules.{◌to◌, in_one_of, plain, number, fields_of, one, fits, obeys, Class, valid}
use Rattle.profile.specs.Table.{table_size, table_of}
use Rattle.profile.specs.Line.{longest, read_line}
use Rattle.profile.proofs.RuleLaws.{and_first, and_rest, parts, range_bounds}
use Rattle.profile.proofs.Theorems.{writes_read, line_lengths_hold}
use Rattle.evaluate.specs.Evaluate.{
  longest_input,
  is_closed,
  fields,
  text_from,
  sound_text,
  plain_text,
  text_in,
  is_read,
  frame,
  plain_line,
  plain_checks,
  evaluate_checks,
  EvaluatesLine,
}
use Rattle.evaluate.specs.InnerText.{number_at, FinishesLine, FinishesText}

-- ---- answers

-- the bytes are at the front, and their length is told
front_done : {cs : List Check} {made old lent : List ℕ} {before after : ℕ} → first_refusal cs ≡ 0
    → lent ≡ made ++ drop (length made) old → after ≡ length made → AnswersFront cs made old before 0 lent after
front_done passes content size = record { answers = answered_done passes content; size = size }

-- a refusal leaves all as it was
front_refused : {cs : List Check} {made old : List ℕ} {before : ℕ} (r : Refusal) → first_refusal cs ≡ number_of r
    → AnswersFront cs made old before (number_of r) old before
front_refused r fails = record { answers = refuses r (sym fails) refl; size = rw (ne_eqb (number_of r) 0 (number_positive r)) }

-- the same answer under other checks that refuse alike
front_as : {cs ds : List Check} {made old lent : List ℕ} {before k after : ℕ} → first_refusal cs ≡ first_refusal ds
    → AnswersFront cs made old before k lent after → AnswersFront ds made old before k lent after
front_as e a =
    record {
      answers = record { answer = a.answers.answer ∙ e; content = a.answers.content };
      size = a.size;
    }

-- ---- what reading tells

module _ (table : List Class) where
  -- a line that is read is not too long
  pub read_short_lem : (text : List ℕ) (p : Profile) → read_line table text ≡ Ok p → length text ≤ longest
  read_short_lem text p e =
      let back = writes_read table text p e in
      subst (λ (line : List ℕ). length line ≤ longest) back.0 (line_lengths_hold table p back.1).1

  -- and its nominal volts are at most 1000
  pub read_volts : (text : List ℕ) (p : Profile) → read_line table text ≡ Ok p → p.volts ≤ 1000
  unfolding obeys fields_of
  read_volts text p e =
      let ok : T (valid table p) = (writes_read table text p e).1 in
      let serial = fits (one plain (1 to 4294967295)) (number p.serial) in
      let but_serial = and_rest serial _ (parts table p ok).fields in
      let volts : fits (one plain (100 to 1000)) (number p.volts) ≡ true = and_first _ _ but_serial in
      let within : in_one_of (100 to 1000 ∷ []) p.volts ≡ true = volts in
      (range_bounds (100 to 1000 ∷ []) p.volts within).2

  -- nothing is no line
  nothing_read : is_read (read_line table []) ≡ false
  unfolding read_line
  nothing_read = refl

  -- ---- the finished text

  module _ (text old : List ℕ) (before : ℕ) where
    -- a line is handed out
    pub line_finished : (p : Profile) {new : List ℕ} → read_line table text ≡ Ok p
        → new ≡ text ++ drop (length text) old → FinishesLine table text old before 0 new (length text)
    line_finished p read stored = front_done (rw read) stored refl

    -- another text is not
    pub line_broken : is_read (read_line table text) ≡ false → FinishesLine table text old before 5 old before
    line_broken broken = front_refused bad_profile (rw broken)

  -- ---- the text of the formulas

  module _ (volts : ℕ) (input old : List ℕ) (before : ℕ) where
    -- where the formulas have numbers the text that they make decides
    pub text_finished : (text : List ℕ) {k after : ℕ} {lent : List ℕ} → plain_text volts input ≡ Ok text
        → FinishesLine table text old before k lent after → FinishesText table volts input old before k lent after
    text_finished text e finished = rw e finished

    -- else their refusal
    pub text_refused : (r : Refusal) → plain_text volts input ≡ Err r
        → FinishesText table volts input old before (number_of r) old before
    text_refused r e = rw e (front_refused r refl)

-- what `rewrite` stores: with volts the plain text, else the sound one
pub plain_text_lem : (v : Volts) (input : List ℕ)
    → text_from (number_at (Some v)) 0 (fields input) ≡ plain_text v.volts input
unfolding plain_text
plain_text_lem v input = refl

pub sound_text_lem : (input : List ℕ) → text_from (number_at None) 0 (fields input) ≡ sound_text input
unfolding sound_text
sound_text_lem input = refl

-- ---- the entry

module _ (table input old : List ℕ) (before : ℕ) where
  -- the table's image has another size
  pub other_table : (length table ≡ table_size → ⊥) → EvaluatesLine table input old before 1 old before
  other_table other = front_refused bad_size (rw (ne_eqb (length table) table_size other))

  module _ (whole : length table ≡ table_size) where
    -- the input is too long
    pub input_long : longest_input < length input → EvaluatesLine table input old before 1 old before
    input_long long =
        front_refused bad_size (rw (eq-eqb (length table) table_size whole, lt-leb (length input) longest_input long))

    module _ (short : length input ≤ longest_input) where
      -- another number of bytes is lent
      pub other_lent : (length old ≡ longest → ⊥) → EvaluatesLine table input old before 1 old before
      other_lent other =
          front_refused bad_size
          (rw (
            eq-eqb (length table) table_size whole,
            le-leb (length input) longest_input short,
            ne_eqb (length old) longest other,
          ))

      module _ (lent : length old ≡ longest) where
        -- where the sizes are right the other checks decide
        sized : {k : ℕ}
            → first_refusal
            (bad_profile unless is_closed input
            ∷ bad_profile unless is_read (frame (table_of table) input)
            ∷ plain_checks (table_of table) (plain_line (table_of table) input))
            ≡ k
            → first_refusal (evaluate_checks table input old) ≡ k
        sized e =
            rw (
              eq-eqb (length table) table_size whole,
              le-leb (length input) longest_input short,
              eq-eqb (length old) longest lent,
            ) e

        -- the first LF is not the last byte
        pub not_closed : is_closed input ≡ false → EvaluatesLine table input old before 5 old before
        not_closed unclosed = front_refused bad_profile (sized (rw unclosed))

        module _ (closed : is_closed input ≡ true) where
          -- the line with sound limits is no line
          pub no_frame : (sound : List ℕ) → text_in (sound_text input) ≡ sound → is_read (read_line (table_of table) sound) ≡ false
              → EvaluatesLine table input old before 5 old before
          no_frame sound e broken = front_refused bad_profile (sized (rw (closed, e, broken)))

          -- nor is it where it cannot be written
          pub no_sound : text_in (sound_text input) ≡ [] → EvaluatesLine table input old before 5 old before
          no_sound e = no_frame [] e (nothing_read (table_of table))

          -- the formulas decide
          pub framed : (sound : List ℕ) (p : Profile) {k after : ℕ} {new : List ℕ} → text_in (sound_text input) ≡ sound
              → read_line (table_of table) sound ≡ Ok p
              → FinishesText (table_of table) p.volts input old before k new after
              → EvaluatesLine table input old before k new after
          framed sound p {k} {after} {new} e read finished =
              let read_frame : frame (table_of table) input ≡ Ok p = ap (read_line (table_of table)) e ∙ read in
              let plain : Result (List ℕ) = plain_line (table_of table) input in
              let rest : AnswersFront (plain_checks (table_of table) plain) (text_in plain) old before k new after =
              rw read_frame finished in
              front_as (sym (sized (rw (closed, ap is_read read_frame)))) rest
