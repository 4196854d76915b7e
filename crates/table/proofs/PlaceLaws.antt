-- A row of a file, and its text. Assumes nothing.
use mathlib.Core.Path.{◌≡◌, refl, ◌∙◌, sym, ap}
use mathlib.Core.Bool.{Bool, true, false}
use mathlib.Core.List.{List, [], ◌∷◌, ◌++◌}
use Prim.Native.Nat.{ℕ, ◌+◌, ◌-◌, ◌≤◌, ◌<◌}
use native.Mathlib.Omega.{arith}
use lib.Dec.{eqb}
use lib.ListN.{length, take, drop, replicate, length-append, length-take, length-drop}
use lib.Seq.{take_all}
use Rattle.std.specs.Prelude.{Option, None, Some}
use Rattle.std.specs.List.{starts_with}
use Rattle.std.specs.Bool.{then_some}
use Rattle.std.proofs.lemmas.Grind.{common_steps}
use Rattle.outcome.specs.Answer.{pick}
use Rattle.outcome.specs.Lists.{same}
use Rattle.outcome.proofs.Lists.{same_equal, pointwise_same}
use Rattle.decimal.specs.Decimal.{decimal, last_digits, largest, Room, Appended}
use Rattle.decimal.proofs.Decimal.{length_mono}
use Rattle.decimal.proofs.Stores.{sets_append, appended_length, front_length, front_taken}
use Rattle.profile.specs.Rules.{Class, low, high}
use Rattle.profile.specs.Line.{comma, line_feed}
use Rattle.profile.proofs.RuleLaws.{test}
use Rattle.table.specs.File.{row_text}
use Rattle.table.specs.InnerRows.{begins}

-- ---- its length

-- a number of four bytes has at most ten digits
most_digits : length (decimal largest) ≡ 10
unfolding decimal last_digits
most_digits = refl

ten_digits : (n : ℕ) → n ≤ largest → length (decimal n) ≤ 10
ten_digits n h = omega (arith, length_mono largest n h, most_digits)

pub text_length : (c : Class) → length (row_text c) ≡ length (decimal (low c.volts)) + length (decimal (high c.volts)) + 4
unfolding row_text
text_length c =
    let from : List ℕ = decimal (low c.volts) in
    let upto : List ℕ = decimal (high c.volts) in
    let ends : List ℕ = upto ++ (line_feed ∷ []) in
    omega (arith, length-append from (comma ∷ ends), length-append upto (line_feed ∷ []))

pub text_fits : (c : Class) → low c.volts ≤ largest → high c.volts ≤ largest → length (row_text c) ≤ 24
text_fits c h k = omega (arith, text_length c, ten_digits (low c.volts) h, ten_digits (high c.volts) k)

-- ---- writing it

pub row_parts : (c : Class) → row_text c ≡ c.letter ∷ comma ∷ (decimal (low c.volts) ++ (comma ∷ (decimal (high c.volts) ++ (line_feed ∷ []))))
unfolding row_text
row_parts c = refl

-- what the function is told that writes a row
pub ruleset row_stored = (common_steps, sets_append, appended_length, row_parts, text_length)

-- a buffer of the longest row's length, and what it holds then
pub roomy : (c : Class) → low c.volts ≤ largest → high c.volts ≤ largest → Room (replicate 24 0) 0 (row_text c)
roomy c h k = record { room = omega (arith, text_fits c h k) }

pub row_put : (c : Class) {out : List ℕ} {end : ℕ} → low c.volts ≤ largest → high c.volts ≤ largest
    → Appended (replicate 24 0) 0 (row_text c) out end
    → (end ≡ length (row_text c)) × (end ≤ length out) × (take end out ≡ row_text c)
row_put c h k put =
    let size = front_length put (roomy c h k) in
    (size, omega (arith, size, text_fits c h k, appended_length put), front_taken put (roomy c h k))

-- ---- comparing it

some_if : (b : Bool) (n : ℕ) → then_some b n ≡ pick b (Some n) None
some_if true n = refl
some_if false n = refl

-- the place after the text, where bytes begin with it
pub row_ends : (c : Class) (rest : List ℕ) {text : List ℕ} {end : ℕ} → text ≡ row_text c → end ≡ length (row_text c)
    → then_some (starts_with eqb rest text) end ≡ pick (begins c rest) (Some (length (row_text c))) None
unfolding begins
row_ends c rest {text} {end} same_text same_end =
    (λ i. then_some (starts_with eqb rest (same_text i)) (same_end i))
    ∙ some_if (starts_with eqb rest (row_text c)) (length (row_text c))
    ∙ ap (λ (b : Bool). pick b (Some (length (row_text c))) None) (pointwise_same (row_text c) (take (length (row_text c)) rest))

-- so that the place says whether they do
pub ends_missing : (c : Class) (rest : List ℕ) {o : Option ℕ}
    → o ≡ pick (begins c rest) (Some (length (row_text c))) None → o ≡ None → begins c rest ≡ false
ends_missing c rest e none = go (begins c rest) (sym e ∙ none)
  where
    go : (b : Bool) → pick b (Some (length (row_text c))) None ≡ None → b ≡ false
    go true e = cc
    go false e = refl

pub ends_there : (c : Class) (rest : List ℕ) {end : ℕ} {o : Option ℕ}
    → o ≡ pick (begins c rest) (Some (length (row_text c))) None → o ≡ Some end
    → (begins c rest ≡ true) × (end ≡ length (row_text c))
ends_there c rest {end} e some = go (begins c rest) (sym e ∙ some)
  where
    go : (b : Bool) → pick b (Some (length (row_text c))) None ≡ Some end → (b ≡ true) × (end ≡ length (row_text c))
    go true e = (refl, cc)
    go false e = cc

-- a text with which bytes begin ends in them
text_within : (c : Class) (rest : List ℕ) → begins c rest ≡ true → length (row_text c) ≤ length rest
unfolding begins
text_within c rest e =
    let part : List ℕ = take (length (row_text c)) rest in
    let long = ap length (same_equal (row_text c) part (test (same (row_text c) part) e)) in
    omega (arith, long, length-take (length (row_text c)) rest)

module _ (c : Class) (rest : List ℕ) {end : ℕ} (there : (begins c rest ≡ true) × (end ≡ length (row_text c))) where
  pub end_within : end ≤ length rest
  end_within = omega (arith, there.1, text_within c rest there.0)

  -- what is left behind it, which is less
  pub rest_behind : take (length rest - end) (drop end rest) ≡ drop (length (row_text c)) rest
  rest_behind =
      take_all (length rest - end) (drop end rest) (omega (arith, length-drop end rest))
      ∙ ap (λ (k : ℕ). drop k rest) there.1

  pub rest_less : length (take (length rest - end) (drop end rest)) < length rest
  rest_less =
      omega (
        arith,
        ap length rest_behind,
        length-drop (length (row_text c)) rest,
        text_length c,
        text_within c rest there.0,
      )
