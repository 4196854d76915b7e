-- Laws of the limits, of numbers as text, and of a text that is stored field after field. Assumes nothing.
use mathlib.Core.Path.{◌≡◌, refl, ◌∙◌, sym, ap}
use mathlib.Core.Bool.{Bool, true, false, false≢true}
use mathlib.Core.Logic.{◌⊎◌, inl, inr}
use mathlib.Core.List.{List, [], ◌∷◌, ◌++◌, append_assoc, append-nil}
use Prim.Native.Nat.{ℕ, zero, suc, ◌+◌, ◌*◌, min, ◌≤◌, ◌<◌}
use native.Mathlib.Numerals.{add-one}
use native.Mathlib.Decide.{dec_lt}
use native.Mathlib.Omega.{arith}
use lib.ListN.{length, get_or, take, drop, set, drop_of_length-le}
use lib.Seq.{sets, drop-cons}
use lib.IntN.{ℤ, pos, negsuc, nat_abs}
use mir.Syntax.{w64}
use mir.Val.{SFits, to_z, of_z}
use mir.Facts.{to_z-of_z}
use borrow.Author.Rules.{sfits_of}
use borrow.Author.Tests.{ne_eqb}
use Rattle.outcome.specs.declared.refusal.Refusal.{Refusal}
use Rattle.outcome.specs.Answer.{pick}
use Rattle.outcome.specs.Result.{Result, Ok, Err}
use Rattle.decimal.specs.Decimal.{last_digits, decimal, Room, Appended}
use Rattle.decimal.proofs.Decimal.{length_mono}
use Rattle.decimal.proofs.Stores.{one_byte, then, appended_length, front_taken}
use Rattle.formula.specs.Grammar.{most_step}
use Rattle.profile.specs.Line.{comma}
use Rattle.profile.proofs.RuleLaws.{one_number}
use Rattle.evaluate.specs.Evaluate.{fields, is_limit, numeral, numeral_in, field_text, joined, text_from}
use Rattle.evaluate.specs.InnerText.{IsShort, room, Puts}
use Rattle.evaluate.proofs.FieldLaws.{size, some_field, fields_size}

-- ---- which fields are limits

-- fields 6, 8, 10, 12 and 14 are limits, and no others
pub a_limit : (k : ℕ) → (k ≡ 6) ⊎ ((k ≡ 8) ⊎ ((k ≡ 10) ⊎ ((k ≡ 12) ⊎ (k ≡ 14)))) → is_limit k ≡ true
a_limit k (inl e) = rw e
a_limit k (inr (inl e)) = rw e
a_limit k (inr (inr (inl e))) = rw e
a_limit k (inr (inr (inr (inl e)))) = rw e
a_limit k (inr (inr (inr (inr e)))) = rw e

pub no_limit : (k : ℕ) → (k ≡ 6 → ⊥) → (k ≡ 8 → ⊥) → (k ≡ 10 → ⊥) → (k ≡ 12 → ⊥) → (k ≡ 14 → ⊥) → is_limit k ≡ false
no_limit k n6 n8 n10 n12 n14 =
    rw (
      one_number 6 k,
      ne_eqb k 6 n6,
      one_number 8 k,
      ne_eqb k 8 n8,
      one_number 10 k,
      ne_eqb k 10 n10,
      one_number 12 k,
      ne_eqb k 12 n12,
      one_number 14 k,
      ne_eqb k 14 n14,
    )

-- the room that a limit may take beyond its field is counted for the first 15 fields only
pub limit_room : (k : ℕ) → pick (is_limit k) 11 0 + 11 * min k 15 ≤ 11 * min (k + 1) 15
limit_room k = elim (dec_lt k 15) [ yes h ↦ early (is_limit k) h | no h ↦ late (is_limit k) (past h) (omega arith) ]
  where
    past : (k < 15 → ⊥) → is_limit k ≡ false
    past h =
        no_limit k (λ e. omega arith) (λ e. omega arith) (λ e. omega arith) (λ e. omega arith) (λ e. omega arith)

    early : (t : Bool) → k < 15 → pick t 11 0 + 11 * min k 15 ≤ 11 * min (k + 1) 15
    early true h = omega arith
    early false h = omega arith

    late : (t : Bool) → t ≡ false → 15 ≤ k → pick t 11 0 + 11 * min k 15 ≤ 11 * min (k + 1) 15
    late true e h = absurd (false≢true (sym e))
    late false e h = omega arith

-- ---- numbers as text

-- such a number has at most 11 characters
pub numeral_short : (z : ℤ) → nat_abs z ≤ most_step → length (numeral z) ≤ 11
unfolding decimal last_digits
numeral_short (pos n) h =
    let most : length (decimal most_step) ≡ 10 = refl in
    omega (arith, length_mono most_step n h)
numeral_short (negsuc n) h =
    let most : length (decimal most_step) ≡ 10 = refl in
    omega (arith, length_mono most_step (suc n) h)

-- a number of a step fits a machine word
small_fits : (z : ℤ) → nat_abs z ≤ most_step → SFits w64 z
small_fits (pos n) h = sfits_of (omega arith)
small_fits (negsuc n) h = sfits_of (omega arith)

-- and comes back from a machine word as it went in
pub kept : (z : ℤ) → nat_abs z ≤ most_step → to_z w64 (of_z w64 z) ≡ z
kept z h = to_z-of_z (small_fits z h)

-- a limit's number stands in the place of its field
pub put_number : (field : List ℕ) {out new : List ℕ} {at n : ℕ} (limit : Bool) (value : Result ℤ) (z : ℤ) → limit ≡ true
    → value ≡ Ok z → nat_abs z ≤ most_step → Appended out at (numeral z) new n
    → Puts (pick limit (numeral_in value) (Ok field)) (at + length field + pick limit 11 0) out at (Ok n) new
put_number field {out} {new} {at} limit value z is e small put =
    rw (is, e)
    (record {
      answered = ap Ok put.place;
      ends = omega (arith, put.place, numeral_short z small);
      stored = λ bytes f. let same : numeral z ≡ bytes = cc in put.stored ∙ ap (sets out at) same;
    })

-- a text that was stored, and where
pub put_done : {most : ℕ} {old new : List ℕ} {at n : ℕ} (text : Result (List ℕ)) → Puts text most old at (Ok n) new
    → (x : List ℕ) × (text ≡ Ok x) × Appended old at x new n
put_done (Ok x) p =
    (x, refl, record { place = let it : ◌≡◌ {A = Result ℕ} (Ok _) (Ok _) = p.answered in cc; stored = p.stored x refl })
put_done (Err r) p = let told = p.answered in cc

-- a text that was stored at the front is what stands there
pub front_text : {most : ℕ} {old new : List ℕ} {n : ℕ} (text : Result (List ℕ)) → Puts text most old 0 (Ok n) new
    → most ≤ length old → (n ≤ length new) × (text ≡ Ok (take n new))
front_text {old = old} text p fits =
    let stored = put_done text p in
    let put = stored.2 in
    let has : Room old 0 stored.0 = record { room = omega (arith, put.place, p.ends) } in
    (omega (arith, p.ends, appended_length put), stored.1 ∙ ap Ok (sym (front_taken put has)))

-- a refusal that was told is that of the text
pub put_refused : {most : ℕ} {old new : List ℕ} {at : ℕ} (text : Result (List ℕ)) (r : Refusal) → Puts text most old at (Err r) new
    → text ≡ Err r
put_refused (Ok x) r p = let told = p.answered in cc
put_refused (Err q) r p = let told = p.answered in cc

-- ---- a text put together

-- a text with some bytes in front
abbrev pub prefixed : List ℕ → Result (List ℕ) → Result (List ℕ)
prefixed front (Ok text) = Ok (front ++ text)
prefixed front (Err r) = Err r

-- no bytes in front change nothing
prefixed_none : (text : Result (List ℕ)) → text ≡ prefixed [] text
prefixed_none (Ok text) = refl
prefixed_none (Err r) = refl

-- a first part and its comma may stand in front
prefixed_more : (front x : List ℕ) (rest : Result (List ℕ))
    → prefixed front (joined (Ok x) rest) ≡ prefixed (front ++ x ++ (comma ∷ [])) rest
prefixed_more front x (Ok y) =
    ap Ok
    (ap (λ (t : List ℕ). front ++ t) (sym (append_assoc x (comma ∷ []) y))
    ∙ sym (append_assoc front (x ++ (comma ∷ [])) y)
    ∙ ap (λ (t : List ℕ). t ++ y) (sym (append_assoc front x (comma ∷ []))))
prefixed_more front x (Err r) = refl

-- ---- a text that is stored field after field

-- the comma before every field but the first
abbrev pub lead : ℕ → List ℕ
lead zero = []
lead (suc k) = comma ∷ []

-- what is stored, and the text of the fields that are left behind it
abbrev pub with_rest : (ℕ → List ℕ → Result ℤ) → ℕ → List ℕ → List (List ℕ) → Result (List ℕ)
with_rest value k text [] = Ok text
with_rest value k text (f ∷ fs) = prefixed (text ++ lead k) (text_from value k (f ∷ fs))

-- the fields before number k are stored, with commas between them
pub record SoFar (value : ℕ → List ℕ → Result ℤ) (input old : List ℕ) (k next : ℕ) (out : List ℕ) : Type 0 where
  pub text : List ℕ
  pub put : Appended old 0 text out next
  pub left : text_from value 0 (fields input) ≡ with_rest value k text (drop k (fields input))
  pub space : next + length (lead k) + size (drop k (fields input)) ≤ length input + 1 + 11 * min k 15

-- a field that is refused refuses the text
text_refused : (value : ℕ → List ℕ → Result ℤ) (k : ℕ) (f : List ℕ) (fs : List (List ℕ)) (r : Refusal)
    → field_text value k f ≡ Err r → text_from value k (f ∷ fs) ≡ Err r
unfolding text_from
text_refused value k f [] r e = e
text_refused value k f (g ∷ fs) r e = rw e refl

-- the text of a field goes to what is stored
text_more : (value : ℕ → List ℕ → Result ℤ) (k : ℕ) (front f x : List ℕ) (fs : List (List ℕ)) → field_text value k f ≡ Ok x
    → prefixed front (text_from value k (f ∷ fs)) ≡ with_rest value (suc k) (front ++ x) fs
unfolding text_from
text_more value k front f x [] e = rw e refl
text_more value k front f x (g ∷ fs) e = rw e (prefixed_more front x (text_from value (suc k) (g ∷ fs)))

-- there is a comma before each field but the first
lead_some : (k : ℕ) → 0 < k → lead k ≡ comma ∷ []
lead_some zero h = absurd (omega arith)
lead_some (suc k) h = refl

module _ (value : ℕ → List ℕ → Result ℤ) (input old : List ℕ) where
  -- at the start nothing is stored
  pub nothing_yet : SoFar value input old 0 0 old
  nothing_yet = at (fields input) refl (some_field input)
    where
      at : (fs : List (List ℕ)) → fields input ≡ fs → 1 ≤ length fs → SoFar value input old 0 0 old
      at [] e h = absurd (omega arith)
      at (f ∷ fs) e h =
          record {
            text = [];
            put = record { place = refl; stored = refl };
            left = rw e (prefixed_none (text_from value 0 (f ∷ fs)));
            space = omega (arith, fields_size input);
          }

  -- with the last field all is put
  pub all_put : {k next : ℕ} {out : List ℕ} → SoFar value input old k next out → length (fields input) ≤ k → IsShort input
      → Puts (text_from value 0 (fields input)) room old 0 (Ok next) out
  all_put {k} so_far over short =
      let none : drop k (fields input) ≡ [] = drop_of_length-le (fields input) over in
      let whole : text_from value 0 (fields input) ≡ Ok so_far.text =
      so_far.left ∙ ap (with_rest value k so_far.text) none in
      record {
        answered = rw whole (ap Ok so_far.put.place);
        ends = omega (arith, so_far.space);
        stored = λ bytes e. let same : so_far.text ≡ bytes = cc in so_far.put.stored ∙ ap (sets old 0) same;
      }

  -- the fields before number k are stored, and the comma before that one
  pub record Led (k at : ℕ) (out f : List ℕ) : Type 0 where
    pub text : List ℕ
    pub put : Appended old 0 text out at
    pub left : text_from value 0 (fields input) ≡ prefixed text (text_from value k (f ∷ drop (suc k) (fields input)))
    pub space : at + length f + 1 + size (drop (suc k) (fields input)) ≤ length input + 1 + 11 * min k 15

  module _ {k next : ℕ} {out f : List ℕ} (so_far : SoFar value input old k next out) (inside : k < length (fields input))
      (item : f ≡ get_or (fields input) k f) where
    here : drop k (fields input) ≡ f ∷ drop (suc k) (fields input)
    here = drop-cons (fields input) k f inside ∙ ap (λ (g : List ℕ). g ∷ drop (suc k) (fields input)) (sym item)

    whole : text_from value 0 (fields input)
        ≡ prefixed (so_far.text ++ lead k) (text_from value k (f ∷ drop (suc k) (fields input)))
    whole = so_far.left ∙ ap (with_rest value k so_far.text) here

    -- the first field has no comma before it
    pub led_first : k ≡ 0 → Led k next out f
    led_first e =
        let none : so_far.text ++ lead k ≡ so_far.text = ap (λ (j : ℕ). so_far.text ++ lead j) e ∙ append-nil so_far.text in
        record {
          text = so_far.text;
          put = so_far.put;
          left = whole ∙ ap (λ (t : List ℕ). prefixed t (text_from value k (f ∷ drop (suc k) (fields input)))) none;
          space = omega (arith, so_far.space, ap size here);
        }

    -- the comma has room
    pub comma_room : 0 < k → IsShort input → length out ≡ room → next < length out
    comma_room more short fits = omega (arith, so_far.space, ap size here, ap length (lead_some k more))

    -- and is stored before every other field
    pub led_more : 0 < k → Led k (next + 1) (set out next comma) f
    led_more more =
        record {
          text = so_far.text ++ (comma ∷ []);
          put = then so_far.put (one_byte out next comma (next + 1) refl);
          left =
              whole
              ∙ ap (λ (l : List ℕ). prefixed (so_far.text ++ l) (text_from value k (f ∷ drop (suc k) (fields input))))
              (lead_some k more);
          space = omega (arith, so_far.space, ap size here, ap length (lead_some k more));
        }

  module _ {k at : ℕ} {out f : List ℕ} (led : Led k at out f) where
    -- the field and its number have room
    pub field_room : IsShort input → length out ≡ room → at + length f + 11 ≤ length out
    field_room short fits = omega (arith, led.space)

    -- a field more
    pub one_more : {n : ℕ} {new : List ℕ}
        → Puts (field_text value k f) (at + length f + pick (is_limit k) 11 0) out at (Ok n) new
        → SoFar value input old (k + 1) n new
    one_more {n} {new} p =
        let stored = put_done (field_text value k f) p in
        let x : List ℕ = stored.0 in
        let more : SoFar value input old (suc k) n new =
        record {
          text = led.text ++ x;
          put = then led.put stored.2;
          left = led.left ∙ text_more value k led.text f x (drop (suc k) (fields input)) stored.1;
          space = omega (arith, p.ends, led.space, limit_room k, add-one k);
        } in
        rw add-one more

    -- a refusal is the answer
    pub stops : {r : Refusal} {new : List ℕ}
        → Puts (field_text value k f) (at + length f + pick (is_limit k) 11 0) out at (Err r) new
        → Puts (text_from value 0 (fields input)) room old 0 (Err r) new
    stops {r} p =
        let refused : text_from value 0 (fields input) ≡ Err r =
        led.left
        ∙ ap (prefixed led.text)
        (text_refused value k f (drop (suc k) (fields input)) r (put_refused (field_text value k f) r p)) in
        record { answered = rw refused refl; ends = tt; stored = λ bytes e. let clash = sym refused ∙ e in cc }
