-- What the readers of the code carry from turn to turn, once for sums and products: operators with items between them.
-- Assumes nothing.
use mathlib.Core.Path.{◌≡◌, refl, sym, ◌∙◌, ap}
use mathlib.Core.Bool.{Bool, true, false}
use mathlib.Core.List.{List, [], ◌∷◌}
use Prim.Native.Nat.{ℕ, zero, suc, ◌+◌, ◌≤◌, ◌<◌}
use native.Mathlib.Numerals.{add-one}
use native.Mathlib.Omega.{arith}
use lib.ListN.{length, drop, get_or, length-drop}
use lib.Seq.{drop-cons}
use lib.IntN.{ℤ}
use Rattle.std.specs.Prelude.{Some, None}
use Rattle.outcome.specs.Answer.{pick}
use Rattle.outcome.specs.Result.{Result}
use Rattle.formula.specs.Reader.{Front, found, none, after, chain}
use Rattle.formula.specs.InnerReader.{operator_in, worths, PartAt}

-- ---- a front with its worth, taken apart

-- what was found, and what follows it
pub record Found {A B : Type 0} (value : A → B) (front : Front A) (w : B) (rest : List ℕ) : Type 0 where
  pub got : A
  pub is : front ≡ found got rest
  pub worth : value got ≡ w

module _ {A B : Type 0} (value : A → B) where
  pub was_found : (front : Front A) {w : B} {rest : List ℕ} → found w rest ≡ worths value front
      → Found value front w rest
  was_found (found a r) e = record { got = a; is = cc; worth = cc }
  was_found none e = cc

  pub was_none : (front : Front A) → none ≡ worths value front → front ≡ none
  was_none (found a r) e = cc
  was_none none e = refl

-- ---- operators with items between them

module _
    {A B O : Type 0} (is_operator : ℕ → Bool) (operator : ℕ → O) (grow : A → ℕ → B → A) (item : List ℕ → Front B)
    (value : A → Result ℤ) (item_value : B → Result ℤ) (taken : O → Result ℤ → Result ℤ → Result ℤ)
    (grows : (a : A) (b : ℕ) (x : B) → value (grow a b x) ≡ taken (operator b) (value a) (item_value x))
  where
    -- what was read so far is worth the total, and the turns that are left find the whole
    pub record SoFar (s : List ℕ) (whole : Front A) (total : Result ℤ) (next : ℕ) : Type 0 where
      pub within : next ≤ length s
      pub turns : ℕ
      pub got : A
      pub enough : length s ≤ next + turns
      pub worth : value got ≡ total
      pub left : chain is_operator grow item turns got (drop next s) ≡ whole

    -- the first item
    pub started : (one : B → A) → ((x : B) → value (one x) ≡ item_value x) → (s bytes : List ℕ) (at : ℕ) {w : Result ℤ} {end : ℕ}
        → PartAt item_value (item bytes) s at (Some (w, end))
        → SoFar s (after (item bytes) (λ x rest. chain is_operator grow item (length rest) (one x) rest)) w end
    started one ones s bytes at {w} {end} part =
        let f : Found item_value (item bytes) w (drop end s) = was_found item_value (item bytes) part.read in
        record {
          within = part.ends.1;
          turns = length (drop end s);
          got = one f.got;
          enough = omega (arith, length-drop end s, part.ends.1);
          worth = ones f.got ∙ f.worth;
          left =
              sym (ap (λ (o : Front B). after o (λ x rest. chain is_operator grow item (length rest) (one x) rest)) f.is);
        }

    -- no first item
    pub unstarted : (one : B → A) (s bytes : List ℕ) (at : ℕ) → PartAt item_value (item bytes) s at None
        → none ≡ worths value (after (item bytes) (λ x rest. chain is_operator grow item (length rest) (one x) rest))
    unstarted one s bytes at part = rw (was_none item_value (item bytes) part.read) refl

module _
    {A B O : Type 0} {is_operator : ℕ → Bool} {operator : ℕ → O} {grow : A → ℕ → B → A} {item : List ℕ → Front B}
    {value : A → Result ℤ} {item_value : B → Result ℤ} {taken : O → Result ℤ → Result ℤ → Result ℤ}
    {grows : (a : A) (b : ℕ) (x : B) → value (grow a b x) ≡ taken (operator b) (value a) (item_value x)}
    {s : List ℕ} {whole : Front A} {total : Result ℤ} {next : ℕ}
    (so_far : SoFar is_operator operator grow item value item_value taken grows s whole total next)
  where
    -- an operator and the bytes behind it
    record Stands (op : O) (turns : ℕ) : Type 0 where
      byte : ℕ
      fewer : ℕ
      same : op ≡ operator byte
      turn : turns ≡ suc fewer
      inside : next < length s
      goes_on :
          (a : A) → chain is_operator grow item turns a (drop next s)
          ≡ after (item (drop (next + 1) s)) (λ x rest. chain is_operator grow item fewer (grow a byte x) rest)

    -- so it is where an operator begins what is left
    begun : (op : O) (turns : ℕ) (bytes : List ℕ) → drop next s ≡ bytes → length s ≤ next + turns
        → Some op ≡ operator_in is_operator operator bytes → Stands op turns
    unfolding chain
    begun op turns [] e enough h = cc
    begun op zero (b ∷ bytes) e enough h =
        absurd (omega (arith, ap length e, length-drop next s))
    begun op (suc fewer) (b ∷ bytes) e enough h = by_test (is_operator b) refl h
      where
        behind : drop next s ≡ b ∷ drop (next + 1) s
        behind =
            let inside : next < length s = omega (arith, ap length e, length-drop next s) in
            let here : drop next s ≡ get_or s next 0 ∷ drop (next + 1) s = rw add-one (drop-cons s next 0 inside) in
            let first : get_or s next 0 ≡ b = cc in
            here ∙ ap (λ (x : ℕ). x ∷ drop (next + 1) s) first

        by_test : (t : Bool) → is_operator b ≡ t → Some op ≡ pick t (Some (operator b)) None → Stands op (suc fewer)
        by_test true o h =
            record {
              byte = b;
              fewer = fewer;
              same = cc;
              turn = refl;
              inside = omega (arith, ap length e, length-drop next s);
              goes_on = λ a. ap (chain is_operator grow item (suc fewer) a) behind ∙ rw o refl;
            }
        by_test false o h = cc

    -- where none begins it, the chain ends
    stop : (turns : ℕ) (a : A) (bytes : List ℕ) → None ≡ operator_in is_operator operator bytes
        → chain is_operator grow item turns a bytes ≡ found a bytes
    unfolding chain
    stop zero a bytes h = refl
    stop (suc turns) a [] h = refl
    stop (suc turns) a (b ∷ bytes) h = by_test (is_operator b) refl h
      where
        by_test : (t : Bool) → is_operator b ≡ t → None ≡ pick t (Some (operator b)) None
            → chain is_operator grow item (suc turns) a (b ∷ bytes) ≡ found a (b ∷ bytes)
        by_test true o h = cc
        by_test false o h = rw o refl

    module _ {op : O} (h : Some op ≡ operator_in is_operator operator (drop next s)) where
      stands : Stands op so_far.turns
      stands = begun op so_far.turns (drop next s) refl so_far.enough h

      -- one more operator and item
      pub stepped : {w : Result ℤ} {end : ℕ} → PartAt item_value (item (drop (next + 1) s)) s (next + 1) (Some (w, end))
          → SoFar is_operator operator grow item value item_value taken grows s whole (taken op total w) end
      stepped {w} {end} part =
          let bytes : List ℕ = drop (next + 1) s in
          let f : Found item_value (item bytes) w (drop end s) = was_found item_value (item bytes) part.read in
          record {
            within = part.ends.1;
            turns = stands.fewer;
            got = grow so_far.got stands.byte f.got;
            enough = omega (arith, so_far.enough, stands.turn, part.ends.0);
            worth = grows so_far.got stands.byte f.got ∙ rw (so_far.worth, f.worth, ← stands.same) refl;
            left =
                sym (stands.goes_on so_far.got
                ∙ ap (λ (o : Front B).
                after o (λ x rest. chain is_operator grow item stands.fewer (grow so_far.got stands.byte x) rest)) f.is)
                ∙ so_far.left;
          }

      -- an operator with no item behind it: there is no whole
      pub broken : PartAt item_value (item (drop (next + 1) s)) s (next + 1) None → {at : ℕ} → PartAt value whole s at None
      broken part =
          let bytes : List ℕ = drop (next + 1) s in
          let no : item bytes ≡ none = was_none item_value (item bytes) part.read in
          let none_whole : none ≡ whole =
          sym (ap (λ (o : Front B).
          after o (λ x rest. chain is_operator grow item stands.fewer (grow so_far.got stands.byte x) rest)) no)
          ∙ sym (stands.goes_on so_far.got) ∙ so_far.left in
          record { read = ap (worths value) none_whole; ends = tt }

    -- no operator stands there: all is read
    pub stopped : None ≡ operator_in is_operator operator (drop next s) → {at : ℕ} → at < next
        → PartAt value whole s at (Some (total, next))
    stopped h l =
        let e : whole ≡ found so_far.got (drop next s) =
        sym so_far.left ∙ stop so_far.turns so_far.got (drop next s) h in
        record {
          read = rw e (ap (λ (v : Result ℤ). found v (drop next s)) (sym so_far.worth));
          ends = (l, so_far.within);
        }
