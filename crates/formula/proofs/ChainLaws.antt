-- Items with operators between them, as `chain` finds them: what is found stands there, and what stands there is found.
-- Assumes nothing.
use mathlib.Core.Path.{◌≡◌, refl, ◌∙◌, ap}
use mathlib.Core.Bool.{Bool, true, false}
use mathlib.Core.List.{List, [], ◌∷◌, ◌++◌, append_assoc}
use Prim.Native.Nat.{ℕ, zero, suc, ◌≤◌}
use native.Mathlib.Omega.{arith}
use lib.ListN.{length, length-append}
use Rattle.outcome.specs.Answer.{pick}
use Rattle.formula.specs.Reader.{Front, found, none, after, chain}
use Rattle.formula.proofs.NumberLaws.{starts, found_same, none_found}

module _ {A B : Type 0} (is_operator : ℕ → Bool) (grow : A → ℕ → B → A) (item : List ℕ → Front B) where
  -- where no operator follows, the chain ends
  chain_stop : (turns : ℕ) (a : A) (rest : List ℕ) → starts is_operator rest ≡ false
      → chain is_operator grow item turns a rest ≡ found a rest
  unfolding chain
  chain_stop zero a rest e = refl
  chain_stop (suc turns) a [] e = refl
  chain_stop (suc turns) a (b ∷ rest) e = rw e

  -- an operator and an item are one turn
  chain_step : (turns : ℕ) (a : A) (b : ℕ) (bytes : List ℕ) (x : B) (rest : List ℕ) → is_operator b ≡ true
      → item bytes ≡ found x rest
      → chain is_operator grow item (suc turns) a (b ∷ bytes) ≡ chain is_operator grow item turns (grow a b x) rest
  unfolding chain
  chain_step turns a b bytes x rest e f = rw (e, f)

  module _ (text : A → List ℕ) (item_text : B → List ℕ) (ok : A → Type 0) (item_ok : B → Type 0)
      (item_sound : (bytes rest : List ℕ) (x : B) → item bytes ≡ found x rest → (item_text x ++ rest ≡ bytes) × item_ok x)
      (grow_text : (a : A) (b : ℕ) (x : B) → is_operator b ≡ true → text (grow a b x) ≡ text a ++ (b ∷ item_text x))
      (grow_ok : (a : A) (b : ℕ) (x : B) → ok a → item_ok x → ok (grow a b x)) where
    -- what was found before and the bytes are the text of all that is found and what follows it
    abbrev Sound : A → List ℕ → A → List ℕ → Type 0
    Sound a bytes c rest = (text c ++ rest ≡ text a ++ bytes) × ok c

    -- so it is where the chain ends
    found_sound : (a : A) (bytes : List ℕ) (c : A) (rest : List ℕ) → ok a → found a bytes ≡ found c rest
        → Sound a bytes c rest
    found_sound a bytes c rest k e =
        let same = found_same e in
        (rw (← same.0, ← same.1), rw (← same.0) k)

    -- and so after every turn
    chain_sound : (turns : ℕ) (a : A) (bytes : List ℕ) (c : A) (rest : List ℕ)
        → chain is_operator grow item turns a bytes ≡ found c rest → ok a → Sound a bytes c rest
    unfolding chain
    chain_sound zero a bytes c rest e k = found_sound a bytes c rest k e
    chain_sound (suc turns) a [] c rest e k = found_sound a [] c rest k e
    chain_sound (suc turns) a (b ∷ bytes) c rest e k =
        turn (λ x behind. chain_sound turns (grow a b x) behind c rest) (is_operator b) refl (item bytes) refl e
      where
        turn : ((x : B) (behind : List ℕ) → chain is_operator grow item turns (grow a b x) behind ≡ found c rest
            → ok (grow a b x) → Sound (grow a b x) behind c rest)
            → (t : Bool) → is_operator b ≡ t → (front : Front B) → item bytes ≡ front
            → pick t (after front (λ x behind. chain is_operator grow item turns (grow a b x) behind))
            (found a (b ∷ bytes)) ≡ found c rest → Sound a (b ∷ bytes) c rest
        turn more true o (found x behind) i e =
            let it : (item_text x ++ behind ≡ bytes) × item_ok x = item_sound bytes behind x i in
            let all : Sound (grow a b x) behind c rest = more x behind e (grow_ok a b x k it.1) in
            let text_grown : text (grow a b x) ++ behind ≡ text a ++ (b ∷ bytes) =
            ap (λ (l : List ℕ). l ++ behind) (grow_text a b x o)
            ∙ append_assoc (text a) (b ∷ item_text x) behind
            ∙ ap (λ (l : List ℕ). text a ++ (b ∷ l)) it.0 in
            (all.0 ∙ text_grown, all.1)
        turn more true o none i e = absurd (none_found e)
        turn more false o front i e = found_sound a (b ∷ bytes) c rest k e

    -- a first item, and the chain behind it
    pub first_sound : (first : B → A) → ((x : B) → text (first x) ≡ item_text x) → ((x : B) → item_ok x → ok (first x))
        → (bytes rest : List ℕ) (c : A)
        → after (item bytes) (λ x behind. chain is_operator grow item (length behind) (first x) behind) ≡ found c rest
        → (text c ++ rest ≡ bytes) × ok c
    first_sound first first_text first_ok bytes rest c e = by_first (item bytes) refl e
      where
        by_first : (front : Front B) → item bytes ≡ front
            → after front (λ x behind. chain is_operator grow item (length behind) (first x) behind) ≡ found c rest
            → (text c ++ rest ≡ bytes) × ok c
        by_first (found x behind) i e =
            let it : (item_text x ++ behind ≡ bytes) × item_ok x = item_sound bytes behind x i in
            let all : Sound (first x) behind c rest =
            chain_sound (length behind) (first x) behind c rest e (first_ok x it.1) in
            (all.0 ∙ ap (λ (l : List ℕ). l ++ behind) (first_text x) ∙ it.0, all.1)
        by_first none i e = absurd (none_found e)

  -- a reader arrives behind a text: it has the chain go on there, with turns enough for all that follows
  abbrev pub Arrives : (List ℕ → Front A) → (A → List ℕ) → A → List ℕ → Type 0
  Arrives reader text a rest =
      (turns : ℕ) × (length rest ≤ turns) × (reader (text a ++ rest) ≡ chain is_operator grow item turns a rest)

  module _ (reader : List ℕ → Front A) (text : A → List ℕ) (item_text : B → List ℕ) where
    -- where no operator follows, what it arrived with is found
    pub arrives_found : (a : A) (rest : List ℕ) → starts is_operator rest ≡ false → Arrives reader text a rest
        → reader (text a ++ rest) ≡ found a rest
    arrives_found a rest stop (turns, enough, arrives) = arrives ∙ chain_stop turns a rest stop

    -- where an operator and an item follow, it arrives behind them
    pub arrives_grown : (a : A) (b : ℕ) (x : B) (rest : List ℕ) → is_operator b ≡ true
        → text (grow a b x) ≡ text a ++ (b ∷ item_text x) → item (item_text x ++ rest) ≡ found x rest
        → Arrives reader text a (b ∷ (item_text x ++ rest)) → Arrives reader text (grow a b x) rest
    arrives_grown a b x rest o grown e (turns, enough, arrives) = by_turns turns enough arrives
      where
        by_turns : (turns : ℕ) → length (b ∷ (item_text x ++ rest)) ≤ turns
            → reader (text a ++ (b ∷ (item_text x ++ rest)))
            ≡ chain is_operator grow item turns a (b ∷ (item_text x ++ rest)) → Arrives reader text (grow a b x) rest
        by_turns zero enough arrives = absurd (omega arith)
        by_turns (suc turns) enough arrives =
            let left : length rest ≤ turns = omega (arith, length-append (item_text x) rest) in
            let whole : text (grow a b x) ++ rest ≡ text a ++ (b ∷ (item_text x ++ rest)) =
            ap (λ (l : List ℕ). l ++ rest) grown ∙ append_assoc (text a) (b ∷ item_text x) rest in
            (turns, left, ap reader whole ∙ arrives ∙ chain_step turns a b (item_text x ++ rest) x rest o e)
