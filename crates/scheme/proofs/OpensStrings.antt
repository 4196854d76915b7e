-- A hashed string tells the vectors packed in it: strings of tag 0, 1 or 2 that are equal hold equal vectors.
-- Assumes nothing.
use mathlib.Core.Path.{◌≡◌, refl, ◌∙◌, sym, ap}
use mathlib.Core.List.{List, ◌∷◌, ◌++◌, append_cancel_right}
use Prim.Native.Nat.{ℕ, suc, ◌≤◌, ◌^◌}
use native.Mathlib.Omega.{arith}
use lib.ListN.{length, take, drop}
use lib.Seq.{take_at, drop_at}
use Rattle.packing.specs.Packing.{pack, size}
use Rattle.packing.proofs.Below.{Below, below_le}
use Rattle.packing.proofs.RoundTrip.{length_pack, pack_injective}
use Rattle.scheme.specs.Strings.{round_number, commitment0_string, commitment1_string, response_string}

-- a vector of n places, each below m
pub record Vector (m n : ℕ) (xs : List ℕ) : Type 0 where
  pub long : length xs ≡ n
  pub below : Below m xs

-- two strings that begin with parts of one length, and the rest is behind each
parts : (a b c d : List ℕ) → length a ≡ length c → a ++ b ≡ c ++ d → (a ≡ c) × (b ≡ d)
parts a b c d l e = (
  sym (take_at a b (length c) l) ∙ ap (λ (s : List ℕ). take (length c) s) e ∙ take_at c d (length c) refl,
  sym (drop_at a b (length c) l) ∙ ap (λ (s : List ℕ). drop (length c) s) e ∙ drop_at c d (length c) refl,
)

module _ (w m n : ℕ) (fits : m ≤ 2 ^ w) where
  length_packed : {xs : List ℕ} → Vector m n xs → length (pack w xs) ≡ size w n
  length_packed {xs} v = length_pack w xs ∙ ap (λ (k : ℕ). size w k) v.long

  unpacked : {xs ys : List ℕ} → Vector m n xs → Vector m n ys → pack w xs ≡ pack w ys → xs ≡ ys
  unpacked v v' e = pack_injective w (below_le fits v.below) (below_le fits v'.below) (v.long ∙ sym v'.long) e

-- Values and exponents behind a tag, and the same salt and round behind them.
abbrev Tells : ℕ → ℕ → (List ℕ → List ℕ → List ℕ) → Type 0
Tells m n string =
    (xs xs' es es' : List ℕ) → Vector 127 m xs → Vector 127 m xs' → Vector 7 n es → Vector 7 n es' →
    string xs es ≡ string xs' es' → (xs ≡ xs') × (es ≡ es')

module _ (m n : ℕ) (salt : List ℕ) (i : ℕ) where
  tagged : (tag : ℕ) → Tells m n (λ xs es. tag ∷ pack 7 xs ++ pack 3 es ++ salt ++ round_number i)
  tagged tag xs xs' es es' v v' u u' e =
      let vectors : tag ∷ pack 7 xs ++ pack 3 es ≡ tag ∷ pack 7 xs' ++ pack 3 es' =
      append_cancel_right _ _ salt (append_cancel_right _ _ (round_number i) e) in
      let lengths : length (tag ∷ pack 7 xs) ≡ length (tag ∷ pack 7 xs') =
      ap suc (length_packed 7 127 m (omega arith) v ∙ sym (length_packed 7 127 m (omega arith) v')) in
      let both : (tag ∷ pack 7 xs ≡ tag ∷ pack 7 xs') × (pack 3 es ≡ pack 3 es') =
      parts (tag ∷ pack 7 xs) (pack 3 es) (tag ∷ pack 7 xs') (pack 3 es') lengths vectors in
      let values : pack 7 xs ≡ pack 7 xs' = ap (λ (s : List ℕ). drop 1 s) both.0 in
      (unpacked 7 127 m (omega arith) v v' values, unpacked 3 7 n (omega arith) u u' both.1)

  pub commitment0_tells : Tells m n (λ s̃ σ. commitment0_string s̃ σ salt i)
  unfolding commitment0_string
  commitment0_tells = tagged 0

  pub commitment1_tells : Tells m n (λ us es. commitment1_string us es salt i)
  unfolding commitment1_string
  commitment1_tells = tagged 1

pub response_tells : (n : ℕ) {ys ys' : List ℕ} → Vector 127 n ys → Vector 127 n ys' → response_string ys ≡ response_string ys' → ys ≡ ys'
unfolding response_string
response_tells n v v' e = unpacked 7 127 n (omega arith) v v' (ap (λ (s : List ℕ). drop 1 s) e)
