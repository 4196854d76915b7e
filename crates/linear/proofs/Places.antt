-- A vector that is known place by place. Assumes nothing.
use mathlib.Core.Path.{◌≡◌, refl, ◌∙◌, sym, ap}
use mathlib.Core.List.{List, [], ◌∷◌, zip_with, map}
use Prim.Native.Nat.{ℕ, zero, suc, ◌<◌}
use native.Mathlib.Nat.{le_of_suc-le-suc}
use native.Mathlib.Omega.{arith}
use lib.ListN.{length, get_or, length-map}
use Rattle.std.proofs.lemmas.List.{ext_get_or, get_or-map}
use Rattle.linear.proofs.Sizes.{length_places}

pub place_zip : (f : ℕ → ℕ → ℕ) (a b : List ℕ) (i : ℕ) → i < length a → i < length b
    → get_or (zip_with f a b) i 0 ≡ f (get_or a i 0) (get_or b i 0)
unfolding zip_with
place_zip f [] b i ha hb = absurd (omega arith)
place_zip f (x ∷ a) [] i ha hb = absurd (omega arith)
place_zip f (x ∷ a) (y ∷ b) zero ha hb = refl
place_zip f (x ∷ a) (y ∷ b) (suc i) ha hb = place_zip f a b i (le_of_suc-le-suc ha) (le_of_suc-le-suc hb)

-- made place by place from two vectors, and from one
pub zip_places : (f : ℕ → ℕ → ℕ) (a b out : List ℕ) → length b ≡ length a → length out ≡ length a
    → ((k : ℕ) → k < length a → get_or out k 0 ≡ f (get_or a k 0) (get_or b k 0)) → out ≡ zip_with f a b
zip_places f a b out eb eo at =
    ext_get_or 0 out (zip_with f a b) (eo ∙ sym (length_places f a b (length a) refl eb))
    (λ k h. at k (omega arith) ∙ sym (place_zip f a b k (omega arith) (omega arith)))

pub map_places : (f : ℕ → ℕ) (a out : List ℕ) → length out ≡ length a
    → ((k : ℕ) → k < length a → get_or out k 0 ≡ f (get_or a k 0)) → out ≡ map f a
map_places f a out eo at =
    ext_get_or 0 out (map f a) (eo ∙ sym (length-map a f))
    (λ k h. at k (omega arith) ∙ sym (get_or-map f a k 0 0 (omega arith)))

-- a vector with itself, of which one alone is read
pub map_zip : (f : ℕ → ℕ) (a : List ℕ) → zip_with (λ x y. f x) a a ≡ map f a
unfolding zip_with
map_zip f [] = refl
map_zip f (x ∷ a) = ap (λ (r : List ℕ). f x ∷ r) (map_zip f a)
