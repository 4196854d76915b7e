-- A vector that is spelled loosely, place by place.
-- Assumes nothing.
use mathlib.Core.Path.{◌≡◌, refl, ◌∙◌, ap, sym}
use mathlib.Core.List.{List, [], ◌∷◌, zip_with}
use Prim.Native.Nat.{ℕ, zero, suc, ◌+◌, ◌-◌, ◌*◌, ◌%◌, ◌<◌}
use native.Mathlib.Nat.{le_of_suc-le-suc, mul-suc, mul-zero, add_comm, mod-mod}
use native.Mathlib.Omega.{arith}
use lib.Dec.{T}
use lib.ListN.{length, get_or, take, drop}
use lib.Seq.{drop-drop}
use Rattle.packing.specs.Packing.{all_below}
use Rattle.packing.proofs.Below.{below_index}
use Rattle.field.proofs.Congruence.{plus_congruent}
use Rattle.field.specs.Field.{less}
use Rattle.linear.specs.Linear.{less_times, dot, rows_times}
use Rattle.linear.specs.InnerLoose.{Loose, residues}
use Rattle.linear.proofs.Kept.{kept_below}
use Rattle.linear.proofs.Places.{place_zip, map_places}
use Rattle.linear.proofs.Sizes.{length_places}

-- where each place is congruent and below 128
pub loose_places : (v out : List ℕ) → length out ≡ length v
    → ((k : ℕ) → k < length v → (get_or out k 0 % 127 ≡ get_or v k 0) × (get_or out k 0 < 128)) → Loose v out
unfolding residues
loose_places v out e at = record {
  congruent = sym (map_places (λ x. x % 127) out v (sym e) (λ k h. sym (at k (omega arith)).0));
  ranged = kept_below 128 out (below_index 128 out (λ k h. (at k (omega arith)).1));
}

pub loose_zip : (f : ℕ → ℕ → ℕ) (a b out : List ℕ) → length b ≡ length a → length out ≡ length a
    → ((k : ℕ) → k < length a → (get_or out k 0 % 127 ≡ f (get_or a k 0) (get_or b k 0)) × (get_or out k 0 < 128))
    → Loose (zip_with f a b) out
loose_zip f a b out eb eo at =
    let size : length (zip_with f a b) ≡ length a = length_places f a b (length a) refl eb in
    loose_places (zip_with f a b) out (eo ∙ sym size)
    (λ k h.
    let here = at k (omega arith) in
    (here.0 ∙ sym (place_zip f a b k (omega arith) (omega arith)), here.1))

-- a vector that is spelled may be said in other words
pub spells : {v w xs : List ℕ} → v ≡ w → Loose v xs → Loose w xs
spells e l = record { congruent = l.congruent ∙ e; ranged = l.ranged }

-- ---- the places of vectors

pub place_rows : (k : ℕ) (vs a b : List ℕ) (i : ℕ) → i < length b
    → get_or (rows_times k vs a b) i 0 ≡ (dot (take k (drop (k * i) vs)) a + get_or b i 0) % 127
unfolding rows_times
place_rows k vs a [] i h = absurd (omega arith)
place_rows k vs a (y ∷ b) zero h = rw mul-zero
place_rows k vs a (y ∷ b) (suc i) h =
    place_rows k (drop k vs) a b i (le_of_suc-le-suc h) ∙ rw (drop-drop, mul-suc, add_comm (k * i) k)

-- a row's sum up to multiples of 127, and the place that is added
pub row_place : (k : ℕ) (vs a b : List ℕ) (i sum : ℕ) → i < length b
    → sum % 127 ≡ dot (take k (drop (k * i) vs)) a % 127
    → (sum + get_or b i 0) % 127 ≡ get_or (rows_times k vs a b) i 0
row_place k vs a b i sum h e =
    plus_congruent sum (dot (take k (drop (k * i) vs)) a) (get_or b i 0) (get_or b i 0) e refl
    ∙ sym (place_rows k vs a b i h)

-- − β s asks only for the residues
pub less_residues : (β : ℕ) (xs s : List ℕ) → less_times β (residues xs) s ≡ less_times β xs s
unfolding residues less_times zip_with
less_residues β [] s = refl
less_residues β (x ∷ xs) [] = refl
less_residues β (x ∷ xs) (y ∷ s) = λ i. same i ∷ less_residues β xs s i
  where
    same : less β (x % 127) y ≡ less β x y
    same = plus_congruent (x % 127) x (β * (127 - y)) (β * (127 - y)) (mod-mod x 127) refl

-- ---- a part of an array that a loose vector was written to

pub loose_part : {v new part : List ℕ} → part ≡ new → Loose v new → T (all_below 128 part)
loose_part e l = rw e l.ranged

-- with its one spelling it is the vector itself
pub normal_part : {v new part w : List ℕ} → part ≡ new → Loose v new → w ≡ residues part → w ≡ v
normal_part e l made = made ∙ ap residues e ∙ l.congruent
