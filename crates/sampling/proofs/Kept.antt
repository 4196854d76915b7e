-- Laws on what a draw keeps of some fields. Assumes nothing.
use mathlib.Core.Path.{◌≡◌, refl}
use mathlib.Core.Bool.{Bool, true, false}
use mathlib.Core.List.{List, [], ◌∷◌, ◌++◌, append_assoc, append-nil}
use Prim.Native.Nat.{ℕ, zero, suc, ◌+◌, ◌*◌, ◌/◌, ◌%◌, ◌^◌, ◌<◌, ◌≤◌}
use native.Mathlib.Nat.{le_of_suc-le-suc, not-suc-le-zero}
use native.Mathlib.Numerals.{add-one}
use native.Mathlib.Omega.{arith}
use borrow.Author.Tests.{ltb-true, lt-ltb, le-ltb}
use lib.Dec.{T, ltb, leb→le}
use lib.ListN.{length, get_or, set, take}
use lib.Seq.{get_or-take, length-take-le, take-set-le, take-suc-set}
use Rattle.outcome.specs.Answer.{pick}
use Rattle.packing.specs.Packing.{digits}
use Rattle.packing.proofs.Below.{Below, none, more, below_take}
use Rattle.packing.proofs.Groups.{digits_more}
use Rattle.sampling.specs.Sampling.{keep, enough, yield, sample}

-- ---- fields are kept one by one

pick_append : (b : Bool) (x : ℕ) (xs ys : List ℕ) → pick b (x ∷ (xs ++ ys)) (xs ++ ys) ≡ pick b (x ∷ xs) xs ++ ys
pick_append true x xs ys = refl
pick_append false x xs ys = refl

pub keep_append : (m d : ℕ) (xs ys : List ℕ) → keep m d (xs ++ ys) ≡ keep m d xs ++ keep m d ys
unfolding keep
keep_append m d [] ys = refl
keep_append m d (x ∷ xs) ys =
    rw (keep_append m d xs ys) (pick_append (ltb x m) (x + d) (keep m d xs) (keep m d ys))

-- field k of a number is kept behind those before it
pub kept_more : (m d w k v left : ℕ) (front next : List ℕ) → left ≡ v / 2 ^ (w * k) →
    next ≡ (front ++ keep m d (digits w k v)) ++ keep m d ((left % 2 ^ w) ∷ []) →
    next ≡ front ++ keep m d (digits w (k + 1) v)
kept_more m d w k v left front next l e =
    rw (e, l, append_assoc, ← (keep_append m d (digits w k v) ((v / 2 ^ (w * k) % 2 ^ w) ∷ [])), ← (digits_more w k v))

-- ---- a list filled from the front: x + d is stored behind the got first, and counts where x is below m

pub stored_kept : (m d x got : ℕ) (s : List ℕ) → x < m → got < length s →
    take (got + 1) (set s got (x + d)) ≡ take got s ++ keep m d (x ∷ [])
unfolding keep
stored_kept m d x got s l h = rw (add-one got, take-suc-set s got (x + d) h, lt-ltb x m l)

pub stored_dropped : (m d x got : ℕ) (s : List ℕ) → m ≤ x → got < length s →
    take got (set s got (x + d)) ≡ take got s ++ keep m d (x ∷ [])
unfolding keep
stored_dropped m d x got s l h = rw (take-set-le got s got (x + d) (omega arith), le-ltb x m l, append-nil)

-- ---- what is kept is in range: the addend at least, and below the limit and the addend together

pub record Drawn (m d x : ℕ) : Type 0 where
  pub least : d ≤ x
  pub below : x < m + d

pick_drawn : (b : Bool) (x m d : ℕ) (ys : List ℕ) → ltb x m ≡ b → ((i : ℕ) → i < length ys → Drawn m d (get_or ys i 0)) →
    (i : ℕ) → i < length (pick b ((x + d) ∷ ys) ys) → Drawn m d (get_or (pick b ((x + d) ∷ ys) ys) i 0)
pick_drawn true x m d ys e h zero l = let t : x < m = ltb-true x m e in omega arith
pick_drawn true x m d ys e h (suc i) l = h i (le_of_suc-le-suc l)
pick_drawn false x m d ys e h i l = h i l

pub keep_drawn : (m d : ℕ) (xs : List ℕ) (i : ℕ) → i < length (keep m d xs) → Drawn m d (get_or (keep m d xs) i 0)
unfolding keep
keep_drawn m d [] i l = absurd (not-suc-le-zero l)
keep_drawn m d (x ∷ xs) i l = pick_drawn (ltb x m) x m d (keep m d xs) refl (keep_drawn m d xs) i l

pick_below : (b : Bool) (x m d : ℕ) {ys : List ℕ} → ltb x m ≡ b → Below (m + d) ys → Below (m + d) (pick b ((x + d) ∷ ys) ys)
pick_below true x m d e h = let l : x < m = ltb-true x m e in more {x = x + d} (omega arith) h
pick_below false x m d e h = h

pub keep_below : (m d : ℕ) (xs : List ℕ) → Below (m + d) (keep m d xs)
unfolding keep
keep_below m d [] = none
keep_below m d (x ∷ xs) = pick_below (ltb x m) x m d refl (keep_below m d xs)

-- ---- a draw

pub sample_below : (w m d n : ℕ) (block : List ℕ) → Below (m + d) (sample w m d n block)
unfolding sample yield
sample_below w m d n block = below_take n (keep_below m d _)

module _ (w m d n : ℕ) (block : List ℕ) (ok : T (enough n (yield w m d block))) where
  -- a draw that is enough gives exactly the wanted count
  pub length_sample : length (sample w m d n block) ≡ n
  unfolding sample enough
  length_sample = length-take-le n (yield w m d block) (leb→le n (length (yield w m d block)) ok)

  -- and each value in range
  pub sample_drawn : (i : ℕ) → i < n → Drawn m d (get_or (sample w m d n block) i 0)
  unfolding sample enough yield
  sample_drawn i h =
      let all : n ≤ length (yield w m d block) = leb→le n (length (yield w m d block)) ok in
      rw (get_or-take n (yield w m d block) i 0 h) (keep_drawn m d _ i (omega arith))
