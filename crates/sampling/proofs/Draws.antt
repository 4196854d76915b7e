-- A draw into scratch: what was kept in front and what the rest of the block yields are together what the block yields.
-- Assumes nothing.
use mathlib.Core.Path.{◌≡◌, ◌∙◌, sym, ap}
use mathlib.Core.Bool.{true, false}
use mathlib.Core.List.{List, [], ◌∷◌, ◌++◌, append_assoc, append-nil}
use Prim.Native.Nat.{ℕ, ◌+◌, ◌-◌, ◌*◌, ◌/◌, ◌%◌, ◌<◌, ◌≤◌, min}
use native.Mathlib.Nat.{add-mod_left, mod-add-div, mod-eq_of_lt}
use native.Mathlib.Omega.{arith}
use borrow.Author.Tests.{le-leb, lt-leb}
use lib.Dec.{leb}
use lib.ListN.{length, take, drop, length-append}
use lib.Seq.{length-take-le, take-append-le, take-take, take_all, drop-append-add}
use Rattle.packing.specs.Packing.{number, digits, unpack}
use Rattle.packing.proofs.Below.{Below}
use Rattle.sampling.specs.Sampling.{fields, keep, yield, sample, enough}
use Rattle.sampling.specs.InnerScratch.{Sampled}
use Rattle.sampling.proofs.Fields.{fields_none, fields_group}
use Rattle.sampling.proofs.Kept.{keep_append}

-- what some bytes yield
pub yield_bytes : (w m d x : ℕ) (bytes : List ℕ) → length bytes ≡ x →
    keep m d (digits w (8 * x / w) (number 8 (take x bytes))) ≡ yield w m d bytes
unfolding fields unpack yield
yield_bytes w m d x bytes e = rw (← e, take_all (length bytes) bytes (omega arith))

yield_none : (w m d : ℕ) → 0 < w → yield w m d [] ≡ []
unfolding yield keep
yield_none w m d pos = rw (fields_none w [] (omega arith))

-- a block is read in groups of w bytes, of which the last may be shorter
yield_whole : (w m d : ℕ) (group later : List ℕ) → Below 256 (group ++ later) → 0 < w → length group ≡ w →
    yield w m d (group ++ later) ≡ yield w m d group ++ yield w m d later
unfolding yield
yield_whole w m d group later b pos full =
    rw (fields_group w group later b pos full) (keep_append m d (fields w group) (fields w later))

-- what stands behind the whole groups of a block
abbrev pub tail_of : ℕ → List ℕ → List ℕ
tail_of w bytes = drop (length bytes - length bytes % w) bytes

-- a group in front changes nothing of it
pub tail_later : (w : ℕ) (group later : List ℕ) → length group ≡ w → tail_of w (group ++ later) ≡ tail_of w later
tail_later w group later full =
    let n : ℕ = length later in
    let within : n % w ≤ n = omega (arith, mod-add-div n w) in
    let same : length (group ++ later) - length (group ++ later) % w ≡ length group + (n - n % w) =
    rw (length-append group later, full, add-mod_left w n) (omega arith) in
    rw same (drop-append-add group later (n - n % w))

-- where no group is left, the tail is
pub tail_left : (w : ℕ) (rest tail : List ℕ) → length rest < w → tail_of w rest ≡ tail → rest ≡ tail
tail_left w rest tail few e =
    let none : length rest - length rest % w ≡ 0 = rw (mod-eq_of_lt few) (omega arith) in
    rw none at e

yield_group : (w m d : ℕ) (group later : List ℕ) → Below 256 (group ++ later) → 0 < w →
    length group ≡ min w (length (group ++ later)) → yield w m d (group ++ later) ≡ yield w m d group ++ yield w m d later
yield_group w m d group [] b pos e = rw (yield_none w m d pos, append-nil, append-nil)
yield_group w m d group (y ∷ ys) b pos e =
    yield_whole w m d group (y ∷ ys) b pos (omega (arith, length-append group (y ∷ ys)))

-- one more group of the bytes that are left
pub draws_more : (w m d : ℕ) (rest group later front next all : List ℕ) → Below 256 rest → 0 < w → rest ≡ group ++ later →
    length group ≡ min w (length rest) → next ≡ front ++ yield w m d group → front ++ yield w m d rest ≡ all →
    next ++ yield w m d later ≡ all
draws_more w m d rest group later front next all b pos e l kept so_far =
    rw (kept, append_assoc, ← (yield_group w m d group later (rw e at b) pos (rw e at l)), ← e) so_far

module _ (w m d : ℕ) {block : List ℕ} where
  -- enough are kept: the rest of the block does not matter
  pub sampled_enough : (n got : ℕ) (scratch rest : List ℕ) → n ≤ got → got ≤ length scratch →
      take got scratch ++ rest ≡ yield w m d block → Sampled w m d n block got scratch
  unfolding sample enough
  sampled_enough n got scratch rest many room e =
      let kept : length (take got scratch) ≡ got = length-take-le got scratch room in
      let all : length (take got scratch) + length rest ≡ length (yield w m d block) = simp length-append at (ap length e) in
      record {
        suffices = le-leb n got many ∙ sym (le-leb n (length (yield w m d block)) (omega arith));
        content = λ _.
            sym (take-take n got scratch many) ∙
            sym (take-append-le n (take got scratch) rest (omega arith)) ∙
            ap (take n) e;
      }

  -- the whole block is read: what is kept is all that it yields
  pub sampled_all : (n got : ℕ) (scratch rest : List ℕ) → 0 < w → got ≤ length scratch → length rest ≡ 0 →
      take got scratch ++ yield w m d rest ≡ yield w m d block → Sampled w m d n block got scratch
  unfolding sample enough
  sampled_all n got scratch (x ∷ rest) pos room none e = absurd (omega arith)
  sampled_all n got scratch [] pos room none e =
      let all : take got scratch ≡ yield w m d block = rw (yield_none w m d pos, append-nil) at e in
      record {
        suffices = ap (leb n) (sym (length-take-le got scratch room) ∙ ap length all);
        content = λ many. sym (take-take n got scratch many) ∙ ap (take n) all;
      }

-- what such a draw says of the block
module _ {w m d n got : ℕ} {block scratch : List ℕ} (s : Sampled w m d n block got scratch) where
  pub sampled_few : got < n → enough n (yield w m d block) ≡ false
  sampled_few h = sym s.suffices ∙ lt-leb n got h

  pub sampled_many : n ≤ got → enough n (yield w m d block) ≡ true
  sampled_many h = sym s.suffices ∙ le-leb n got h
