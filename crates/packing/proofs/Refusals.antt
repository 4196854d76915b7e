-- Which refusal packing and unpacking answer.
-- Assumes nothing.
use mathlib.Core.Path.{◌≡◌, refl, ◌∙◌, sym, ap}
use mathlib.Core.Bool.{true, false}
use mathlib.Core.List.{List}
use Prim.Native.Nat.{ℕ, ◌-◌, ◌*◌, ◌/◌, ◌%◌, ◌^◌, ◌<◌, ◌≤◌}
use native.Mathlib.Omega.{arith}
use borrow.Author.Tests.{eq-eqb, ne_eqb, lt-ltb, le-ltb}
use lib.Dec.{T, ltb, eqb→eq}
use lib.ListN.{length, take, drop}
use Rattle.outcome.specs.Answer.{first_refusal, pick, Answers}
use Rattle.outcome.proofs.Checks.{passed, done}
use Rattle.packing.specs.Packing.{number, digits, size, pack, unpack, spare_zero, all_below, pack_checks, unpack_checks}
use Rattle.packing.proofs.RoundTrip.{length_pack, unpack_pack_below, pack_spare}
use Rattle.packing.proofs.Below.{Below, below, below_le, below_test}
use Rattle.packing.proofs.Seen.{see_rest, spare_rest}

module _ (w m : ℕ) (xs : List ℕ) (bytes : ℕ) where
  pub pack_bad_size : (bytes ≡ size w (length xs) → ⊥) → 1 ≡ first_refusal (pack_checks w m xs bytes)
  unfolding pack_checks
  pack_bad_size e = rw (ne_eqb bytes (size w (length xs)) e)

  pub pack_bad_field : bytes ≡ size w (length xs) → all_below m xs ≡ false → 3 ≡ first_refusal (pack_checks w m xs bytes)
  unfolding pack_checks
  pack_bad_field e f = rw (eq-eqb bytes (size w (length xs)) e, f)

  pub pack_passes : bytes ≡ size w (length xs) → all_below m xs ≡ true → 0 ≡ first_refusal (pack_checks w m xs bytes)
  unfolding pack_checks
  pack_passes e f = rw (eq-eqb bytes (size w (length xs)) e, f)

  -- what a packing that refuses nothing may rely on
  pub packable : m ≤ 2 ^ w → first_refusal (pack_checks w m xs bytes) ≡ 0
      → (bytes ≡ size w (length xs)) × (all_below (2 ^ w) xs ≡ true)
  unfolding pack_checks
  packable l e =
      let held = passed (pack_checks w m xs bytes) e in
      (eqb→eq bytes (size w (length xs)) held.0, below_test (below_le l (below m xs held.1.0)))

-- the same of fields below 2 ^ w - 1
pub packable_fields : (w : ℕ) (xs : List ℕ) (bytes : ℕ) → first_refusal (pack_checks w (2 ^ w - 1) xs bytes) ≡ 0
    → (bytes ≡ size w (length xs)) × (all_below (2 ^ w) xs ≡ true)
packable_fields w xs bytes e = packable w (2 ^ w - 1) xs bytes (omega arith) e

module _ (w m n : ℕ) (bytes : List ℕ) where
  pub unpack_bad_size : (length bytes ≡ size w n → ⊥) → 1 ≡ first_refusal (unpack_checks w m n bytes)
  unfolding unpack_checks
  unpack_bad_size e = rw (ne_eqb (length bytes) (size w n) e)

  pub unpack_bad_field : length bytes ≡ size w n → all_below m (unpack w n bytes) ≡ false
      → 3 ≡ first_refusal (unpack_checks w m n bytes)
  unfolding unpack_checks
  unpack_bad_field e f = rw (eq-eqb (length bytes) (size w n) e, f)

  pub unpack_bad_spare : length bytes ≡ size w n → all_below m (unpack w n bytes) ≡ true → spare_zero w n bytes ≡ false
      → 3 ≡ first_refusal (unpack_checks w m n bytes)
  unfolding unpack_checks
  unpack_bad_spare e f s = rw (eq-eqb (length bytes) (size w n) e, f, s)

  pub unpack_passes : length bytes ≡ size w n → all_below m (unpack w n bytes) ≡ true → spare_zero w n bytes ≡ true
      → 0 ≡ first_refusal (unpack_checks w m n bytes)
  unfolding unpack_checks
  unpack_passes e f s = rw (eq-eqb (length bytes) (size w n) e, f, s)

  -- what unpacking that refuses nothing has shown
  pub unpackable : first_refusal (unpack_checks w m n bytes) ≡ 0
      → (length bytes ≡ size w n) × Below m (unpack w n bytes) × T (spare_zero w n bytes)
  unfolding unpack_checks
  unpackable e =
      let held = passed (unpack_checks w m n bytes) e in
      (eqb→eq (length bytes) (size w n) held.0, below m (unpack w n bytes) held.1.0, held.1.1.0)

-- the tests of unpacking from a string of the right size: `seen` tells of the fields of its whole groups, r of all fields,
-- and v is the number past the groups
module _ (w n : ℕ) {bytes : List ℕ} (b : Below 256 bytes) (e : length bytes ≡ size w n) (v : ℕ)
    (q : v ≡ number 8 (take (length bytes - n / 8 * w) (drop (n / 8 * w) bytes))) (seen r : ℕ)
    (groups : ltb seen (2 ^ w) ≡ all_below (2 ^ w - 1) (digits w (n / 8 * 8) (number 8 bytes)))
    (rest : ltb r (2 ^ w) ≡ pick (ltb seen (2 ^ w)) (all_below (2 ^ w - 1) (digits w (n % 8) v)) false) where
  pub field_refused : 2 ^ w ≤ r → 3 ≡ first_refusal (unpack_checks w (2 ^ w - 1) n bytes)
  field_refused l =
      unpack_bad_field w (2 ^ w - 1) n bytes e (sym (see_rest w n b v q seen r groups rest) ∙ le-ltb r (2 ^ w) l)

  fields_pass : r < 2 ^ w → all_below (2 ^ w - 1) (unpack w n bytes) ≡ true
  fields_pass h = sym (see_rest w n b v q seen r groups rest) ∙ lt-ltb r (2 ^ w) h

  pub spare_refused : r < 2 ^ w → 2 ^ (n % 8 * w) ≤ v → 3 ≡ first_refusal (unpack_checks w (2 ^ w - 1) n bytes)
  spare_refused h l =
      unpack_bad_spare w (2 ^ w - 1) n bytes e (fields_pass h)
      (spare_rest w n b v q ∙ le-ltb v (2 ^ (n % 8 * w)) l)

  pub rest_passes : r < 2 ^ w → v < 2 ^ (n % 8 * w) → 0 ≡ first_refusal (unpack_checks w (2 ^ w - 1) n bytes)
  rest_passes h l =
      unpack_passes w (2 ^ w - 1) n bytes e (fields_pass h)
      (spare_rest w n b v q ∙ lt-ltb v (2 ^ (n % 8 * w)) l)

-- what was packed is taken by unpacking
pub packed_passes : (w m : ℕ) {xs : List ℕ} → m ≤ 2 ^ w → Below m xs → first_refusal (unpack_checks w m (length xs) (pack w xs)) ≡ 0
packed_passes w m {xs} l b =
    let fits : Below (2 ^ w) xs = below_le l b in
    sym
    (unpack_passes w m (length xs) (pack w xs) (length_pack w xs)
    (ap (all_below m) (unpack_pack_below w fits) ∙ below_test b) (pack_spare w fits))

-- an entry that passed its tests and then wrote the digits of the number
pub pack_done : (w m : ℕ) (xs old lent : List ℕ) (r n : ℕ) → r ≡ first_refusal (pack_checks w m xs (length old)) → r ≡ 0
    → n ≡ size w (length xs) → lent ≡ digits 8 n (number w xs)
    → Answers (pack_checks w m xs (length old)) (pack w xs) old 0 lent
unfolding pack
pack_done w m xs old lent r n e z l made = done (sym e ∙ z) (made ∙ ap (λ (k : ℕ). digits 8 k (number w xs)) l)

-- the same of fields below 2 ^ w - 1, in a buffer of n bytes
pub pack_made : (w : ℕ) (xs old lent : List ℕ) (n : ℕ) → first_refusal (pack_checks w (2 ^ w - 1) xs (length old)) ≡ 0
    → n ≡ length old → lent ≡ digits 8 n (number w xs)
    → Answers (pack_checks w (2 ^ w - 1) xs (length old)) (pack w xs) old 0 lent
pack_made w xs old lent n e l made =
    pack_done w (2 ^ w - 1) xs old lent 0 n (sym e) refl (l ∙ (packable_fields w xs (length old) e).0) made

pub unpack_done : (w m : ℕ) (bytes old lent : List ℕ) (n : ℕ) → first_refusal (unpack_checks w m (length old) bytes) ≡ 0
    → n ≡ length old → lent ≡ digits w n (number 8 bytes)
    → Answers (unpack_checks w m (length old) bytes) (unpack w (length old) bytes) old 0 lent
unfolding unpack
unpack_done w m bytes old lent n e l made = done e (made ∙ ap (λ (k : ℕ). digits w k (number 8 bytes)) l)
