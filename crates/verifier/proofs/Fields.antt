-- Fields read from bytes whose size is right. Assumes nothing.
use mathlib.Core.Path.{◌≡◌, ◌∙◌, sym, subst}
use mathlib.Core.List.{List, [], ◌∷◌}
use Prim.Native.Nat.{ℕ}
use borrow.Author.Tests.{eq-eqb}
use lib.Dec.{T}
use lib.ListN.{length}
use Rattle.outcome.specs.Answer.{Check, ◌unless◌, bad_field, Answers}
use Rattle.outcome.proofs.Checks.{passed}
use Rattle.packing.specs.Packing.{unpack, size, all_below, spare_zero, unpack_checks}
use Rattle.packing.proofs.RoundTrip.{length_unpack}
use Rattle.packing.specs.InnerVector.{Vector}

module _ (w m n : ℕ) where
  -- the tests of n fields: range, then spare bits
  abbrev pub field_checks : List ℕ → List Check
  field_checks bytes =
      bad_field unless all_below m (unpack w n bytes) ∷
      bad_field unless spare_zero w n bytes ∷
      []

  -- what unpacking answers, at bytes and a count that are equal to these
  pub unpacked : {n' r : ℕ} {bytes bytes' old new : List ℕ} → n' ≡ n → bytes' ≡ bytes → length bytes ≡ size w n
      → Answers (unpack_checks w m n' bytes') (unpack w n' bytes') old r new
      → Answers (field_checks bytes) (unpack w n bytes) old r new
  unfolding unpack_checks
  unpacked {n'} {r} {bytes} {bytes'} {old} {new} en eb long answers =
      let here : Answers (unpack_checks w m n bytes) (unpack w n bytes) old r new =
      subst (λ (xs : List ℕ). Answers (unpack_checks w m n xs) (unpack w n xs) old r new) eb
      (subst (λ (k : ℕ). Answers (unpack_checks w m k bytes') (unpack w k bytes') old r new) en answers)
      in
      record { answer = here.answer ∙ rw (eq-eqb (length bytes) (size w n) long); content = here.content }

  -- where nothing is refused: what is read is the fields, in range, and no spare bit is 1
  pub record Read (bytes new : List ℕ) : Type 0 where
    pub fields : new ≡ unpack w n bytes
    pub ranged : T (all_below m (unpack w n bytes))
    pub spare : T (spare_zero w n bytes)

  pub reads : {bytes old new xs : List ℕ} → Answers (field_checks bytes) (unpack w n bytes) old 0 new → xs ≡ new → Read bytes xs
  reads {bytes} answers e =
      let held = passed (field_checks bytes) (sym answers.answer) in
      record { fields = e ∙ answers.content; ranged = held.0; spare = held.1.0 }

  -- they are a vector
  pub read_vector : {bytes new : List ℕ} → Read bytes new → Vector m n new
  read_vector {bytes} {new} read =
      rw read.fields (record { long = length_unpack w n bytes; ranged = read.ranged })
