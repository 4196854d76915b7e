-- The theorems of specs/Theorems.antt. Assumes nothing.
use mathlib.Core.Path.{◌≡◌, refl, ◌∙◌, sym, ap}
use mathlib.Core.Bool.{Bool, true, false, false≢true}
use mathlib.Core.List.{List, [], ◌∷◌, ◌++◌}
use Prim.Native.Nat.{ℕ}
use native.Mathlib.Omega.{arith}
use lib.Dec.{T, eqb}
use lib.ListN.{length, take, length-append}
use lib.Seq.{length-take-le}
use borrow.Author.Tests.{eqb-true, ne_eqb}
use Rattle.outcome.specs.Answer.{bad_size, store_in_use, ◌unless◌, first_refusal}
use Rattle.outcome.specs.Lists.{same}
use Rattle.outcome.specs.Result.{Ok, refusal_in}
use Rattle.outcome.proofs.Checks.{passed, both_passed}
use Rattle.outcome.proofs.Lists.{same_refl, same_equal}
use Rattle.outcome.proofs.Results.{result_done}
use Rattle.profile.specs.declared.Profile.{Profile}
use Rattle.profile.specs.Rules.{contains, Class, valid}
use Rattle.profile.specs.Table.{most_rows, table_size, rows_used, table_of}
use Rattle.words.specs.Words.{word_at}
use Rattle.profile.proofs.RuleLaws.{holds, test, parts, passed_done, done_passed}
use Rattle.profile.proofs.Theorems.{writes_read}
use Rattle.store.specs.Stored.{slots_size, store_size, classes_of, stored}
use Rattle.table.specs.File.{
  sound_rows,
  sound_table,
  table_text,
  rows_in,
  read_table_checks,
  read_table,
  image_in,
  is_empty,
  load_table_checks,
  with_table,
}
use Rattle.outcome.specs.Lists.{In}
use Rattle.table.specs.Theorems.{ReadsText, TextRead, ZerosBuiltIn, TableAgain, SoundFits, ImageFits, ReadMeans, ClassHeld, HeldClass, OneRow, GapRefused, LoadedTable, TableStays}
use Rattle.table.proofs.RowLaws.{sized, rows_sound}
use Rattle.table.proofs.TextLaws.{rows_again}
use Rattle.table.proofs.ImageLaws.{image_size, table_again, sound_small, read_fits}
use Rattle.table.proofs.ClassLaws.{class_row, no_class, one_holds, one_letter, some_class}
use Rattle.table.proofs.StoreLaws.{none, slots_kept, table_behind, stored_kept}

-- ---- files

pub reads_text : ReadsText
unfolding read_table
reads_text rows e =
    let file = table_text rows in
    let found : rows_in most_rows file ≡ rows = rows_again most_rows rows (sized rows e).1 (rows_sound rows e) in
    let sound : T (sound_table (rows_in most_rows file)) = test _ (ap sound_table found ∙ e) in
    let again : same (table_text (rows_in most_rows file)) file ≡ true =
    ap (λ (cs : List Class). same (table_text cs) file) found ∙ same_refl file in
    passed_done (read_table_checks file) (rows_in most_rows file) (sound, (test _ again, tt)) ∙ ap Ok found

pub text_read : TextRead
unfolding read_table
text_read file rows e =
    let found = done_passed (read_table_checks file) (rows_in most_rows file) rows e in
    let tests = found.0 in
    rw (← found.1) (holds _ tests.0, same_equal (table_text (rows_in most_rows file)) file tests.1.0)

-- ---- images

pub zeros_built_in : ZerosBuiltIn
unfolding table_of rows_used word_at sound_rows
zeros_built_in = (refl, refl)

pub table_means : TableAgain
table_means rows fits = (image_size rows fits.few, table_again rows fits.few fits.some fits.numbers)

pub sound_fits : SoundFits
sound_fits rows e =
    record { some = (sized rows e).0; few = (sized rows e).1; numbers = sound_small rows (rows_sound rows e) }

pub image_fits : ImageFits
image_fits = read_fits

pub read_again : (file : List ℕ) → first_refusal (refusal_in (read_table file)) ≡ 0
    → (length (image_in (read_table file)) ≡ table_size) × (read_table file ≡ Ok (table_of (image_in (read_table file))))
read_again file e =
    let found = result_done (read_table file) e in
    let again = table_means found.0 (sound_fits found.0 (text_read file found.0 found.1).0) in
    rw found.1 (again.0, ap Ok (sym again.1))

pub read_means : ReadMeans
read_means file old answer new r e =
    let size = bad_size unless eqb (length old) table_size ∷ [] in
    let ok = both_passed size (refusal_in (read_table file)) (sym r.answer ∙ e) in
    let made : new ≡ image_in (read_table file) = rw e at r.content in
    rw made (text_read file (table_of (image_in (read_table file))) (read_again file ok.1).1)

-- ---- classes

pub class_held : ClassHeld
class_held = class_row

pub held_class : HeldClass
held_class table e c m volts h =
    let sound = rows_sound table e in
    let only : (d : Class) → In d table → contains d.volts volts ≡ true → d ≡ c =
    λ d n k. one_holds table sound c d m n volts h k in
    let some = some_class table c m volts h in
    let found = class_row table volts some.0 some.1 in
    let it : found.0 ≡ c = only found.0 found.1 found.2 in
    (some.1 ∙ ap Ok (sym found.3 ∙ ap (λ (x : Class). x.letter) it), only)

pub one_row : OneRow
one_row table e c d m n same = one_letter table (rows_sound table e) c d m n same

refuted : (b : Bool) → (T b → ⊥) → b ≡ false
refuted true n = absurd (n tt)
refuted false n = refl

pub gap_refused : GapRefused
gap_refused table volts none =
    let class = no_class table volts none in
    let broken : (p : Profile) → p.volts ≡ volts → T (valid table p) → ⊥ =
    λ p v ok. false≢true (rw (v, class) at (parts table p ok).agrees) in (
      class,
      λ p v. refuted (valid table p) (broken p v),
      λ line p r v. broken p v (writes_read table line p r).1,
    )

-- ---- stores

-- what an offer that is answered 0 passed
passed_load : (file old : List ℕ) → first_refusal (load_table_checks file old) ≡ 0
    → (length old ≡ store_size) × (first_refusal (refusal_in (read_table file)) ≡ 0) × (stored old ≡ [])
passed_load file old e =
    let size = bad_size unless eqb (length old) store_size ∷ [] in
    let free = store_in_use unless is_empty (stored old) ∷ [] in
    let first = both_passed size (refusal_in (read_table file) ++ free) e in
    let later = both_passed (refusal_in (read_table file)) free first.1 in (
      eqb-true (length old) store_size (holds _ (passed size first.0).0),
      later.0,
      none (stored old) (holds _ (passed free later.1).0),
    )

pub loaded_table : LoadedTable
loaded_table file old answer new r e =
    let ok = passed_load file old (sym r.answer ∙ e) in
    let image : List ℕ = image_in (read_table file) in
    let made : new ≡ with_table image old = rw e at r.content in
    let again = read_again file ok.1 in
    let behind : classes_of (with_table image old) ≡ table_of image = ap table_of (table_behind image old ok.0) in
    rw (made, behind) (
      omega (arith, length-append (take slots_size old) image, again.0, length-take-le slots_size old (omega (arith, ok.0))),
      ok.2,
      stored_kept image old ok.0 ∙ ok.2,
      slots_kept image old ok.0,
      again.1,
      (text_read file (table_of image) again.1).0,
    )

pub table_stays : TableStays
table_stays file old answer new r some =
    let other : answer ≡ 0 → ⊥ = λ e. some (passed_load file old (sym r.answer ∙ e)).2 in
    (other, rw (ne_eqb answer 0 other) at r.content)
