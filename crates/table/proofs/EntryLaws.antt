-- What reading and loading answer, stage after stage. Assumes nothing.
use mathlib.Core.Path.{◌≡◌, refl, ◌∙◌, sym, ap}
use mathlib.Core.Bool.{true, false}
use mathlib.Core.List.{List}
use Prim.Native.Nat.{ℕ}
use lib.ListN.{length}
use borrow.Author.Tests.{eq-eqb, ne_eqb}
use Rattle.outcome.specs.Answer.{bad_table}
use Rattle.outcome.specs.Result.{Result, Ok, Err, number_in}
use Rattle.outcome.proofs.Checks.{done, refused, number_positive}
use Rattle.profile.specs.Rules.{Class}
use Rattle.profile.specs.Table.{table_size}
use Rattle.store.specs.Stored.{store_size, stored}
use Rattle.table.specs.File.{read_table, table_image, image_in, is_empty, with_table, ReadsTable, LoadsTable}
use Rattle.table.specs.InnerRows.{RowsRead}

-- a file that is read has rows, and the image is theirs
read_as : {file image : List ℕ} → RowsRead file 0 image → (rows : List Class) × (read_table file ≡ Ok rows) × (image ≡ table_image rows)
read_as {file} {image} read = go (read_table file) refl
  where
    go : (r : Result (List Class)) → read_table file ≡ r
        → (rows : List Class) × (read_table file ≡ Ok rows) × (image ≡ table_image rows)
    go (Ok rows) e = (rows, e, read.content rows e)
    go (Err k) e = absurd (number_positive k (sym (ap number_in e) ∙ sym read.answer))

pub load_done : {file old new image : List ℕ} → length old ≡ store_size → RowsRead file 0 image
    → is_empty (stored old) ≡ true → new ≡ with_table image old → LoadsTable file old 0 new
load_done {file} {old} size read empty made =
    let rows = read_as read in
    done (rw (eq-eqb (length old) store_size size, rows.1, empty))
    (made ∙ ap (λ (image : List ℕ). with_table image old) (rows.2 ∙ sym (ap image_in rows.1)))

module _ (file old : List ℕ) where
  pub read_size : (length old ≡ table_size → ⊥) → ReadsTable file old 1 old
  read_size h = refused 0 (rw (ne_eqb (length old) table_size h)) refl

  pub load_size : (length old ≡ store_size → ⊥) → LoadsTable file old 1 old
  load_size h = refused 0 (rw (ne_eqb (length old) store_size h)) refl

  module _ (size : length old ≡ table_size) where
    pub read_broken : read_table file ≡ Err bad_table → ReadsTable file old 13 old
    read_broken e = refused 12 (rw (eq-eqb (length old) table_size size, e)) refl

    pub read_done : {new : List ℕ} (rows : List Class) → read_table file ≡ Ok rows → new ≡ table_image rows
        → ReadsTable file old 0 new
    read_done rows read made = done (rw (eq-eqb (length old) table_size size, read)) (made ∙ sym (ap image_in read))

  module _ (size : length old ≡ store_size) where
    pub load_broken : read_table file ≡ Err bad_table → LoadsTable file old 13 old
    load_broken e = refused 12 (rw (eq-eqb (length old) store_size size, e)) refl

    module _ (rows : List Class) (read : read_table file ≡ Ok rows) where
      pub load_in_use : is_empty (stored old) ≡ false → LoadsTable file old 14 old
      load_in_use e = refused 13 (rw (eq-eqb (length old) store_size size, read, e)) refl

      pub load_rows : {new : List ℕ} → is_empty (stored old) ≡ true → new ≡ with_table (table_image rows) old
          → LoadsTable file old 0 new
      load_rows e made =
          done (rw (eq-eqb (length old) store_size size, read, e))
          (made ∙ ap (λ (image : List ℕ). with_table image old) (sym (ap image_in read)))
