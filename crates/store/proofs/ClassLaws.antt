-- The class table of a store. Assumes nothing.
use mathlib.Core.Path.{◌≡◌, refl, sym, ap}
use mathlib.Core.Bool.{true, false}
use mathlib.Core.List.{List, []}
use Prim.Native.Nat.{ℕ, ◌+◌, ◌-◌, ◌*◌, ◌≤◌, ◌<◌}
use native.Mathlib.Omega.{arith}
use lib.Dec.{eqb}
use lib.ListN.{length, take, drop, length-drop, drop_of_length-le}
use lib.Seq.{take_all}
use Rattle.words.specs.Words.{word_at}
use Rattle.profile.specs.Table.{row_size, rows_from, table_of}
use Rattle.profile.proofs.TableLaws.{RestAnswers, rest_first, rest_here, rest_later, rest_none}
use Rattle.store.specs.Keys.{has_class}
use Rattle.store.specs.Stored.{slots_size, classes_of}

-- an image that ends before the table has none
pub no_table : (image : List ℕ) → length image ≤ slots_size → table_of [] ≡ classes_of image
no_table image h = ap table_of (sym (drop_of_length-le image h))

-- what is lent of an image from the slots' end on is all behind them
pub behind : (image : List ℕ) → take (length image - slots_size) (drop slots_size image) ≡ drop slots_size image
behind image = take_all (length image - slots_size) (drop slots_size image) (omega (arith, length-drop slots_size image))

-- and so its table
pub behind_slots : (image : List ℕ) → table_of (take (length image - slots_size) (drop slots_size image)) ≡ classes_of image
behind_slots image = ap table_of (behind image)

-- ---- the letter of a class, row by row

-- what the rows from place i on have is what all have
abbrev pub Has : List ℕ → ℕ → ℕ → ℕ → Type 0
Has image n letter i = RestAnswers (λ cs. has_class cs letter) image n i

module _ (image : List ℕ) (n letter : ℕ) where
  pub has_first : Has image n letter 0
  has_first = rest_first (λ cs. has_class cs letter) image n

  module _ (i : ℕ) (before : Has image n letter i) where
    pub has_here : i < n → eqb letter (word_at image (4 + row_size * i)) ≡ true
        → true ≡ has_class (rows_from image 0 n) letter
    has_here h here = rest_here (λ cs. has_class cs letter) image n i before h (λ cs. rw here refl)

    pub has_later : i < n → eqb letter (word_at image (4 + row_size * i)) ≡ false → Has image n letter (i + 1)
    has_later h other = rest_later (λ cs. has_class cs letter) image n i before h (λ cs. rw other refl)

    pub has_nowhere : n ≤ i → false ≡ has_class (rows_from image 0 n) letter
    has_nowhere h = rest_none (λ cs. has_class cs letter) image n i before h
