-- What class tables are (document 02, M-108), of every program that meets the contracts. The proofs stand in
-- proofs/Theorems.antt. That every table that is reached is sound stands in crate package (`ImageReached`).
-- Assumes nothing.
use Rattle.std.specs.Prelude.{◌≡◌, true, false, List, [], ◌∷◌, ℕ, ◌≤◌, ◌<◌, length, replicate, take, get_or}
use Rattle.outcome.specs.Answer.{bad_profile}
use Rattle.outcome.specs.Lists.{In}
use Rattle.outcome.specs.Result.{Ok, Err}
use Rattle.profile.specs.declared.Profile.{Profile}
use Rattle.profile.specs.Rules.{contains, low, high, Class, classes, class_in, valid}
use Rattle.words.specs.Words.{Small}
use Rattle.profile.specs.Table.{most_rows, table_size, table_of}
use Rattle.profile.specs.Line.{read_line}
use Rattle.store.specs.Stored.{slots_size, store_size, classes_of, stored}
use Rattle.table.specs.File.{sound_table, table_text, read_table, table_image, ReadsTable, LoadsTable}

-- ---- files

-- exactly the texts of sound tables are read, and each as the table whose text it is
abbrev pub ReadsText : Type 0
ReadsText = (rows : List Class) → sound_table rows ≡ true → read_table (table_text rows) ≡ Ok rows

abbrev pub TextRead : Type 0
TextRead =
    (file : List ℕ) (rows : List Class) → read_table file ≡ Ok rows
    → (sound_table rows ≡ true) × (table_text rows ≡ file)

-- ---- images

-- an image of zeros means the built-in classes, and these are sound
abbrev pub ZerosBuiltIn : Type 0
ZerosBuiltIn = (table_of (replicate table_size 0) ≡ classes) × (sound_table classes ≡ true)

-- which tables an image can mean: 1 to 26 rows of numbers below 2^32
abbrev pub RowsFit : List Class → Type 0
RowsFit [] = Unit {0}
RowsFit (c ∷ cs) = (Small c.letter × Small (low c.volts) × Small (high c.volts)) × RowsFit cs

pub record Fits (rows : List Class) : Type 0 where
  pub some : 1 ≤ length rows
  pub few : length rows ≤ most_rows
  pub numbers : RowsFit rows

-- the image of such a table has its size and means the table
abbrev pub TableAgain : Type 0
TableAgain =
    (rows : List Class) → Fits rows → (length (table_image rows) ≡ table_size) × (table_of (table_image rows) ≡ rows)

-- every sound table is one
abbrev pub SoundFits : Type 0
SoundFits = (rows : List Class) → sound_table rows ≡ true → Fits rows

-- and every image of bytes means one; so reading, writing and reading again gives the same table
abbrev pub ImageFits : Type 0
ImageFits = (image : List ℕ) → ((i : ℕ) → get_or image i 0 < 256) → Fits (table_of image)

-- what `read_table` writes with the answer 0 means a sound table, whose text the file is
abbrev pub ReadMeans : Type 0
ReadMeans =
    (file old : List ℕ) (answer : ℕ) (new : List ℕ) → ReadsTable file old answer new → answer ≡ 0
    → (sound_table (table_of new) ≡ true) × (table_text (table_of new) ≡ file)

-- ---- classes

-- volts have a class exactly where a row holds them
abbrev pub ClassHeld : Type 0
ClassHeld =
    (table : List Class) (volts letter : ℕ) → class_in table volts ≡ Ok letter
    → (c : Class) × In c table × (contains c.volts volts ≡ true) × (c.letter ≡ letter)

-- and under a sound table that row is the only one, so that its letter is the class
abbrev pub HeldClass : Type 0
HeldClass =
    (table : List Class) → sound_table table ≡ true → (c : Class) → In c table → (volts : ℕ)
    → contains c.volts volts ≡ true
    → (class_in table volts ≡ Ok c.letter)
    × ((d : Class) → In d table → contains d.volts volts ≡ true → d ≡ c)

-- no two rows of a sound table have one letter
abbrev pub OneRow : Type 0
OneRow =
    (table : List Class) → sound_table table ≡ true → (c d : Class) → In c table → In d table → c.letter ≡ d.letter → c ≡ d

-- volts in a gap belong to no class, and no line with them is read
abbrev pub GapRefused : Type 0
GapRefused =
    (table : List Class) (volts : ℕ) → ((c : Class) → In c table → contains c.volts volts ≡ false)
    → (class_in table volts ≡ Err bad_profile)
    × ((p : Profile) → p.volts ≡ volts → valid table p ≡ false)
    × ((line : List ℕ) (p : Profile) → read_line table line ≡ Ok p → p.volts ≡ volts → ⊥)

-- ---- stores

-- an offer that is answered 0 found nothing stored, leaves nothing stored and every slot as it was, and the store's
-- classes are now those of the file, which are sound
abbrev pub LoadedTable : Type 0
LoadedTable =
    (file old : List ℕ) (answer : ℕ) (new : List ℕ) → LoadsTable file old answer new → answer ≡ 0
    → (length new ≡ store_size) × (stored old ≡ []) × (stored new ≡ []) × (take slots_size new ≡ take slots_size old)
    × (read_table file ≡ Ok (classes_of new)) × (sound_table (classes_of new) ≡ true)

-- while something is stored no offer changes anything
abbrev pub TableStays : Type 0
TableStays =
    (file old : List ℕ) (answer : ℕ) (new : List ℕ) → LoadsTable file old answer new → (stored old ≡ [] → ⊥)
    → ((answer ≡ 0 → ⊥) × (new ≡ old))
