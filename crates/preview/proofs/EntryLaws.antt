-- What the preview answers. Assumes nothing.
use mathlib.Core.Path.{◌≡◌, refl, ◌∙◌, sym, ap}
use mathlib.Core.List.Permᴰ
use mathlib.Core.List.{List, [], ◌∷◌, ◌++◌}
use Prim.Native.Nat.{ℕ, ◌*◌, ◌≤◌, ◌<◌}
use native.Mathlib.Omega.{arith}
use lib.Dec.{T, eqb}
use lib.ListN.{length, drop, length-append}
use borrow.Author.Tests.{eq-eqb, ne_eqb, lt-ltb, le-ltb}
use Rattle.outcome.specs.Answer.{bad_size, pick}
use Rattle.decimal.specs.Decimal.{Room, Appended}
use Rattle.decimal.proofs.Stores.{appended_as, front_length, front}
use Rattle.profile.specs.declared.Profile.{Profile}
use Rattle.profile.specs.Rules.{Class, valid}
use Rattle.profile.specs.Table.{table_size, table_of}
use Rattle.profile.specs.Line.{read_line}
use Rattle.profile.proofs.RuleLaws.{done_passed}
use Rattle.profile.proofs.Theorems.{writes_read}
use Rattle.outcome.specs.Result.{Result, Ok, Err}
use Rattle.store.specs.Stored.{capacity, insert}
use Rattle.store.specs.Reached.{Call, answer_to, Step, ValidCall, Run, Reached, model}
use Rattle.store.proofs.KeyLaws.{device_of_valid}
use Rattle.store.proofs.StoredLaws.{find_insert, perm_eq, perm_length}
use Rattle.store.proofs.Reached.{perm_valid, reached_hold}
use Rattle.order.specs.Order.{in_order}
use Rattle.order.proofs.Theorems.{order_sorts, order_ascending, perm_order, reached_order as order_of_run}
use Rattle.preview.specs.Preview.{
  longest_input,
  cut,
  own_device,
  calls_of,
  calls_in,
  shown,
  ShownOnce,
  header,
  too_long,
  rows,
  longest_row,
  listing,
  RowsAscend,
  SameListing,
  lent_size,
  preview_checks,
  Previews,
}
use Rattle.preview.proofs.RowLaws.{rows_fit}

-- ---- what is shown

-- a valid profile on a device of its own country, class and hertz is a valid call
pub own_valid : (table : List Class) (p : Profile) → T (valid table p)
    → ValidCall table (record { device = own_device p; profile = p })
own_valid table p ok = record { profile = ok; device = device_of_valid table p (own_device p) ok refl }

-- and such are all calls of lines
abbrev AllCalls : List Class → List Call → Type 0
AllCalls table [] = Unit {0}
AllCalls table (c ∷ cs) = ValidCall table c × AllCalls table cs

calls_then : (table : List Class) (cs ds : List Call) → AllCalls table cs → AllCalls table ds
    → AllCalls table (cs ++ ds)
calls_then table [] ds all others = others
calls_then table (c ∷ cs) ds all others = (all.0, calls_then table cs ds all.1 others)

line_valid : (table : List Class) (line : List ℕ) → AllCalls table (calls_of (read_line table line))
line_valid table line = go (read_line table line) refl
  where
    go : (r : Result Profile) → read_line table line ≡ r → AllCalls table (calls_of r)
    go (Ok p) e = (own_valid table p (writes_read table line p e).1, tt)
    go (Err r) e = tt

lines_valid : (table : List Class) (lines : List (List ℕ)) → AllCalls table (calls_in table lines)
unfolding calls_in
lines_valid table [] = tt
lines_valid table (line ∷ lines) =
    calls_then table (calls_of (read_line table line)) (calls_in table lines) (line_valid table line)
    (lines_valid table lines)

-- it is reached by the calls of the lines
model_run : (table : List Class) (cs : List Call) (ps : List Profile) → AllCalls table cs
    → Run table ps cs (model ps cs)
unfolding model
model_run table [] ps all = refl
model_run table (c ∷ cs) ps all =
    let next : List Profile = pick (eqb (answer_to c ps) 0) (insert c.profile ps) ps in
    let step : Step c ps next =
    record {
      taken = λ e. rw (eq-eqb (answer_to c ps) 0 e)
          (record { finds = λ k. find_insert k c.profile ps; listed = perm_eq refl });
      kept = λ ne. rw (ne_eqb (answer_to c ps) 0 ne);
    } in
    (next, all.0, step, model_run table cs next all.1)

shown_reached : (table : List Class) (input : List ℕ) → Reached table (calls_in table (cut input)) (shown table input)
shown_reached table input = model_run table (calls_in table (cut input)) [] (lines_valid table (cut input))

pub shown_once : (table : List Class) → ShownOnce table
shown_once table input =
    let holds = reached_hold table (calls_in table (cut input)) (shown table input) (shown_reached table input) in
    (holds.distinct, holds.fits)

-- what is reached, in order, is what is shown, in order
pub reached_order : (table : List Class) (input : List ℕ) (ps : List Profile)
    → Reached table (calls_in table (cut input)) ps → in_order ps ≡ in_order (shown table input)
reached_order table input ps run = (order_of_run table (calls_in table (cut input)) ps run).0

pub rows_ascend : (table : List Class) → RowsAscend table
rows_ascend table input =
    ((order_sorts (shown table input)).1, order_ascending (shown table input) (shown_once table input).0)

-- the rows of what is reached have room
pub reached_room : (table : List Class) (calls : List Call) (ps : List Profile) → Reached table calls ps
    → length (rows (in_order ps)) ≤ longest_row * capacity
unfolding Permᴰ.symm
reached_room table calls ps run =
    let holds = reached_hold table calls ps run in
    let perm = (order_sorts ps).1 in
    let all = perm_valid table (Permᴰ.symm perm) holds.all_valid in
    omega (arith, rows_fit table (in_order ps) all, holds.fits, perm_length perm)

-- ---- the text

module _ (table : List Class) (input : List ℕ) where
  pub listing_long : longest_input < length input → listing table input ≡ too_long
  unfolding listing
  listing_long long = rw (lt-ltb longest_input (length input) long)

  pub listing_rows : length input ≤ longest_input → listing table input ≡ header ++ rows (in_order (shown table input))
  unfolding listing
  listing_rows size = rw (le-ltb longest_input (length input) size)

  -- the rows of what was reached
  pub listing_reached : length input ≤ longest_input → (ps : List Profile) → Reached table (calls_in table (cut input)) ps
      → header ++ rows (in_order ps) ≡ listing table input
  listing_reached size ps run =
      ap (λ (l : List Profile). header ++ rows l) (reached_order table input ps run) ∙ sym (listing_rows size)

pub same_listing : (table : List Class) → SameListing table
same_listing table a b short brief perm =
    listing_rows table a short
    ∙ ap (λ (l : List Profile). header ++ rows l) (perm_order perm (shown_once table a).0)
    ∙ sym (listing_rows table b brief)

-- ---- the answer

module _ (table input old : List ℕ) where
  pub table_refused : (length table ≡ table_size → ⊥) → Previews table input old (Err bad_size) old
  table_refused other = record { answered = rw (ne_eqb (length table) table_size other); content = refl }

  module _ (right : length table ≡ table_size) where
    pub lent_refused : (length old ≡ lent_size → ⊥) → Previews table input old (Err bad_size) old
    lent_refused other =
        record {
          answered = rw (eq-eqb (length table) table_size right, ne_eqb (length old) lent_size other);
          content = refl;
        }

    pub previews_done : {n : ℕ} {text new : List ℕ} → length old ≡ lent_size → text ≡ listing (table_of table) input
        → Appended old 0 text new n → n ≤ lent_size → Previews table input old (Ok n) new
    previews_done {n} {text} {new} size its put most =
        let whole : Appended old 0 (listing (table_of table) input) new n = appended_as its put in
        let room : Room old 0 (listing (table_of table) input) = record { room = omega (arith, whole.place) } in
        record {
          answered =
              rw (eq-eqb (length table) table_size right, eq-eqb (length old) lent_size size)
              (ap Ok (front_length whole room));
          content = front whole room;
        }

-- the length that is answered is that of the listing
pub length_listed : {table input old lent : List ℕ} {n : ℕ} → Previews table input old (Ok n) lent
    → n ≡ length (listing (table_of table) input)
length_listed {table} {input} {old} {lent} {n} previews =
    sym (done_passed (preview_checks table old) (length (listing (table_of table) input)) n (sym previews.answered)).1

-- and lies within the lent bytes
pub length_within : {table input old lent : List ℕ} {n : ℕ} → Previews table input old (Ok n) lent → n ≤ length lent
length_within {table} {input} {old} {lent} {n} previews =
    let text : List ℕ = listing (table_of table) input in
    let whole : lent ≡ text ++ drop (length text) old = previews.content in
    omega (arith, length_listed previews, ap length whole, length-append text (drop (length text) old))
