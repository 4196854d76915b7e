-- The theorems of specs/Theorems.antt. Assumes nothing.
use mathlib.Core.Path.{◌≡◌, refl, ◌∙◌, sym, ap}
use mathlib.Core.Bool.{Bool, true, false}
use mathlib.Core.List.{List}
use Prim.Native.Nat.{ℕ}
use lib.Dec.{T}
use lib.ListN.{length, take}
use borrow.Author.Tests.{le-leb}
use Rattle.decimal.specs.Decimal.{decimal, last_digits}
use Rattle.profile.specs.declared.Limit.TheVariants.{Share, Offset, Rate}
use Rattle.profile.specs.declared.Trip.{Trip}
use Rattle.profile.specs.Rules.{RatePoint}
use Rattle.std.specs.Prelude.{None, Some}
use Rattle.profile.specs.declared.Profile.{Profile}
use Rattle.outcome.specs.Lists.{same}
use Rattle.outcome.specs.Result.{Ok}
use Rattle.outcome.proofs.Lists.{same_refl, same_equal}
use Rattle.profile.specs.Rules.{◌to◌, contains, valid, obeys, fields_of, GP1, GP2, line_kind}
use Rattle.profile.specs.Line.{tag, shortest, longest, field_bytes, written, line_of, kind_in, scanned, read_checks, read_line}
use Rattle.profile.specs.Theorems.{ReadsWritten, WritesRead, OneLine, ReadsKind, FieldCounts, LineLengths, least, greatest, KindLengths, Reached}
use Rattle.profile.proofs.RuleLaws.{test, parts, passed_done, done_passed}
use Rattle.profile.proofs.LineLaws.{kind_lengths, line_lengths, kind_again, scanned_line}

pub line_lengths_hold : LineLengths
line_lengths_hold table p ok = line_lengths p (parts table p ok).fields

pub kind_lengths_hold : KindLengths
kind_lengths_hold table p ok = kind_lengths p (parts table p ok).fields

tag_first : (p : Profile) → take 4 (line_of p) ≡ tag (line_kind p)
unfolding line_of
tag_first p = refl

pub reads_written : ReadsWritten
unfolding read_line
reads_written table p ok =
    let line = line_of p in
    let back = scanned_line p (parts table p ok).fields in
    let bounds = line_lengths_hold table p ok in
    let sized : contains (shortest to longest) (length line) ≡ true =
    rw (le-leb shortest (length line) bounds.0) (le-leb (length line) longest bounds.1) in
    let begun : take 4 line ≡ tag (kind_in line) = tag_first p ∙ ap tag (sym (kind_again p)) in
    let tagged : same (take 4 line) (tag (kind_in line)) ≡ true =
    ap (λ (l : List ℕ). same l (tag (kind_in line))) begun ∙ same_refl (tag (kind_in line)) in
    let still_valid : T (valid table (scanned line)) = rw back ok in
    let respelled : same (line_of (scanned line)) line ≡ true =
    ap (λ (q : Profile). same (line_of q) line) back ∙ same_refl line in
    passed_done (read_checks table line) (scanned line)
    (test _ sized, (test _ tagged, (still_valid, (test _ respelled, tt))))
    ∙ ap Ok back

pub writes_read : WritesRead
unfolding read_line
writes_read table line p e =
    let found = done_passed (read_checks table line) (scanned line) p e in
    let tests = found.0 in
    rw (← found.1) (same_equal (line_of (scanned line)) line tests.1.1.1.0, tests.1.1.0)

pub one_line : OneLine
one_line table line line' p e e' = sym (writes_read table line p e).0 ∙ (writes_read table line' p e').0

pub reads_kind : ReadsKind
reads_kind table line p e = ap (take 4) (sym (writes_read table line p e).0) ∙ tag_first p

pub field_counts : FieldCounts
field_counts = (refl, refl)

-- ---- the shortest and the longest line of each kind

-- a profile of country AA whose trip points have these limits, all with one delay
sample : ℕ → ℕ → ℕ → ℕ → ℕ → ℕ → RatePoint → Profile
sample class serial volts under_voltage offset delay point =
    let share : ℕ → Trip = λ n. record { limit = Share n; delay = delay } in
    let off : Bool → Trip = λ under. record { limit = Offset under offset; delay = delay } in
    record {
      country = record { first = 65; second = 65 };
      class = class;
      serial = serial;
      volts = volts;
      hertz = 50;
      over_voltage = share 1001;
      under_voltage = share under_voltage;
      over_frequency = off false;
      under_frequency = off true;
      rate_of_change = point;
    }

small : RatePoint → Profile
small point = sample 65 1 100 1 1 20 point

large : RatePoint → Profile
large point = sample 68 4294967295 1000 999 5000 60000 point

rated : ℕ → ℕ → RatePoint
rated limit delay = Some (record { limit = Rate limit; delay = delay })

pub shortest_reached : Reached GP1 (least GP1)
unfolding small sample valid obeys fields_of line_of written field_bytes decimal last_digits
shortest_reached = (small None, tt, refl, refl)

pub longest_plain_reached : Reached GP1 (greatest GP1)
unfolding large sample valid obeys fields_of line_of written field_bytes decimal last_digits
longest_plain_reached = (large None, tt, refl, refl)

pub shortest_rated_reached : Reached GP2 (least GP2)
unfolding small sample rated valid obeys fields_of line_of written field_bytes decimal last_digits
shortest_rated_reached = (small (rated 100 20), tt, refl, refl)

pub longest_reached : Reached GP2 (greatest GP2)
unfolding large sample rated valid obeys fields_of line_of written field_bytes decimal last_digits
longest_reached = (large (rated 10000 60000), tt, refl, refl)
