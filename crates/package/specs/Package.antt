-- A package is the signature of a line, followed by the line (document 01, "Profile line, package, shelf"): making one,
-- opening one, and storing what was opened, each as its tests in the order in which they refuse (table "Returned" and
-- the paragraph after it). Making goes by the table whose image is lent (document 02, M-108).
-- Assumes nothing.
use Rattle.std.specs.Prelude.{List, [], ◌∷◌, ◌++◌, ℕ, ◌+◌, eqb, length, take, drop}
use Rattle.outcome.specs.Answer.{bad_size, bad_profile, bad_device, Check, ◌unless◌}
use Rattle.parameters.specs.declared.Params.{Params}
use Rattle.profile.specs.declared.Profile.{Profile}
use Rattle.outcome.specs.Result.{Result, Ok, Err, refusal_in}
use Rattle.profile.specs.Rules.{◌to◌, contains, Class, valid}
use Rattle.profile.specs.Table.{table_size, table_of}
use Rattle.profile.specs.Line.{shortest, longest, line_of, read_line}
use Rattle.scheme.specs.Key.{key_size}
use Rattle.scheme.specs.Sign.{signature_size, sign_checks, signature}
use Rattle.scheme.specs.Verify.{verify_checks}
use Rattle.store.specs.declared.Device.{Device}
use Rattle.store.specs.Keys.{device_of, device_ok}
use Rattle.store.specs.Stored.{store_size, stored}
use Rattle.store.specs.Calls.{after, put_checks}

-- what was opened is stored for the device; where nothing was, opening has refused
abbrev pub store_checks : Device → List Profile → Result Profile → List Check
store_checks device ps (Ok profile) = put_checks device profile ps
store_checks device ps (Err r) = []

module _ (p : Params) where
  -- the sizes of packages: a signature with the shortest, with the longest line
  abbrev pub package_min : ℕ
  package_min = signature_size p + shortest

  abbrev pub package_max : ℕ
  package_max = signature_size p + longest

  -- ---- making

  -- the package of a line
  unfoldable pub package_of : List ℕ → List ℕ → List ℕ → List ℕ → List ℕ
  package_of private master salt line = signature p private master salt line ++ line

  -- the table's image, seeds, salt, and how many bytes are lent for the package
  abbrev pub make_sizes : List ℕ → List ℕ → List ℕ → List ℕ → ℕ → List Check
  make_sizes table private master salt lent =
      bad_size unless eqb (length table) table_size
      ∷ bad_size unless eqb (length private) p.digest
      ∷ bad_size unless eqb (length master) p.seed
      ∷ bad_size unless eqb (length salt) p.digest
      ∷ bad_size unless eqb lent package_max
      ∷ []

  -- sizes; the profile's rules; then signing its line
  unfoldable pub make_checks : List ℕ → List ℕ → List ℕ → List ℕ → Profile → ℕ → List Check
  make_checks table private master salt profile lent =
      make_sizes table private master salt lent
      ++ (bad_profile unless valid (table_of table) profile ∷ [])
      ++ sign_checks p private master salt (line_of profile) (signature_size p)

  -- from a line's bytes: sizes; the line's size and rules, as `read_line` has them; then signing it
  unfoldable pub make_from_line_checks : List ℕ → List ℕ → List ℕ → List ℕ → List ℕ → ℕ → List Check
  make_from_line_checks table private master salt line lent =
      make_sizes table private master salt lent
      ++ refusal_in (read_line (table_of table) line)
      ++ sign_checks p private master salt line (signature_size p)

  -- ---- opening

  -- a package's signature, and its line
  unfoldable pub signature_in : List ℕ → List ℕ
  signature_in sealed = take (signature_size p) sealed

  unfoldable pub line_in : List ℕ → List ℕ
  line_in sealed = drop (signature_size p) sealed

  -- the sizes of key and package
  abbrev pub open_sizes : ℕ → ℕ → List Check
  open_sizes key sealed =
      bad_size unless eqb key (key_size p) ∷ bad_size unless contains (package_min to package_max) sealed ∷ []

  -- sizes; the signature over the line; the line
  unfoldable pub open_checks : List Class → List ℕ → List ℕ → List Check
  open_checks table key sealed =
      open_sizes (length key) (length sealed)
      ++ (verify_checks p key (line_in sealed) (signature_in sealed) ++ refusal_in (read_line table (line_in sealed)))

  -- the profile that the line means, unless a check fails before
  unfoldable pub opened : List Class → List ℕ → List ℕ → Result Profile
  opened table key sealed = after (open_checks table key sealed) (read_line table (line_in sealed))

  -- ---- loading

  -- the device that is set to this country, class and hertz; the size of the store's image; opening; then storing what
  -- was opened
  unfoldable pub load_checks : List Class → List ℕ → List ℕ → List ℕ → ℕ → ℕ → List ℕ → List Check
  load_checks table key sealed country class hertz old =
      bad_device unless eqb (length country) 2
      ∷ bad_device unless device_ok table (device_of country class hertz)
      ∷ bad_size unless eqb (length old) store_size
      ∷ (open_checks table key sealed
      ++ store_checks (device_of country class hertz) (stored old) (opened table key sealed))
