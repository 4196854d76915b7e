-- A part of a local array that is lent to be written and is read afterwards: the first n places of an array that held
-- `old` become `new`, so that the array holds `new ++ drop n old`. Assumes nothing.
use mathlib.Core.Path.{◌≡◌, ◌∙◌, ap, sym, subst}
use mathlib.Core.List.{List, ◌++◌}
use Prim.Native.Nat.{ℕ, ◌≤◌}
use lib.ListN.{length, take, drop}
use lib.Seq.{length-take-le, length_front, take_at}
use Rattle.shake.specs.Shake.{shake}

-- the part is within the array, and whoever wrote it kept its length
pub record Lent (n : ℕ) (old new : List ℕ) : Type 0 where
  pub fits : n ≤ length old
  pub kept : length new ≡ length (take n old)

pub lent : (n : ℕ) (old new : List ℕ) → n ≤ length old → length new ≡ length (take n old) → Lent n old new
lent n old new fits kept = record { fits = fits; kept = kept }

-- the length of the part as it is lent
pub part_length : (n : ℕ) (old : List ℕ) → n ≤ length old → n ≡ length (take n old)
part_length n old fits = sym (length-take-le n old fits)

module _ {n : ℕ} {old new : List ℕ} (part : Lent n old new) where
  -- afterwards the part is still within the array, ..
  pub lent_within : n ≤ length (new ++ drop n old)
  lent_within = subst (λ (k : ℕ). n ≤ k) (sym (length_front old new n part.kept)) part.fits

  -- .. has its length, ..
  pub lent_length : n ≡ length (take n (new ++ drop n old))
  lent_length = part_length n (new ++ drop n old) lent_within

  -- .. and is what was written
  pub lent_part : take n (new ++ drop n old) ≡ new
  lent_part = take_at new (drop n old) n (part.kept ∙ length-take-le n old part.fits)

  -- what was hashed into the part is what is read from it
  pub lent_hash : (rate : ℕ) (string : List ℕ) → new ≡ shake rate string (length (take n old)) →
      take n (new ++ drop n old) ≡ shake rate string n
  lent_hash rate string made =
      lent_part ∙ made ∙ ap (λ (k : ℕ). shake rate string k) (length-take-le n old part.fits)
