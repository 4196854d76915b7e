-- Laws of measurements, of which profiles count, and of what is held from slot to slot. Assumes nothing.
use mathlib.Core.Path.{◌≡◌, refl, ◌∙◌, sym, ap}
use mathlib.Core.Bool.{Bool, true, false, ◌&&◌}
use mathlib.Core.List.{List, [], ◌∷◌}
use Prim.Native.Nat.{ℕ, ◌+◌, ◌≤◌, ◌<◌}
use lib.ListN.{drop}
use Rattle.outcome.specs.Answer.{pick}
use Rattle.outcome.specs.Result.{Result, Ok, Err}
use Rattle.profile.specs.declared.Profile.{Profile}
use Rattle.store.specs.declared.slots.Slot.{Slot as Place}
use Rattle.std.specs.Prelude.{Option, None, Some}
use Rattle.store.specs.Stored.{capacity, Slot, slot_of, slots_of, slot_bytes, profiles_in, stored}
use Rattle.store.proofs.PlaceLaws.{slots_next, slots_past}
use Rattle.nearest.specs.declared.Measured.{Measured}
use Rattle.nearest.specs.Nearest.{is_near, near, best_of, best, nearest_in}
use Rattle.nearest.specs.InnerSearch.{in_slot, better, seen}

-- ---- from slot to slot

-- the best of what is held and of a list
abbrev pub best_from : Measured → Result Profile → List Profile → Result Profile
best_from m (Err r) ps = best m ps
best_from m (Ok p) ps = Ok (best_of m p ps)

from_slot : (m : Measured) (held : Result Profile) (s : Slot) (ss : List Slot)
    → best_from m held (near m (profiles_in (s ∷ ss))) ≡ best_from m (seen m held s) (near m (profiles_in ss))
unfolding profiles_in near best_of seen
from_slot m held s ss = go held s.used (is_near m s.profile) refl
  where
    go : (held : Result Profile) (u n : Bool) → is_near m s.profile ≡ n
        → best_from m held (near m (pick u (s.profile ∷ profiles_in ss) (profiles_in ss)))
        ≡ best_from m (pick (u && n) (better m held s.profile) held) (near m (profiles_in ss))
    go held false n e = refl
    go held true false e = rw e
    go (Err r) true true e = rw e
    go (Ok q) true true e = rw e

-- the slots from i on are still to be seen
abbrev pub Seen : Measured → List ℕ → Option Place → ℕ → Type 0
Seen m image held i =
    best_from m (in_slot held image) (near m (profiles_in (drop i (slots_of capacity image)))) ≡ nearest_in m (stored image)

module _ (m : Measured) (image : List ℕ) where
  pub seen_next : (held next : Option Place) (i : ℕ) → i < capacity → Seen m image held i
      → in_slot next image ≡ seen m (in_slot held image) (slot_of (slot_bytes i image)) → Seen m image next (i + 1)
  seen_next held next i h before new =
      let ss : List Slot = slots_of capacity image in
      ap (λ (r : Result Profile). best_from m r (near m (profiles_in (drop (i + 1) ss)))) new
      ∙ sym (from_slot m (in_slot held image) (slot_of (slot_bytes i image)) (drop (i + 1) ss))
      ∙ ap (λ (l : List Slot). best_from m (in_slot held image) (near m (profiles_in l))) (sym (slots_next image i h))
      ∙ before

  held_alone : (held : Option Place) → best_from m (in_slot held image) [] ≡ in_slot held image
  unfolding best_of
  held_alone None = refl
  held_alone (Some s) = refl

  pub seen_all : (held : Option Place) (i : ℕ) → capacity ≤ i → Seen m image held i → in_slot held image ≡ nearest_in m (stored image)
  unfolding profiles_in near
  seen_all held i h all =
      sym (held_alone held)
      ∙ ap (λ (l : List Slot). best_from m (in_slot held image) (near m (profiles_in l)))
      (sym (slots_past image i h))
      ∙ all
