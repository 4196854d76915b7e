-- Laws of slots: where a slot is found, and what a store holds after one is filled. Assumes nothing.
use mathlib.Core.Path.{◌≡◌, refl, ◌∙◌, ap}
use mathlib.Core.Bool.{Bool, true, false, ◌&&◌, not}
use mathlib.Core.List.Permᴰ
use mathlib.Core.List.{List, [], ◌∷◌}
use Prim.Native.Nat.{ℕ, zero, suc, ◌≤◌, ◌<◌}
use native.Mathlib.Omega.{arith}
use lib.ListN.{length, get_or, set}
use Rattle.outcome.specs.Answer.{pick}
use Rattle.profile.specs.declared.Limit.TheVariants.{Share}
use Rattle.profile.specs.declared.Trip.{Trip}
use Rattle.std.specs.Prelude.{None}
use Rattle.profile.specs.declared.Profile.{Profile}
use Rattle.outcome.specs.Result.{Ok}
use Rattle.store.specs.declared.Key.{Key}
use Rattle.store.specs.Keys.{key_of, same_key}
use Rattle.store.specs.Stored.{
  Slot,
  profiles_in,
  find,
  is_stored,
  insert,
  is_free,
  holding,
  first_slot,
  slot_for,
}
use Rattle.store.specs.Calls.{Perm, Stores}
use Rattle.store.proofs.KeyLaws.{not_both, pick_apart, same_apart}
use Rattle.store.proofs.StoredLaws.{find_insert, insert_end, perm_eq, perm_last}

-- what an index past the end reads
abbrev pub unset : Slot
unset =
    let trip : Trip = record { limit = Share 0; delay = 0 } in
    record {
      used = false;
      profile =
          record {
            country = record { first = 0; second = 0 };
            class = 0;
            serial = 0;
            volts = 0;
            hertz = 0;
            over_voltage = trip;
            under_voltage = trip;
            over_frequency = trip;
            under_frequency = trip;
            rate_of_change = None;
          };
    }

-- the slot that is found passes the test
pub first_passes : (test : Slot → Bool) (ss : List Slot) (d : Slot) → first_slot test ss < length ss
    → test (get_or ss (first_slot test ss) d) ≡ true
unfolding first_slot
first_passes test [] d h = absurd (omega arith)
first_passes test (s ∷ ss) d h = go (test s) refl h (first_passes test ss d)
  where
    go : (b : Bool) → test s ≡ b → pick b 0 (suc (first_slot test ss)) < suc (length ss)
        → (first_slot test ss < length ss → test (get_or ss (first_slot test ss) d) ≡ true)
        → test (get_or (s ∷ ss) (pick b 0 (suc (first_slot test ss))) d) ≡ true
    go true e h rest = e
    go false e h rest = rest (omega arith)

-- ---- the slot of a key

-- it holds what is found under the key
pub found_at : (k : Key) (ss : List Slot) (d : Slot) → first_slot (holding k) ss < length ss
    → find k (profiles_in ss) ≡ Ok (get_or ss (first_slot (holding k) ss) d).profile
unfolding first_slot profiles_in find
found_at k [] d h = absurd (omega arith)
found_at k (s ∷ ss) d h = go s.used (same_key (key_of s.profile) k) refl h (found_at k ss d)
  where
    go : (u m : Bool) → same_key (key_of s.profile) k ≡ m
        → pick (u && m) 0 (suc (first_slot (holding k) ss)) < suc (length ss)
        → (first_slot (holding k) ss < length ss
        → find k (profiles_in ss) ≡ Ok (get_or ss (first_slot (holding k) ss) d).profile)
        → find k (pick u (s.profile ∷ profiles_in ss) (profiles_in ss))
        ≡ Ok (get_or (s ∷ ss) (pick (u && m) 0 (suc (first_slot (holding k) ss))) d).profile
    go true true e h rest = rw e
    go true false e h rest = rw e (rest (omega arith))
    go false m e h rest = rest (omega arith)

-- and where there is none nothing is found
pub found_nowhere : (k : Key) (ss : List Slot) → length ss ≤ first_slot (holding k) ss
    → is_stored k (profiles_in ss) ≡ false
unfolding first_slot profiles_in find
found_nowhere k [] h = refl
found_nowhere k (s ∷ ss) h = go s.used (same_key (key_of s.profile) k) refl h (found_nowhere k ss)
  where
    go : (u m : Bool) → same_key (key_of s.profile) k ≡ m
        → suc (length ss) ≤ pick (u && m) 0 (suc (first_slot (holding k) ss))
        → (length ss ≤ first_slot (holding k) ss → is_stored k (profiles_in ss) ≡ false)
        → is_stored k (pick u (s.profile ∷ profiles_in ss) (profiles_in ss)) ≡ false
    go true true e h rest = absurd (omega arith)
    go true false e h rest = rw e (rest (omega arith))
    go false m e h rest = rest (omega arith)

replaced : (p : Profile) (ss : List Slot) → first_slot (holding (key_of p)) ss < length ss
    → profiles_in (set ss (first_slot (holding (key_of p)) ss) (slot_for p)) ≡ insert p (profiles_in ss)
unfolding first_slot profiles_in insert
replaced p [] h = absurd (omega arith)
replaced p (s ∷ ss) h = go s.used (same_key (key_of s.profile) (key_of p)) refl refl h (replaced p ss)
  where
    go : (u m : Bool) → s.used ≡ u → same_key (key_of s.profile) (key_of p) ≡ m
        → pick (u && m) 0 (suc (first_slot (holding (key_of p)) ss)) < suc (length ss)
        → (first_slot (holding (key_of p)) ss < length ss
        → profiles_in (set ss (first_slot (holding (key_of p)) ss) (slot_for p)) ≡ insert p (profiles_in ss))
        → profiles_in (set (s ∷ ss) (pick (u && m) 0 (suc (first_slot (holding (key_of p)) ss))) (slot_for p))
        ≡ insert p (pick u (s.profile ∷ profiles_in ss) (profiles_in ss))
    go true true eu em h rest = rw em
    go true false eu em h rest = rw (eu, em) (ap (λ (l : List Profile). s.profile ∷ l) (rest (omega arith)))
    go false m eu em h rest = rw eu (rest (omega arith))

-- filled anew, the slot of its key holds p
pub stores_replaced : (p : Profile) (ss ts : List Slot) (i : ℕ) → i ≡ first_slot (holding (key_of p)) ss → i < length ss
    → ts ≡ set ss i (slot_for p) → Stores p (profiles_in ss) (profiles_in ts)
stores_replaced p ss ts i first h e =
    let new : profiles_in ts ≡ insert p (profiles_in ss) = rw (e, first) (replaced p ss (omega arith)) in
    record {
      finds = λ k. ap (λ (ps : List Profile). find k ps) new ∙ find_insert k p (profiles_in ss);
      listed = perm_eq new;
    }

-- ---- a free slot

-- filled, it holds one profile more
added : (p : Profile) (ss : List Slot) (i : ℕ) (d : Slot) → i < length ss → is_free (get_or ss i d) ≡ true
    → Perm (profiles_in (set ss i (slot_for p))) (p ∷ profiles_in ss)
unfolding profiles_in
added p [] i d h f = absurd (omega arith)
added p (s ∷ ss) zero d h f = go s.used f
  where
    go : (u : Bool) → not u ≡ true → Perm (p ∷ profiles_in ss) (p ∷ pick u (s.profile ∷ profiles_in ss) (profiles_in ss))
    go true f = absurd (not_both false f refl)
    go false f = Permᴰ.refl (p ∷ profiles_in ss)
added p (s ∷ ss) (suc i) d h f = go s.used (added p ss i d (omega arith) f)
  where
    go : (u : Bool) {qs : List Profile} → Perm qs (p ∷ profiles_in ss)
        → Perm (pick u (s.profile ∷ qs) qs) (p ∷ pick u (s.profile ∷ profiles_in ss) (profiles_in ss))
    go true rest = Permᴰ.trans (Permᴰ.cons refl rest) (Permᴰ.swap refl refl)
    go false rest = rest

-- a profile of a new key is found wherever it stands
added_finds : (p : Profile) (ss : List Slot) (i : ℕ) (d : Slot) → i < length ss → is_free (get_or ss i d) ≡ true
    → is_stored (key_of p) (profiles_in ss) ≡ false → (k : Key)
    → find k (profiles_in (set ss i (slot_for p))) ≡ pick (same_key (key_of p) k) (Ok p) (find k (profiles_in ss))
unfolding profiles_in find
added_finds p [] i d h f new k = absurd (omega arith)
added_finds p (s ∷ ss) zero d h f new k = go s.used f
  where
    go : (u : Bool) → not u ≡ true
        → pick (same_key (key_of p) k) (Ok p) (find k (profiles_in ss))
        ≡ pick (same_key (key_of p) k) (Ok p) (find k (pick u (s.profile ∷ profiles_in ss) (profiles_in ss)))
    go true f = absurd (not_both false f refl)
    go false f = refl
added_finds p (s ∷ ss) (suc i) d h f new k =
    go s.used (same_key (key_of s.profile) (key_of p)) refl (profiles_in ss) (profiles_in (set ss i (slot_for p))) new
    (λ new'. added_finds p ss i d (omega arith) f new' k)
  where
    go : (u m : Bool) → same_key (key_of s.profile) (key_of p) ≡ m → (ps qs : List Profile)
        → is_stored (key_of p) (pick u (s.profile ∷ ps) ps) ≡ false
        → (is_stored (key_of p) ps ≡ false → find k qs ≡ pick (same_key (key_of p) k) (Ok p) (find k ps))
        → find k (pick u (s.profile ∷ qs) qs)
        ≡ pick (same_key (key_of p) k) (Ok p) (find k (pick u (s.profile ∷ ps) ps))
    go true true e ps qs new rest = absurd (not_both true refl (rw e at new))
    go true false e ps qs new rest =
        rw (rest (rw e at new))
        (pick_apart (same_key (key_of s.profile) k) (same_key (key_of p) k) (Ok s.profile) (Ok p) (find k ps)
        (same_apart (key_of s.profile) (key_of p) k e))
    go false m e ps qs new rest = rest new

pub stores_added : (p : Profile) (ss ts : List Slot) (i : ℕ) → i ≡ first_slot is_free ss → i < length ss
    → is_stored (key_of p) (profiles_in ss) ≡ false → ts ≡ set ss i (slot_for p) → Stores p (profiles_in ss) (profiles_in ts)
stores_added p ss ts i first h new e =
    let free : is_free (get_or ss i unset) ≡ true = rw first (first_passes is_free ss unset (omega arith)) in
    record {
      finds = rw e (added_finds p ss i unset h free new);
      listed =
          rw (e, insert_end p (profiles_in ss) new)
          (Permᴰ.trans (added p ss i unset h free) (perm_last p (profiles_in ss)));
    }

-- ---- room

-- at most as many profiles are stored as there are slots
pub at_most : (ss : List Slot) → length (profiles_in ss) ≤ length ss
unfolding profiles_in
at_most [] = omega arith
at_most (s ∷ ss) = go s.used (at_most ss)
  where
    go : (u : Bool) → length (profiles_in ss) ≤ length ss
        → length (pick u (s.profile ∷ profiles_in ss) (profiles_in ss)) ≤ suc (length ss)
    go true h = omega arith
    go false h = omega arith

-- where a slot is free, fewer
pub room : (ss : List Slot) → first_slot is_free ss < length ss → length (profiles_in ss) < length ss
unfolding first_slot profiles_in
room [] h = absurd (omega arith)
room (s ∷ ss) h = go s.used h (room ss)
  where
    go : (u : Bool) → pick (not u) 0 (suc (first_slot is_free ss)) < suc (length ss)
        → (first_slot is_free ss < length ss → length (profiles_in ss) < length ss)
        → length (pick u (s.profile ∷ profiles_in ss) (profiles_in ss)) < suc (length ss)
    go true h rest = omega (arith, rest (omega arith))
    go false h rest = omega (arith, at_most ss)

-- and where none is, as many
pub no_room : (ss : List Slot) → length ss ≤ first_slot is_free ss → length (profiles_in ss) ≡ length ss
unfolding first_slot profiles_in
no_room [] h = refl
no_room (s ∷ ss) h = go s.used h (no_room ss)
  where
    go : (u : Bool) → suc (length ss) ≤ pick (not u) 0 (suc (first_slot is_free ss))
        → (length ss ≤ first_slot is_free ss → length (profiles_in ss) ≡ length ss)
        → length (pick u (s.profile ∷ profiles_in ss) (profiles_in ss)) ≡ suc (length ss)
    go true h rest = ap suc (rest (omega arith))
    go false h rest = absurd (omega arith)
