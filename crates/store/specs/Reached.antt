-- What holds of the stores that calls reach from the empty one (document 01, "Profile line, package, shelf"). Each
-- call carries a valid profile and a sound setting of the device, and meets the contract of `put`; nothing else is
-- known of the program. The proofs stand in proofs/Reached.antt.
-- Assumes nothing.
use Rattle.std.specs.Prelude.{◌≡◌, true, List, [], ◌∷◌, ◌++◌, ℕ, ◌≤◌, ◌<◌, T, eqb, length, replicate, drop}
use Rattle.outcome.specs.Answer.{pick}
use Rattle.profile.specs.declared.Profile.{Profile}
use Rattle.outcome.specs.Result.{Ok}
use Rattle.profile.specs.Rules.{Class, valid}
use Rattle.store.specs.declared.Key.{Key}
use Rattle.store.specs.declared.Device.{Device}
use Rattle.store.specs.Keys.{key_of, device_key, device_ok}
use Rattle.image.specs.Image.{image_of}
use Rattle.store.specs.Stored.{capacity, slots_size, store_size, slot_bytes, stored, find, insert, Distinct}
use Rattle.store.specs.Calls.{lookup_in, put_number, Perm, Stores, Taken, Puts}

pub record Call : Type 0 where
  pub device : Device
  pub profile : Profile

-- the number with which a call is answered
abbrev pub answer_to : Call → List Profile → ℕ
answer_to c ps = put_number c.device c.profile ps

-- a call found ps stored and left qs
pub record Step (c : Call) (ps qs : List Profile) : Type 0 where
  pub taken : answer_to c ps ≡ 0 → Stores c.profile ps qs
  pub kept : (answer_to c ps ≡ 0 → ⊥) → qs ≡ ps

-- `put` tests neither the rules of a profile nor the setting: its callers do, and call it with valid ones only
pub record ValidCall (table : List Class) (c : Call) : Type 0 where
  pub profile : T (valid table c.profile)
  pub device : device_ok table c.device ≡ true

-- calls in order, the first of which found ps stored and the last of which left rs
abbrev pub Run : List Class → List Profile → List Call → List Profile → Type 0
Run table ps [] rs = rs ≡ ps
Run table ps (c ∷ cs) rs = (qs : List Profile) × ValidCall table c × Step c ps qs × Run table qs cs rs

abbrev pub Reached : List Class → List Call → List Profile → Type 0
Reached table calls ps = Run table [] calls ps

-- nothing is stored in an image of zeros
abbrev pub ZerosEmpty : Type 0
ZerosEmpty = stored (replicate store_size 0) ≡ []

-- an image that stores nothing is reached by no call, and a valid call of `put` on a reached store reaches one by a
-- call more
abbrev pub EmptyReached : Type 0
EmptyReached = (table : List Class) (image : List ℕ) → stored image ≡ [] → Reached table [] (stored image)

abbrev pub PutReaches : Type 0
PutReaches =
    (table : List Class) (calls : List Call) (d : Device) (p : Profile) (old : List ℕ) (r : ℕ) (new : List ℕ)
    → Reached table calls (stored old) → T (valid table p) → device_ok table d ≡ true → length old ≡ store_size
    → Puts d p old r new → Reached table (calls ++ (record { device = d; profile = p } ∷ [])) (stored new)

-- an accepted call changes the image
abbrev pub PutChanges : Type 0
PutChanges =
    (d : Device) (p : Profile) (old : List ℕ) (r : ℕ) (new : List ℕ) → Puts d p old r new → r ≡ 0 → new ≡ old → ⊥

-- the slot that an accepted call chose holds the image of its profile, and the bytes of every other slot are as they
-- were
abbrev pub OneSlot : Type 0
OneSlot =
    (p : Profile) (old new : List ℕ) → length old ≡ store_size → (t : Taken p old new)
    → (slot_bytes t.slot new ≡ image_of p)
    × ((i : ℕ) → i < capacity → (i ≡ t.slot → ⊥) → slot_bytes i new ≡ slot_bytes i old)

-- the table behind the slots is as it was, so that what is stored stays valid (document 02, M-108)
abbrev pub TableKept : Type 0
TableKept =
    (p : Profile) (old new : List ℕ) → length old ≡ store_size → Taken p old new → drop slots_size new ≡ drop slots_size old

-- the map that the accepted calls make, in order: it depends on the calls alone
unfoldable pub model : List Profile → List Call → List Profile
model ps [] = ps
model ps (c ∷ cs) = model (pick (eqb (answer_to c ps) 0) (insert c.profile ps) ps) cs

-- in a run p entered by a call that was answered 0 with the device set to k
pub record Entered (table : List Class) (ps : List Profile) (calls : List Call) (rs : List Profile) (k : Key)
    (p : Profile) : Type 0 where
  pub before : List Call
  pub call : Call
  pub behind : List Call
  pub found : List Profile
  pub order : calls ≡ before ++ (call ∷ behind)
  pub reached : Run table ps before found
  pub answered : answer_to call found ≡ 0
  pub onward : Run table found (call ∷ behind) rs
  pub device : device_key call.device ≡ k
  pub profile : call.profile ≡ p

-- every profile of a list is valid
abbrev pub AllValid : List Class → List Profile → Type 0
AllValid table [] = Unit {0}
AllValid table (p ∷ ps) = T (valid table p) × AllValid table ps

-- What holds of every store that is reached: everything stored is valid; no key twice; at most 16 profiles; it is the
-- map that the accepted calls make, and up to order its list; and what a lookup gives, under whatever classes, is a
-- profile of the device's country, class and hertz, which entered by a call that was answered 0 with the device set to
-- these.
pub record Holds (table : List Class) (calls : List Call) (ps : List Profile) : Type 0 where
  pub all_valid : AllValid table ps
  pub distinct : Distinct ps
  pub fits : length ps ≤ capacity
  pub as_map : (k : Key) → find k ps ≡ find k (model [] calls)
  pub listed : Perm ps (model [] calls)
  pub entered : (classes : List Class) (d : Device) (p : Profile) → lookup_in classes d ps ≡ Ok p
      → (key_of p ≡ device_key d) × Entered table [] calls ps (device_key d) p

abbrev pub ReachedHold : Type 0
ReachedHold =
    (table : List Class) (calls : List Call) (ps : List Profile) → Reached table calls ps → Holds table calls ps
