-- Duty 3, and that a made package loads, as they hold of the running code at the sizes of a category.
-- Assumes nothing.
use Rattle.std.specs.Prelude.{◌≡◌, true, ◌||◌, ◌⊎◌, List, ℕ, T, ltb, length, replicate, take}
use Rattle.outcome.specs.Result.{Ok}
use Rattle.parameters.specs.declared.Params.{Params}
use Rattle.profile.specs.declared.Profile.{Profile}
use Rattle.profile.specs.Rules.{valid}
use Rattle.profile.specs.Table.{table_of}
use Rattle.profile.specs.Line.{longest, read_line}
use Rattle.scheme.specs.Key.{key_size}
use Rattle.scheme.specs.Duty.{OpensKey, Excuses, committed, responded}
use Rattle.scheme.specs.Entries.{MakesKey, Signs, Verifies, VerifiesRound}
use Rattle.store.specs.Keys.{key_of, device_of, device_key}
use Rattle.store.specs.Stored.{capacity, store_size, classes_of, stored, find, is_stored}
use Rattle.store.specs.Calls.{lookup_in, newer, LooksUpByStore}
use Rattle.package.specs.Entries.{MakesFromLine, LoadsByStore}
use Rattle.duty.specs.declared.Signed.{Signed}
use Rattle.duty.specs.declared.FourRounds.{FourRounds}
use Rattle.duty.specs.declared.Loaded.{Loaded}

module _ (p : Params) where
  -- making a key in a buffer of zeros
  abbrev pub MakesKeyAnew : (private : List ℕ) (r : ℕ) (public : List ℕ) → Type 0
  MakesKeyAnew private = MakesKey p private (replicate (key_size p) 0)

  -- A key is made, a message is signed into what was lent, and the signature is verified under that key: each number
  -- is its entry's on these very arguments; and where signing answers 0, so do the other two.
  pub record SignsAndVerifies (private master salt msg old : List ℕ) (r : Signed) (sig : List ℕ) : Type 0 where
    pub public : List ℕ
    pub key_answer : MakesKeyAnew private r.key public
    pub sign_answer : Signs p private master salt msg old r.sign sig
    pub verify_answer : Verifies p public msg sig r.verify
    pub accepted : r.sign ≡ 0 → (r.key ≡ 0) × (r.verify ≡ 0)

  -- Four replies to one commitment pair are examined, one to each second challenge under each of two first challenges:
  -- each number is the examiner's on these very arguments; and where the first challenges differ and all four are 0,
  -- the replies open the key, or one of the four pairs of strings excuses.
  pub record VerifiesFourRounds (key salt : List ℕ) (i : ℕ) (c0 c1 : List ℕ) (β β' : ℕ) (h h' r0 r1 r0' r1' : List ℕ)
      (r : FourRounds) : Type 0 where
    pub first_0 : VerifiesRound p key salt i c0 c1 β h 0 r0 r.a
    pub first_1 : VerifiesRound p key salt i c0 c1 β h 1 r1 r.b
    pub second_0 : VerifiesRound p key salt i c0 c1 β' h' 0 r0' r.c
    pub second_1 : VerifiesRound p key salt i c0 c1 β' h' 1 r1' r.d
    pub opens : (β ≡ β' → ⊥) → r.a ≡ 0 → r.b ≡ 0 → r.c ≡ 0 → r.d ≡ 0
        → (OpensKey p key salt i r0 r1 × OpensKey p key salt i r0 r1'
        × OpensKey p key salt i r0' r1 × OpensKey p key salt i r0' r1')
        ⊎ (Excuses p (committed p key salt i β 0 r0) (committed p key salt i β' 0 r0')
        ⊎ (Excuses p (committed p key salt i β 1 r1) (committed p key salt i β' 1 r1')
        ⊎ (Excuses p (responded p salt i β 0 r0) (responded p salt i β 1 r1)
        ⊎ Excuses p (responded p salt i β' 0 r0') (responded p salt i β' 1 r1'))))

  -- A key is made, a package is made of a line under a table into what was lent, what was made is loaded into a store
  -- under that key, for a device that is set to a country, class and hertz, and this triple is looked up: each answer is
  -- its entry's on these very arguments.
  pub record MakesAndLoads (table private master salt line country : List ℕ) (class hertz : ℕ)
      (store old : List ℕ) (r : Loaded) (store' out : List ℕ) : Type 0 where
    pub public : List ℕ
    pub key_answer : MakesKeyAnew private r.key public
    -- so many bytes were made (none after a refusal), and they were loaded
    pub size : ℕ
    pub make_answer : MakesFromLine p table private master salt line old 0 r.make out size
    pub load_answer : LoadsByStore p public (take size out) country class hertz store r.load store'
    -- so many bytes were found, in a buffer of zeros
    pub found : List ℕ
    pub length_found : ℕ
    pub lookup_answer : LooksUpByStore store' country class hertz (replicate longest 0) 0 r.lookup found length_found
    -- where making answers 0, the line means a profile; and where this is of the device's own country, class and hertz,
    -- valid under the classes of the store, newer than the one stored, if any, and its triple is stored or there is room:
    -- the key was made, loading answers 0, the profile is found, and the lookup answers 0 and writes the line
    pub loads : r.make ≡ 0 → (profile : Profile) × (read_line (table_of table) line ≡ Ok profile)
        × (length country ≡ 2 → device_key (device_of country class hertz) ≡ key_of profile → length store ≡ store_size
        → T (valid (classes_of store) profile) → newer profile (find (key_of profile) (stored store)) ≡ true
        → (is_stored (key_of profile) (stored store) || ltb (length (stored store)) capacity) ≡ true
        → (r.key ≡ 0) × (r.load ≡ 0)
        × (lookup_in (classes_of store) (device_of country class hertz) (stored store') ≡ Ok profile)
        × (r.lookup ≡ 0) × (take length_found found ≡ line))
