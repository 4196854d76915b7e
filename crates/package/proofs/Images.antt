-- The theorems of specs/Images.antt. Assumes nothing.
use mathlib.Core.Path.{◌≡◌, refl, ◌∙◌, sym, ap, subst}
use mathlib.Core.Bool.{Bool, true, false}
use mathlib.Core.List.{List, [], ◌∷◌}
use mathlib.Core.Logic.{◌⊎◌, inl, inr}
use Prim.Native.Nat.{ℕ}
use native.Mathlib.Omega.{arith}
use lib.Dec.{T, eqb}
use lib.ListN.{length, take, drop, replicate, length-replicate, take-append-drop}
use lib.Seq.{take_at}
use borrow.Author.Tests.{eqb-true, eq-eqb}
use Rattle.outcome.specs.Answer.{bad_size, not_stored, bad_device, ◌unless◌, first_refusal, AnswersFront}
use Rattle.outcome.specs.Result.{Result, Ok, Err}
use Rattle.outcome.proofs.Checks.{passed}
use Rattle.parameters.specs.declared.Params.{Params}
use Rattle.parameters.specs.Sound.{Sound}
use Rattle.profile.specs.declared.Profile.{Profile}
use Rattle.profile.specs.Rules.{Class, valid}
use Rattle.profile.specs.Table.{table_of}
use Rattle.profile.specs.Line.{longest, line_of}
use Rattle.profile.proofs.RuleLaws.{holds}
use Rattle.profile.proofs.Theorems.{writes_read}
use Rattle.scheme.specs.Sign.{signature_size}
use Rattle.store.specs.declared.Key.{Key}
use Rattle.store.specs.declared.Device.{Device}
use Rattle.store.specs.Keys.{device_key, device_of, device_ok}
use Rattle.store.specs.Stored.{store_size, classes_of, stored, find, is_done, is_stored}
use Rattle.store.specs.Calls.{found_in, found_line, lookup_line_checks, LooksUp, Taken}
use Rattle.store.specs.Reached.{Holds}
use Rattle.store.proofs.KeyLaws.{device_of_valid}
use Rattle.store.proofs.LookupLaws.{lookup_sound, lookup_find, lookup_stored}
use Rattle.store.proofs.OneSlot.{taken_size, table_kept}
use Rattle.store.proofs.PutLaws.{put_passed}
use Rattle.store.proofs.Reached.{reached_hold, find_valid, zeros_empty}
use Rattle.package.specs.Package.{signature_in, line_in}
use Rattle.package.specs.Images.{
  Offer,
  MadeBy,
  made,
  table_by,
  map_by,
  IsMade,
  in_map_checks,
  map_checks,
  AsMap,
  NoneBroken,
  CameIn,
  LookedUpCameIn,
  FindsLine,
  LoadedFound,
  LineLoads,
}
use Rattle.package.proofs.Stages.{front_as}
use Rattle.package.proofs.Theorems.{accepted, made_loads}
use Rattle.package.proofs.FromLine.{made as made_line}
use Rattle.package.proofs.Runs.{image_reached, Stored, run_found}
use Rattle.package.proofs.InMap.{as_found}

-- ---- a lookup that finds a valid profile

module _ (image country : List ℕ) (class hertz : ℕ) (profile : Profile) (two : length country ≡ 2)
    (fine : device_ok (classes_of image) (device_of country class hertz) ≡ true) (size : length image ≡ store_size)
    (found : found_in (classes_of image) image country class hertz ≡ Ok profile) (ok : T (valid (classes_of image) profile))
  where
    pub finds_line : FindsLine image country class hertz (line_of profile)
    finds_line old before answer lent after room looks =
        let table : List Class = classes_of image in
        let rules : valid table profile ≡ true = holds (valid table profile) ok in
        let zero : first_refusal (lookup_line_checks table image country class hertz old) ≡ 0 =
        rw (eq-eqb (length country) 2 two, fine, eq-eqb (length image) store_size size)
        (rw (eq-eqb (length old) longest room, found) (rw rules)) in
        let answered : answer ≡ 0 = looks.answers.answer ∙ zero in
        let whole = rw (answered, found) at looks.answers.content in
        let long = rw (answered, found) at looks.size in
        (answered, whole, long)

-- ---- one load, into any image

-- an accepted load keeps the table, and what is looked up by the one before is looked up by the one after
loaded_line : (country : List ℕ) (class hertz : ℕ) (profile : Profile) (old new : List ℕ) → length country ≡ 2
    → device_ok (classes_of old) (device_of country class hertz) ≡ true → length old ≡ store_size → {q : Profile} → Taken q old new
    → T (valid (classes_of old) profile) → found_in (classes_of old) new country class hertz ≡ Ok profile
    → FindsLine new country class hertz (line_of profile)
loaded_line country class hertz profile old new two fine whole {q} taken ok found =
    let same : classes_of new ≡ classes_of old = ap table_of (table_kept q old new whole taken) in
    finds_line new country class hertz profile two (rw same fine) (taken_size whole taken) (rw same found) (rw same ok)

module _ (p : Params) where
  pub loaded_found : LoadedFound p
  loaded_found key sealed country class hertz old answer new loads e =
      let table : List Class = classes_of old in
      let t = accepted p table key sealed country class hertz old answer new loads e in
      let device : Device = device_of country class hertz in
      let back = writes_read table (line_in p sealed) t.profile t.reads in
      let its = (put_passed device t.profile (stored old) t.puts).0 in
      let found =
      lookup_stored table device t.profile (stored old) (stored new) t.taken.stores t.passes.device_ok_lem its in
      subst (FindsLine new country class hertz) back.0
      (loaded_line country class hertz t.profile old new (eqb-true (length country) 2 t.passes.two)
      t.passes.device_ok_lem (eqb-true (length old) store_size t.passes.whole) t.taken back.1 found)

  pub line_loads : Sound p → LineLoads p
  line_loads sound table private master salt line lent sealed before size makes =
      let m = made_line p table private master salt line makes in
      let back = writes_read (table_of table) line m.profile m.read in (
        m.profile,
        m.read,
        back.1,
        λ country class hertz old answer new two own whole ok newer room loads.
            let both =
            made_loads p (classes_of old) sound table private master salt m.profile lent sealed before size country class
            hertz old answer new m.makes ok two own whole newer room loads in
            let fine = device_of_valid (classes_of old) m.profile (device_of country class hertz) ok own in
            let taken = (loads.taken both.0).2 in (
              both.0,
              both.1,
              subst (FindsLine new country class hertz) back.0
                  (loaded_line country class hertz m.profile old new two fine whole taken ok both.1),
            ),
      )

-- ---- images that the library made

module _ (offers : List Offer) (image : List ℕ) (run : MadeBy offers image) where
  abbrev table : List Class
  table = classes_of image

  is_made : IsMade offers image
  is_made = image_reached offers image run

  held : Holds table (made offers).calls (stored image)
  held = reached_hold table (made offers).calls (stored image) is_made.reached

  module _ (country : List ℕ) (class hertz : ℕ) (old : List ℕ) where
    abbrev device : Device
    device = device_of country class hertz

    abbrev in_map : Result Profile
    in_map = find (device_key device) (map_by offers)

    -- what a sound setting finds
    found_map : device_ok table device ≡ true → found_in table image country class hertz ≡ in_map
    found_map fine = lookup_sound table device (stored image) fine ∙ held.as_map (device_key device)

    -- what is found is valid
    valid_here : (p : Profile) → found_in table image country class hertz ≡ Ok p → T (valid table p)
    valid_here p e =
        find_valid table (device_key device) (stored image) p held.all_valid
        (lookup_find table device (stored image) p e)

    same_number : first_refusal (lookup_line_checks table image country class hertz old)
        ≡ first_refusal (map_checks offers country class hertz old)
    same_number =
        as_found table image country old (device_ok table device) (found_in table image country class hertz) is_made.size
        valid_here
        ∙ (go (device_ok table device) refl
        ∙ ap (λ (cs : List Class). first_refusal (in_map_checks country (device_ok cs device) in_map old)) is_made.table)
      where
        go : (fine : Bool) → device_ok table device ≡ fine
            → first_refusal (in_map_checks country fine (found_in table image country class hertz) old)
            ≡ first_refusal (in_map_checks country fine in_map old)
        go false e = refl
        go true e = ap (λ (r : Result Profile). first_refusal (in_map_checks country true r old)) (found_map e)

    module _ (before answer : ℕ) (lent : List ℕ) (after : ℕ)
        (looks : LooksUp table image country class hertz old before answer lent after) where
      passes : answer ≡ 0 → first_refusal (lookup_line_checks table image country class hertz old) ≡ 0
      passes e = sym looks.answers.answer ∙ e

      settled : answer ≡ 0 → device_ok table device ≡ true
      settled e =
          holds (device_ok table device) (passed (lookup_line_checks table image country class hertz old) (passes e)).1.0

      answers_map : AnswersFront (map_checks offers country class hertz old) (found_line in_map) old before answer lent after
      answers_map = front_as same_number (λ e. ap found_line (found_map (settled e))) looks

pub as_map : AsMap
as_map offers image country class hertz old before answer lent after run looks =
    answers_map offers image run country class hertz old before answer lent after looks

pub none_broken : NoneBroken
none_broken offers image country class hertz old before answer lent after run looks five =
    go (eqb (length country) 2) (device_ok (table_by offers) (device_of country class hertz)) (eqb (length old) longest)
    (is_stored (device_key (device_of country class hertz)) (map_by offers))
    (sym (as_map offers image country class hertz old before answer lent after run looks).answers.answer ∙ five)
  where
    go : (a b c d : Bool)
        → first_refusal
        (bad_device unless a ∷ bad_device unless b ∷ bad_size unless c ∷ not_stored unless d ∷ []) ≡ 5 → ⊥
    go false b c d e = let z : ◌≡◌ {A = ℕ} 10 5 = e in omega arith
    go true false c d e = let z : ◌≡◌ {A = ℕ} 10 5 = e in omega arith
    go true true false d e = let z : ◌≡◌ {A = ℕ} 1 5 = e in omega arith
    go true true true false e = let z : ◌≡◌ {A = ℕ} 9 5 = e in omega arith
    go true true true true e = let z : ◌≡◌ {A = ℕ} 0 5 = e in omega arith

-- ---- what a lookup finds came in by a load

-- a result that is there
the_done : (r : Result Profile) → T (is_done r) → (q : Profile) × (r ≡ Ok q)
the_done (Ok q) t = (q, refl)
the_done (Err r) t = absurd t

-- a load that was answered 0 and stored q: its line is that of q, and is signed
came_in : (offers : List Offer) (country : List ℕ) (class hertz : ℕ) (q : Profile) (line : List ℕ)
    → line ≡ line_of q → Stored (replicate store_size 0) offers (device_key (device_of country class hertz)) q
    → CameIn offers country class hertz line
unfolding signature_in line_in
came_in offers country class hertz q line is w =
    let l = w.load in
    let table : List Class = classes_of w.found in
    let t =
    accepted l.sizes table l.key l.sealed l.country l.class l.hertz w.found 0 w.left
    w.answered refl in
    let same : line ≡ line_in l.sizes l.sealed =
    is ∙ (writes_read table (line_in l.sizes l.sealed) q w.reads).0 in
    record {
      earlier = w.earlier;
      load = l;
      later = w.later;
      found = w.found;
      left = w.left;
      order = w.order;
      reached = w.reached;
      answered = w.answered;
      device = w.device;
      parts = rw same (sym (take-append-drop (signature_size l.sizes) l.sealed));
      verified = rw same t.passes.verified;
    }

pub looked_up_came_in : LookedUpCameIn
unfolding find
looked_up_came_in offers image country class hertz old before answer lent after run looks e =
    let table : List Class = classes_of image in
    let device : Device = device_of country class hertz in
    let tests = passed (lookup_line_checks table image country class hertz old) (sym looks.answers.answer ∙ e) in
    let found = the_done (found_in table image country class hertz) tests.1.1.1.1.0 in
    let q = found.0 in
    let stands : find (device_key device) (stored image) ≡ Ok q =
    lookup_find table device (stored image) q found.1 in
    let content = rw (e, found.1) at looks.answers.content in
    let long = rw (e, found.1) at looks.size in
    let line : take after lent ≡ line_of q =
    rw content (take_at (line_of q) (drop (length (line_of q)) old) after (sym long)) in
    let size = length-replicate {A = ℕ} store_size 0 in
    came_in offers country class hertz q (take after lent) line
    (from (run_found offers (replicate store_size 0) image size run (device_key device) q stands))
  where
    from : {k : Key} {q : Profile}
        → (find k (stored (replicate store_size 0)) ≡ Ok q) ⊎ Stored (replicate store_size 0) offers k q
        → Stored (replicate store_size 0) offers k q
    from {k} {q} (inl g) =
        let never : find k [] ≡ Ok q = subst (λ (ps : List Profile). find k ps ≡ Ok q) zeros_empty g in
        let z : ◌≡◌ {A = ℕ} 0 1 = cc in
        absurd (omega arith)
    from (inr w) = w
