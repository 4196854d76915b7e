-- Runs of offers: each load is a call of `put` or none, each file brings in a table or changes nothing, the image keeps its
-- size, and what is found came in by one of the loads.
-- Assumes nothing.
use mathlib.Core.Path.{◌≡◌, refl, ◌∙◌, sym, ap, subst}
use mathlib.Core.Bool.{Bool, true, false, ◌&&◌}
use mathlib.Core.List.{List, [], ◌∷◌, ◌++◌}
use mathlib.Core.Logic.{◌⊎◌, inl, inr}
use Prim.Native.Nat.{ℕ}
use native.Mathlib.Omega.{arith}
use native.Mathlib.Decide.{ℕ_discrete}
use lib.Dec.{eqb}
use lib.ListN.{length, replicate, length-replicate}
use borrow.Author.Tests.{eqb-true, eq-eqb, ne_eqb}
use Rattle.outcome.specs.declared.refusal.Refusal.{Refusal}
use Rattle.outcome.specs.Answer.{first_refusal, pick}
use Rattle.outcome.specs.Result.{Result, Ok, Err, number_in}
use Rattle.profile.specs.declared.Profile.{Profile}
use Rattle.profile.specs.Rules.{Class, classes}
use Rattle.profile.specs.Table.{table_of}
use Rattle.profile.specs.Line.{read_line}
use Rattle.profile.proofs.Theorems.{writes_read}
use Rattle.store.specs.declared.Key.{Key}
use Rattle.store.specs.Keys.{key_of, device_key, same_key, device_ok}
use Rattle.store.specs.Stored.{store_size, classes_of, stored, find}
use Rattle.store.specs.Calls.{put_number, Stores}
use Rattle.store.specs.Reached.{ValidCall, Run, Reached}
use Rattle.store.proofs.KeyLaws.{both_true, not_both, same_eq, same_refl}
use Rattle.store.proofs.StoredLaws.{perm_length}
use Rattle.store.proofs.OneSlot.{taken_size, table_kept}
use Rattle.store.proofs.PutLaws.{put_passed}
use Rattle.store.proofs.Reached.{reached_hold, run_then, zeros_empty}
use Rattle.table.specs.File.{sound_table, read_table, is_empty, LoadsTable}
use Rattle.table.proofs.Theorems.{zeros_built_in, loaded_table, table_stays}
use Rattle.package.specs.Package.{line_in, open_checks, opened}
use Rattle.package.specs.Images.{
  Load,
  Offer,
  by_package,
  by_file,
  LoadAnswers,
  OfferAnswers,
  OfferRun,
  setting_of,
  calls_for,
  calls_of,
  Made,
  map_in,
  with_file,
  with_offer,
  made_from,
  made,
  ImageReached,
  ClassesStay,
}
use Rattle.package.proofs.OpenLaws.{opened_number, opened_passed}
use Rattle.package.proofs.LoadLaws.{load_number, load_opens}
use Rattle.package.proofs.Theorems.{Accepted, accepted}

-- ---- results

one_done : {a b : Profile} → ◌≡◌ {A = Result Profile} (Ok a) (Ok b) → a ≡ b
one_done e = cc

never_refused : {a : Profile} {q : Refusal} → ◌≡◌ {A = Result Profile} (Ok a) (Err q) → ⊥
never_refused e = cc

-- what was stored is there
stores_some : {p : Profile} {ps qs : List Profile} → Stores p ps qs → qs ≡ [] → ⊥
unfolding find
stores_some {p} {ps} {qs} stores none =
    let it : find (key_of p) qs ≡ Ok p =
    stores.finds (key_of p)
    ∙ ap (λ (b : Bool). pick b (Ok p) (find (key_of p) ps)) (same_refl (key_of p)) in
    never_refused (sym it ∙ ap (find (key_of p)) none)

-- ---- one load

module _ (l : Load) (old next : List ℕ) (answer : ℕ) (size : length old ≡ store_size) (loads : LoadAnswers l old answer next)
  where
    abbrev table : List Class
    table = classes_of old

    -- by what it answers
    by_answer : {A : Type 0} → (answer ≡ 0 → A) → (next ≡ old → A) → A
    by_answer {A} one other = go (ℕ_discrete answer 0)
      where
        go : Dec (answer ≡ 0) → A
        go (yes e) = one e
        go (no ne) = other (loads.kept ne)

    pub load_size : length next ≡ store_size
    load_size =
        by_answer (λ e. taken_size size (loads.taken e).2) (λ same. ap length same ∙ size)

    -- the table is as it was
    pub load_classes : classes_of next ≡ classes_of old
    load_classes =
        by_answer (λ e. ap table_of (table_kept (loads.taken e).0 old next size (loads.taken e).2))
        (λ same. ap classes_of same)

    -- and what is stored stays
    pub load_holds : (stored old ≡ [] → ⊥) → stored next ≡ [] → ⊥
    load_holds some =
        by_answer (λ e. stores_some (loads.taken e).2.stores)
        (λ same none. some (sym (ap stored same) ∙ none))

    abbrev Set : Bool
    Set = eqb (length l.country) 2 && device_ok table (setting_of l)

    abbrev opening : Result Profile
    opening = opened l.sizes table l.key l.sealed

    took : answer ≡ 0 → Accepted l.sizes table l.key l.sealed l.country l.class l.hertz old next
    took e = accepted l.sizes table l.key l.sealed l.country l.class l.hertz old answer next loads e

    -- an accepted load has a sound setting, and its package opens to what was taken
    is_set : answer ≡ 0 → Set ≡ true
    is_set e = rw ((took e).passes.two, (took e).passes.device_ok_lem)

    opens : (e : answer ≡ 0) → opening ≡ Ok (took e).profile
    opens e =
        let passes = (took e).passes in
        let two = eqb-true (length l.country) 2 passes.two in
        opened_passed l.sizes table l.key l.sealed
        (load_opens l.sizes table l.key l.sealed l.country l.class l.hertz old two
        passes.device_ok_lem size
        (sym loads.answers ∙ e))
        ∙ (took e).reads

    -- of a package that opens the answer is that of storing
    answered : Set ≡ true → (profile : Profile) → opening ≡ Ok profile
        → answer ≡ put_number (setting_of l) profile (stored old)
    answered set profile found =
        let sound = both_true (eqb (length l.country) 2) (device_ok table (setting_of l)) set in
        let two = eqb-true (length l.country) 2 sound.0 in
        loads.answers
        ∙ load_number l.sizes table l.key l.sealed l.country l.class l.hertz old two sound.1 size
        profile found

    taken_of : (profile : Profile) → opening ≡ Ok profile → answer ≡ 0 → Stores profile (stored old) (stored next)
    taken_of profile found e =
        let same : (took e).profile ≡ profile = one_done (sym (opens e) ∙ found) in
        subst (λ (q : Profile). Stores q (stored old) (stored next)) same (took e).taken.stores

    valid_of : (profile : Profile) → Set ≡ true → opening ≡ Ok profile
        → ValidCall table (record { device = setting_of l; profile = profile })
    valid_of profile set found =
        let zero : first_refusal (open_checks l.sizes table l.key l.sealed) ≡ 0 =
        sym (opened_number l.sizes table l.key l.sealed) ∙ ap number_in found in
        let read = sym (opened_passed l.sizes table l.key l.sealed zero) ∙ found in
        record {
          profile = (writes_read table (line_in l.sizes l.sealed) profile read).1;
          device = (both_true (eqb (length l.country) 2) (device_ok table (setting_of l)) set).1;
        }

    -- the load is the calls that it makes
    pub load_run : Run table (stored old) (calls_of table l) (stored next)
    load_run = go Set refl opening refl
      where
        none : (answer ≡ 0 → ⊥) → stored next ≡ stored old
        none ne = ap stored (loads.kept ne)

        go : (b : Bool) → Set ≡ b → (r : Result Profile) → opening ≡ r
            → Run table (stored old) (pick b (calls_for (setting_of l) r) []) (stored next)
        go false s r o = none (λ e. not_both Set (is_set e) s)
        go true s (Err q) o = none (λ e. never_refused (sym (opens e) ∙ o))
        go true s (Ok profile) o =
            let number = answered s profile o in (
              stored next,
              valid_of profile s o,
              record {
                taken = λ e. taken_of profile o (number ∙ e);
                kept = λ ne. none (λ e. ne (sym number ∙ e));
              },
              refl,
            )

    -- what is found after it was found before, or it was this load that was answered 0 and stored it
    pub load_found : (k : Key) (q : Profile) → find k (stored next) ≡ Ok q
        → (find k (stored old) ≡ Ok q)
        ⊎ ((answer ≡ 0) × (device_key (setting_of l) ≡ k) × (read_line table (line_in l.sizes l.sealed) ≡ Ok q))
    load_found k q f =
        by_answer (λ e. go e (same_key (key_of (took e).profile) k) refl (sym ((took e).taken.stores.finds k) ∙ f))
        (λ same. inl (subst (λ (image : List ℕ). find k (stored image) ≡ Ok q) same f))
      where
        go : (e : answer ≡ 0) (b : Bool) → same_key (key_of (took e).profile) k ≡ b
            → pick b (Ok (took e).profile) (find k (stored old)) ≡ Ok q
            → (find k (stored old) ≡ Ok q)
            ⊎ ((answer ≡ 0) × (device_key (setting_of l) ≡ k) × (read_line table (line_in l.sizes l.sealed) ≡ Ok q))
        go e true s g =
            let t = took e in
            let own = (put_passed (setting_of l) t.profile (stored old) t.puts).0 in
            let its = same_eq (key_of t.profile) (device_key (setting_of l)) own in
            inr (e, sym its ∙ same_eq (key_of t.profile) k s, t.reads ∙ g)
        go e false s g = inl g

-- ---- what offers made

-- an image that they made: its classes, and what is stored
record Makes (m : Made) (image : List ℕ) : Type 0 where
  size : length image ≡ store_size
  table : classes_of image ≡ m.table
  sound : sound_table (classes_of image) ≡ true
  reached : Reached m.table m.calls (stored image)

load_makes : (m : Made) (l : Load) (old next : List ℕ) (answer : ℕ) → Makes m old → LoadAnswers l old answer next
    → Makes (with_offer m (by_package l)) next
load_makes m l old next answer is loads =
    let same = load_classes l old next answer is.size loads in
    record {
      size = load_size l old next answer is.size loads;
      table = same ∙ is.table;
      sound = ap sound_table same ∙ is.sound;
      reached = run_then m.table m.calls (calls_of m.table l) [] (stored old) (stored next) is.reached
          (subst (λ (table : List Class). Run table (stored old) (calls_of table l) (stored next)) is.table
          (load_run l old next answer is.size loads));
    }

-- ---- one file

-- lists of one length are both empty or both not
same_empty : (ps qs : List Profile) → length ps ≡ length qs → is_empty ps ≡ is_empty qs
same_empty [] [] e = refl
same_empty [] (q ∷ qs) e = let z : ◌≡◌ {A = ℕ} 0 (length (q ∷ qs)) = e in absurd (omega arith)
same_empty (p ∷ ps) [] e = let z : ◌≡◌ {A = ℕ} (length (p ∷ ps)) 0 = e in absurd (omega arith)
same_empty (p ∷ ps) (q ∷ qs) e = refl

module _ (bytes old next : List ℕ) (answer : ℕ) (loads : LoadsTable bytes old answer next) where
  -- by what it answers
  by_file_answer : {A : Type 0} → (answer ≡ 0 → A) → ((answer ≡ 0 → ⊥) → next ≡ old → A) → A
  by_file_answer {A} one other = go (ℕ_discrete answer 0)
    where
      go : Dec (answer ≡ 0) → A
      go (yes e) = one e
      go (no ne) = other ne (loads.content ∙ rw (ne_eqb answer 0 ne) refl)

  file_size : length old ≡ store_size → length next ≡ store_size
  file_size size =
      by_file_answer (λ e. (loaded_table bytes old answer next loads e).0) (λ ne same. ap length same ∙ size)

  -- nothing comes into a store with a table
  file_found : (k : Key) (q : Profile) → find k (stored next) ≡ Ok q → find k (stored old) ≡ Ok q
  unfolding find
  file_found k q f =
      by_file_answer
      (λ e. absurd (never_refused (sym f ∙ ap (find k) (loaded_table bytes old answer next loads e).2)))
      (λ ne same. subst (λ (image : List ℕ). find k (stored image) ≡ Ok q) same f)

  module _ (m : Made) (is : Makes m old) where
    -- the store is empty where the map is
    empty : is_empty (stored old) ≡ is_empty (map_in m)
    empty =
        same_empty (stored old) (map_in m)
        (perm_length (reached_hold m.table m.calls (stored old) is.reached).listed)

    -- a refused file: it is none, or something is stored
    refused_file : (answer ≡ 0 → ⊥) → (r : Result (List Class)) → read_table bytes ≡ r → (b : Bool) → is_empty (stored old) ≡ b
        → with_file m r ≡ m
    refused_file ne (Err q) o b s = refl
    refused_file ne (Ok rows) o false s = rw (sym empty ∙ s) refl
    refused_file ne (Ok rows) o true s =
        absurd (ne (loads.answer ∙ rw (eq-eqb (length old) store_size is.size, o, s)))

    file_makes : Makes (with_file m (read_table bytes)) next
    file_makes =
        by_file_answer
        (λ e.
        let t = loaded_table bytes old answer next loads e in
        let free : is_empty (map_in m) ≡ true = sym empty ∙ ap is_empty t.1 in
        rw (t.4, free)
        (record { size = t.0; table = refl; sound = t.5; reached = t.2 }))
        (λ ne same.
        rw (refused_file ne (read_table bytes) refl (is_empty (stored old)) refl, same)
        is)

-- ---- offers in order

run_makes : (os : List Offer) (m : Made) (old new : List ℕ) → Makes m old → OfferRun old os new → Makes (made_from m os) new
unfolding made_from
run_makes [] m old new is run = subst (Makes m) (sym run) is
run_makes (by_package l ∷ os) m old new is run =
    run_makes os (with_offer m (by_package l)) run.1 new (load_makes m l old run.1 run.0 is run.2) run.3
run_makes (by_file bytes ∷ os) m old new is run =
    run_makes os (with_offer m (by_file bytes)) run.1 new (file_makes bytes old run.1 run.0 run.2 m is) run.3

-- an image of zeros
zeros_made : Makes (record { table = classes; calls = [] }) (replicate store_size 0)
zeros_made =
    record {
      size = length-replicate {A = ℕ} store_size 0;
      table = zeros_built_in.0;
      sound = ap sound_table zeros_built_in.0 ∙ zeros_built_in.1;
      reached = zeros_empty;
    }

pub image_reached : ImageReached
image_reached offers image run =
    let is = run_makes offers (record { table = classes; calls = [] }) (replicate store_size 0) image zeros_made run in
    let reached : Reached (classes_of image) (made offers).calls (stored image) =
    subst (λ (table : List Class). Reached table (made offers).calls (stored image)) (sym is.table) is.reached in
    record {
      size = is.size;
      table = is.table;
      sound = is.sound;
      reached = reached;
      all_valid = (reached_hold (classes_of image) (made offers).calls (stored image) reached).all_valid;
    }

pub classes_stay : ClassesStay
classes_stay [] old new size run some = (ap classes_of run, λ none. some (sym (ap stored run) ∙ none))
classes_stay (by_package l ∷ os) old new size run some =
    let next = run.1 in
    let rest =
    classes_stay os next new (load_size l old next run.0 size run.2) run.3
    (load_holds l old next run.0 size run.2 some) in
    (rest.0 ∙ load_classes l old next run.0 size run.2, rest.1)
classes_stay (by_file bytes ∷ os) old new size run some =
    let next = run.1 in
    let same : next ≡ old = (table_stays bytes old run.0 next run.2 some).1 in
    let rest =
    classes_stay os next new (ap length same ∙ size) run.3 (λ none. some (sym (ap stored same) ∙ none)) in
    (rest.0 ∙ ap classes_of same, rest.1)

-- ---- what is found

-- one of the offers was a load that was answered 0 and stored q under k
pub record Stored (old : List ℕ) (offers : List Offer) (k : Key) (q : Profile) : Type 0 where
  pub earlier : List Offer
  pub load : Load
  pub later : List Offer
  pub found : List ℕ
  pub left : List ℕ
  pub order : offers ≡ earlier ++ (by_package load ∷ later)
  pub reached : OfferRun old earlier found
  pub answered : LoadAnswers load found 0 left
  pub device : device_key (setting_of load) ≡ k
  pub reads : read_line (classes_of found) (line_in load.sizes load.sealed) ≡ Ok q

-- behind an offer
behind : (o : Offer) (answer : ℕ) {os : List Offer} {old next : List ℕ} {k : Key} {q : Profile}
    → OfferAnswers o old answer next → Stored next os k q → Stored old (o ∷ os) k q
behind o answer {next = next} answers w =
    record {
      earlier = o ∷ w.earlier;
      load = w.load;
      later = w.later;
      found = w.found;
      left = w.left;
      order = ap (λ (os : List Offer). o ∷ os) w.order;
      reached = (answer, next, answers, w.reached);
      answered = w.answered;
      device = w.device;
      reads = w.reads;
    }

pub run_found : (os : List Offer) (old new : List ℕ) → length old ≡ store_size → OfferRun old os new
    → (k : Key) (q : Profile) → find k (stored new) ≡ Ok q → (find k (stored old) ≡ Ok q) ⊎ Stored old os k q
run_found [] old new size run k q f = inl (subst (λ (image : List ℕ). find k (stored image) ≡ Ok q) run f)
run_found (by_package l ∷ os) old new size run k q f =
    go (run_found os run.1 new (load_size l old run.1 run.0 size run.2) run.3 k q f)
  where
    here : (find k (stored old) ≡ Ok q)
        ⊎ ((run.0 ≡ 0) × (device_key (setting_of l) ≡ k)
        × (read_line (classes_of old) (line_in l.sizes l.sealed) ≡ Ok q))
        → (find k (stored old) ≡ Ok q) ⊎ Stored old (by_package l ∷ os) k q
    here (inl g) = inl g
    here (inr w) =
        inr
        (record {
          earlier = [];
          load = l;
          later = os;
          found = old;
          left = run.1;
          order = refl;
          reached = refl;
          answered = subst (λ (n : ℕ). LoadAnswers l old n run.1) w.0 run.2;
          device = w.1;
          reads = w.2;
        })

    go : (find k (stored run.1) ≡ Ok q) ⊎ Stored run.1 os k q
        → (find k (stored old) ≡ Ok q) ⊎ Stored old (by_package l ∷ os) k q
    go (inl g) = here (load_found l old run.1 run.0 size run.2 k q g)
    go (inr w) = inr (behind (by_package l) run.0 run.2 w)
run_found (by_file bytes ∷ os) old new size run k q f =
    go (run_found os run.1 new (file_size bytes old run.1 run.0 run.2 size) run.3 k q f)
  where
    go : (find k (stored run.1) ≡ Ok q) ⊎ Stored run.1 os k q
        → (find k (stored old) ≡ Ok q) ⊎ Stored old (by_file bytes ∷ os) k q
    go (inl g) = inl (file_found bytes old run.1 run.0 run.2 k q g)
    go (inr w) = inr (behind (by_file bytes) run.0 run.2 w)
