-- What holds of the stores that calls reach from the empty one. Assumes nothing.
use mathlib.Core.Path.{◌≡◌, refl, ◌∙◌, sym, ap, subst}
use mathlib.Core.Bool.{Bool, true, false, ◌||◌}
use mathlib.Core.List.Permᴰ
use mathlib.Core.List.{
  List,
  [],
  ◌∷◌,
  ◌++◌,
}
use mathlib.Core.Logic.{◌⊎◌, inl, inr}
use Prim.Native.Nat.{ℕ, suc, ◌≤◌}
use native.Mathlib.Omega.{arith}
use native.Mathlib.Decide.{ℕ_discrete}
use lib.Dec.{T, eqb, ltb, ltb→lt}
use lib.ListN.{length}
use borrow.Author.Tests.{eq-eqb, ne_eqb, ltb-true}
use Rattle.outcome.specs.Answer.{pick}
use Rattle.outcome.specs.Result.{Result, Ok}
use Rattle.outcome.proofs.Checks.{passed}
use Rattle.profile.specs.declared.Profile.{Profile}
use Rattle.profile.specs.Rules.{Class, valid}
use Rattle.store.specs.declared.Key.{Key}
use Rattle.store.specs.declared.Device.{Device}
use Rattle.store.specs.Keys.{key_of, device_key, same_key}
use Rattle.store.specs.Stored.{
  capacity,
  store_size,
  slots_of,
  profiles_in,
  stored,
  find,
  is_stored,
  insert,
  Distinct,
}
use Rattle.store.specs.Calls.{newer, put_image_checks, Perm, Stores, Puts}
use Rattle.store.specs.Reached.{
  Call,
  answer_to,
  Step,
  ValidCall,
  Run,
  model,
  Entered,
  AllValid,
  ZerosEmpty,
  EmptyReached,
  PutReaches,
  PutChanges,
  ReachedHold,
}
use Rattle.store.proofs.KeyLaws.{same_eq, same_refl}
use Rattle.store.proofs.StoredLaws.{
  find_key,
  find_insert,
  perm_length,
  perm_distinct,
  perm_insert,
  distinct_insert,
}
use Rattle.store.proofs.LookupLaws.{lookup_find}
use Rattle.image.specs.Image.{has_image}
use Rattle.image.proofs.Theorems.{valid_fits}
use Rattle.store.proofs.PutLaws.{put_passed, put_sized, stores_length, put_same}

-- ---- one call

-- what `put` ensures is a step
pub puts_step : (d : Device) (p : Profile) (old : List ℕ) (r : ℕ) (new : List ℕ) → length old ≡ store_size
    → has_image p ≡ true → Puts d p old r new → Step (record { device = d; profile = p }) (stored old) (stored new)
puts_step d p old r new size kinds puts =
    let answered = puts.answer ∙ put_sized d p old size kinds in
    record {
      taken = λ e. (puts.taken (answered ∙ e)).stores;
      kept = λ ne. ap stored (puts.kept (λ e. ne (sym answered ∙ e)));
    }

-- what an accepted call stores was not found before, since its serial is greater than that of what was
pub put_changes : PutChanges
put_changes d p old r new puts zero same =
    let after : find (key_of p) (stored new) ≡ Ok p =
    (puts.taken zero).stores.finds (key_of p) ∙ rw (same_refl (key_of p)) in
    let before : find (key_of p) (stored old) ≡ Ok p =
    subst (λ (image : List ℕ). find (key_of p) (stored image) ≡ Ok p) same after in
    let tests = passed (put_image_checks d p old) (sym puts.answer ∙ zero) in
    let greater : T (ltb p.serial p.serial) =
    subst (λ (q : Result Profile). T (newer p q)) before tests.1.1.1.0 in
    let less = ltb→lt p.serial p.serial greater in
    omega arith

-- a step by cases
by_answer : {A : Type 0} {c : Call} {ps qs : List Profile} → Step c ps qs
    → (answer_to c ps ≡ 0 → Stores c.profile ps qs → A) → ((answer_to c ps ≡ 0 → ⊥) → qs ≡ ps → A) → A
by_answer {A} {c} {ps} {qs} step one other = go (ℕ_discrete (answer_to c ps) 0)
  where
    go : Dec (answer_to c ps ≡ 0) → A
    go (yes e) = one e (step.taken e)
    go (no ne) = other ne (step.kept ne)

step_distinct : {c : Call} {ps qs : List Profile} → Step c ps qs → Distinct ps → Distinct qs
unfolding Permᴰ.symm
step_distinct {c} {ps} {qs} step u =
    by_answer step
    (λ e new. perm_distinct (Permᴰ.symm new.listed) (distinct_insert c.profile ps u))
    (λ ne same. subst Distinct (sym same) u)

room_for : (is : Bool) (n : ℕ) → (is || ltb n capacity) ≡ true → n ≤ capacity → pick is n (suc n) ≤ capacity
room_for true n e h = h
room_for false n e h = ltb-true n capacity e

step_fits : {c : Call} {ps qs : List Profile} → Step c ps qs → length ps ≤ capacity → length qs ≤ capacity
step_fits {c} {ps} {qs} step h =
    by_answer step
    (λ e new.
    let passed = put_passed c.device c.profile ps e in
    let room = room_for (is_stored (key_of c.profile) ps) (length ps) passed.2 h in
    omega (arith, stores_length new))
    (λ ne same. subst (λ (l : List Profile). length l ≤ capacity) (sym same) h)

-- ---- everything stored is valid

pub perm_valid : (table : List Class) {ps qs : List Profile} → Perm ps qs → AllValid table ps → AllValid table qs
perm_valid table Permᴰ.nil all = tt
perm_valid table (Permᴰ.cons e d) all =
    (subst (λ (p : Profile). T (valid table p)) e all.0, perm_valid table d all.1)
perm_valid table (Permᴰ.swap e f) all = (
  subst (λ (p : Profile). T (valid table p)) f all.1.0,
  (subst (λ (p : Profile). T (valid table p)) e all.0, all.1.1),
)
perm_valid table (Permᴰ.trans d e) all = perm_valid table e (perm_valid table d all)

insert_valid : (table : List Class) (p : Profile) (ps : List Profile) → T (valid table p) → AllValid table ps
    → AllValid table (insert p ps)
unfolding insert
insert_valid table p [] ok all = (ok, tt)
insert_valid table p (q ∷ qs) ok all = go (same_key (key_of q) (key_of p)) (insert_valid table p qs ok all.1)
  where
    go : (b : Bool) → AllValid table (insert p qs) → AllValid table (pick b (p ∷ qs) (q ∷ insert p qs))
    go true rest = (ok, all.1)
    go false rest = (all.0, rest)

pub find_valid : (table : List Class) (k : Key) (ps : List Profile) (p : Profile) → AllValid table ps
    → find k ps ≡ Ok p → T (valid table p)
unfolding find
find_valid table k [] p all e = let z : ◌≡◌ {A = ℕ} 0 1 = cc in absurd (omega arith)
find_valid table k (q ∷ qs) p all e = go (same_key (key_of q) k) e (find_valid table k qs p all.1)
  where
    go : (b : Bool) → pick b (Ok q) (find k qs) ≡ Ok p → (find k qs ≡ Ok p → T (valid table p))
        → T (valid table p)
    go true f rest = let same : q ≡ p = cc in subst (λ (r : Profile). T (valid table r)) same all.0
    go false f rest = rest f

step_valid : {table : List Class} {c : Call} {ps qs : List Profile} → ValidCall table c → Step c ps qs
    → AllValid table ps → AllValid table qs
unfolding Permᴰ.symm
step_valid {table} {c} {ps} {qs} call step all =
    by_answer step
    (λ e new. perm_valid table (Permᴰ.symm new.listed) (insert_valid table c.profile ps call.profile all))
    (λ ne same. subst (AllValid table) (sym same) all)

-- ---- the model

-- as a map, and up to order
record Agree (ps ms : List Profile) : Type 0 where
  as_map : (k : Key) → find k ps ≡ find k ms
  listed : Perm ps ms

next : Call → List Profile → List Profile
next c ms = pick (eqb (answer_to c ms) 0) (insert c.profile ms) ms

step_agree : {c : Call} {ps qs : List Profile} → Step c ps qs → Distinct ps → (ms : List Profile) → Agree ps ms
    → Agree qs (next c ms)
unfolding next
step_agree {c} {ps} {qs} step u ms agree =
    let p = c.profile in
    let found = agree.as_map (key_of p) in
    let same : answer_to c ps ≡ answer_to c ms = put_same c.device p ps ms found (perm_length agree.listed) in
    by_answer step
    (λ e new.
    rw (eq-eqb (answer_to c ms) 0 (sym same ∙ e))
    (record {
      as_map = λ k.
          new.finds k
          ∙ ap (λ (r : Result Profile). pick (same_key (key_of p) k) (Ok p) r) (agree.as_map k)
          ∙ sym (find_insert k p ms);
      listed = Permᴰ.trans new.listed (perm_insert p agree.listed u);
    }))
    (λ ne kept.
    rw (ne_eqb (answer_to c ms) 0 (λ e. ne (same ∙ e)), kept) agree)

-- ---- runs

run_valid : (table : List Class) (cs : List Call) (ps rs : List Profile) → Run table ps cs rs → AllValid table ps
    → AllValid table rs
run_valid table [] ps rs run all = subst (AllValid table) (sym run) all
run_valid table (c ∷ cs) ps rs run all =
    run_valid table cs run.0 rs run.3 (step_valid run.1 run.2 all)

run_distinct : (table : List Class) (cs : List Call) (ps rs : List Profile) → Run table ps cs rs → Distinct ps
    → Distinct rs
run_distinct table [] ps rs run u = subst Distinct (sym run) u
run_distinct table (c ∷ cs) ps rs run u = run_distinct table cs run.0 rs run.3 (step_distinct run.2 u)

run_fits : (table : List Class) (cs : List Call) (ps rs : List Profile) → Run table ps cs rs → length ps ≤ capacity
    → length rs ≤ capacity
run_fits table [] ps rs run h = subst (λ (l : List Profile). length l ≤ capacity) (sym run) h
run_fits table (c ∷ cs) ps rs run h = run_fits table cs run.0 rs run.3 (step_fits run.2 h)

run_agree : (table : List Class) (cs : List Call) (ps rs : List Profile) → Run table ps cs rs → Distinct ps
    → (ms : List Profile) → Agree ps ms → Agree rs (model ms cs)
unfolding model next
run_agree table [] ps rs run u ms agree = subst (λ (l : List Profile). Agree l ms) (sym run) agree
run_agree table (c ∷ cs) ps rs run u ms agree =
    run_agree table cs run.0 rs run.3 (step_distinct run.2 u) (next c ms) (step_agree run.2 u ms agree)

-- what is found was there before the run, or entered in it
step_entered : {c : Call} {ps qs : List Profile} → Step c ps qs → (k : Key) (p : Profile) → find k qs ≡ Ok p
    → (find k ps ≡ Ok p) ⊎ ((answer_to c ps ≡ 0) × (device_key c.device ≡ k) × (c.profile ≡ p))
step_entered {c} {ps} {qs} step k p f =
    by_answer step
    (λ e new. go e (same_key (key_of c.profile) k) refl (sym (new.finds k) ∙ f))
    (λ ne same. inl (subst (λ (l : List Profile). find k l ≡ Ok p) same f))
  where
    go : answer_to c ps ≡ 0 → (b : Bool) → same_key (key_of c.profile) k ≡ b
        → pick b (Ok c.profile) (find k ps) ≡ Ok p
        → (find k ps ≡ Ok p) ⊎ ((answer_to c ps ≡ 0) × (device_key c.device ≡ k) × (c.profile ≡ p))
    go e true s g =
        let passed = put_passed c.device c.profile ps e in
        let its = same_eq (key_of c.profile) (device_key c.device) passed.0 in
        let it : c.profile ≡ p = cc in
        inr (e, sym its ∙ same_eq (key_of c.profile) k s, it)
    go e false s g = inl g

run_entered : (table : List Class) (cs : List Call) (ps rs : List Profile) → Run table ps cs rs → (k : Key)
    (p : Profile) → find k rs ≡ Ok p → (find k ps ≡ Ok p) ⊎ Entered table ps cs rs k p
run_entered table [] ps rs run k p f = inl (subst (λ (l : List Profile). find k l ≡ Ok p) run f)
run_entered table (c ∷ cs) ps rs run k p f = go (run_entered table cs run.0 rs run.3 k p f)
  where
    here : (find k ps ≡ Ok p) ⊎ ((answer_to c ps ≡ 0) × (device_key c.device ≡ k) × (c.profile ≡ p))
        → (find k ps ≡ Ok p) ⊎ Entered table ps (c ∷ cs) rs k p
    here (inl g) = inl g
    here (inr w) =
        inr
        (record {
          before = [];
          call = c;
          behind = cs;
          found = ps;
          order = refl;
          reached = refl;
          answered = w.0;
          onward = run;
          device = w.1;
          profile = w.2;
        })

    go : (find k run.0 ≡ Ok p) ⊎ Entered table run.0 cs rs k p
        → (find k ps ≡ Ok p) ⊎ Entered table ps (c ∷ cs) rs k p
    go (inl g) = here (step_entered run.2 k p g)
    go (inr w) =
        inr
        (record {
          before = c ∷ w.before;
          call = w.call;
          behind = w.behind;
          found = w.found;
          order = ap (λ (l : List Call). c ∷ l) w.order;
          reached = (run.0, run.1, run.2, w.reached);
          answered = w.answered;
          onward = w.onward;
          device = w.device;
          profile = w.profile;
        })

-- ---- reached stores

pub reached_hold : ReachedHold
unfolding find
reached_hold table calls ps run =
    let agree = run_agree table calls [] ps run tt [] (record { as_map = λ k. refl; listed = Permᴰ.nil }) in
    record {
      all_valid = run_valid table calls [] ps run tt;
      distinct = run_distinct table calls [] ps run tt;
      fits = run_fits table calls [] ps run (omega arith);
      as_map = agree.as_map;
      listed = agree.listed;
      entered = λ classes d p e. origin d p (lookup_find classes d ps p e);
    }
  where
    entry : (d : Device) (p : Profile) → (find (device_key d) [] ≡ Ok p) ⊎ Entered table [] calls ps (device_key d) p
        → Entered table [] calls ps (device_key d) p
    entry d p (inl e) = let z : ◌≡◌ {A = ℕ} 0 1 = cc in absurd (omega arith)
    entry d p (inr w) = w

    origin : (d : Device) (p : Profile) → find (device_key d) ps ≡ Ok p
        → (key_of p ≡ device_key d) × Entered table [] calls ps (device_key d) p
    origin d p f =
        let its = same_eq (key_of p) (device_key d) (find_key (device_key d) ps p f) in
        (its, entry d p (run_entered table calls [] ps run (device_key d) p f))

pub reached_empty : EmptyReached
reached_empty table image e = e

pub zeros_empty : ZerosEmpty
unfolding slots_of profiles_in
zeros_empty = refl

-- one run after another
pub run_then : (table : List Class) (cs ds : List Call) (ps qs rs : List Profile) → Run table ps cs qs
    → Run table qs ds rs → Run table ps (cs ++ ds) rs
run_then table [] ds ps qs rs a b = subst (λ (l : List Profile). Run table l ds rs) a b
run_then table (c ∷ cs) ds ps qs rs a b = (a.0, a.1, a.2, run_then table cs ds a.0 qs rs a.3 b)

pub reached_put : PutReaches
reached_put table calls d p old r new run ok set size puts =
    run_then table calls (record { device = d; profile = p } ∷ []) [] (stored old) (stored new) run
    (stored new, record { profile = ok; device = set }, puts_step d p old r new size (valid_fits table p ok).kinds puts, refl)
