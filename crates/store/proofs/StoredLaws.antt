-- Laws of lists of profiles: finding, inserting, and lists that hold the same in another order. Assumes nothing.
use mathlib.Core.Path.{◌≡◌, refl, ◌∙◌, sym, ap, subst}
use mathlib.Core.Bool.{Bool, true, false, ◌||◌}
use mathlib.Core.List.Permᴰ
use mathlib.Core.List.{
  List,
  [],
  ◌∷◌,
  ◌++◌,
}
use Prim.Native.Nat.{ℕ, suc}
use native.Mathlib.Omega.{arith}
use lib.ListN.{length}
use Rattle.outcome.specs.Answer.{not_stored, pick}
use Rattle.profile.specs.declared.Profile.{Profile}
use Rattle.outcome.specs.Result.{Result, Ok, Err}
use Rattle.store.specs.declared.Key.{Key}
use Rattle.store.specs.Keys.{key_of, same_key}
use Rattle.store.specs.Stored.{find, is_done, is_stored, insert, Distinct}
use Rattle.store.specs.Calls.{Perm}
use Rattle.store.proofs.KeyLaws.{not_both, pick_again, pick_apart, same_eq, same_comm, same_apart}

-- ---- finding

-- what is found has the key
pub find_key : (k : Key) (ps : List Profile) (p : Profile) → find k ps ≡ Ok p → same_key (key_of p) k ≡ true
unfolding find
find_key k [] p e = let z : ◌≡◌ {A = ℕ} 0 1 = cc in absurd (omega arith)
find_key k (q ∷ qs) p e = go (same_key (key_of q) k) refl e (find_key k qs p)
  where
    go : (b : Bool) → same_key (key_of q) k ≡ b → pick b (Ok q) (find k qs) ≡ Ok p
        → (find k qs ≡ Ok p → same_key (key_of p) k ≡ true) → same_key (key_of p) k ≡ true
    go true s f rest = let same : q ≡ p = cc in rw same at s
    go false s f rest = rest f

is_done_lem : (b : Bool) (p : Profile) (r : Result Profile) → is_done (pick b (Ok p) r) ≡ (b || is_done r)
is_done_lem true p r = refl
is_done_lem false p r = refl

pub stored_cons : (k : Key) (p : Profile) (ps : List Profile)
    → is_stored k (p ∷ ps) ≡ (same_key (key_of p) k || is_stored k ps)
unfolding find
stored_cons k p ps = is_done_lem (same_key (key_of p) k) p (find k ps)

-- what is not stored is found nowhere
pub find_none : (k : Key) (ps : List Profile) → is_stored k ps ≡ false → find k ps ≡ Err not_stored
unfolding find
find_none k [] e = refl
find_none k (p ∷ ps) e = go (same_key (key_of p) k) e (find_none k ps)
  where
    go : (b : Bool) → is_done (pick b (Ok p) (find k ps)) ≡ false
        → (is_stored k ps ≡ false → find k ps ≡ Err not_stored)
        → pick b (Ok p) (find k ps) ≡ Err not_stored
    go true f rest = absurd (not_both true refl f)
    go false f rest = rest f

-- ---- inserting

-- after p is inserted it is found under its key, and under any other key what was found before
pub find_insert : (k : Key) (p : Profile) (ps : List Profile)
    → find k (insert p ps) ≡ pick (same_key (key_of p) k) (Ok p) (find k ps)
unfolding find insert
find_insert k p [] = refl
find_insert k p (q ∷ qs) = go (same_key (key_of q) (key_of p)) refl (find_insert k p qs)
  where
    go : (b : Bool) → same_key (key_of q) (key_of p) ≡ b
        → find k (insert p qs) ≡ pick (same_key (key_of p) k) (Ok p) (find k qs)
        → find k (pick b (p ∷ qs) (q ∷ insert p qs))
        ≡ pick (same_key (key_of p) k) (Ok p) (pick (same_key (key_of q) k) (Ok q) (find k qs))
    go true s rest =
        rw (same_eq (key_of q) (key_of p) s) (sym (pick_again (same_key (key_of p) k) (Ok p) (Ok q) (find k qs)))
    go false s rest =
        rw rest
        (pick_apart (same_key (key_of q) k) (same_key (key_of p) k) (Ok q) (Ok p) (find k qs)
        (same_apart (key_of q) (key_of p) k s))

-- p takes the place of the one of its key, or is one more
pub length_insert : (p : Profile) (ps : List Profile)
    → length (insert p ps) ≡ pick (is_stored (key_of p) ps) (length ps) (suc (length ps))
unfolding find insert
length_insert p [] = refl
length_insert p (q ∷ qs) = go (same_key (key_of q) (key_of p)) (is_stored (key_of p) qs) refl (length_insert p qs)
  where
    go : (b s : Bool) → is_stored (key_of p) qs ≡ s → length (insert p qs) ≡ pick s (length qs) (suc (length qs))
        → length (pick b (p ∷ qs) (q ∷ insert p qs))
        ≡ pick (is_done (pick b (Ok q) (find (key_of p) qs))) (suc (length qs)) (suc (suc (length qs)))
    go true s e rest = refl
    go false true e rest = rw e (ap suc rest)
    go false false e rest = rw e (ap suc rest)

-- p goes to the end where its key is not stored
pub insert_end : (p : Profile) (ps : List Profile) → is_stored (key_of p) ps ≡ false → insert p ps ≡ ps ++ (p ∷ [])
unfolding find insert
insert_end p [] e = refl
insert_end p (q ∷ qs) e = go (same_key (key_of q) (key_of p)) e (insert_end p qs)
  where
    go : (b : Bool) → is_done (pick b (Ok q) (find (key_of p) qs)) ≡ false
        → (is_stored (key_of p) qs ≡ false → insert p qs ≡ qs ++ (p ∷ []))
        → pick b (p ∷ qs) (q ∷ insert p qs) ≡ q ∷ (qs ++ (p ∷ []))
    go true f rest = absurd (not_both true refl f)
    go false f rest = ap (λ (l : List Profile). q ∷ l) (rest f)

-- ---- lists that hold the same

pub perm_eq : {ps qs : List Profile} → ps ≡ qs → Perm ps qs
perm_eq {ps} e = subst (λ (l : List Profile). Perm ps l) e (Permᴰ.refl ps)

pub perm_last : (p : Profile) (ps : List Profile) → Perm (p ∷ ps) (ps ++ (p ∷ []))
unfolding Permᴰ.symm
perm_last p ps = Permᴰ.symm (Permᴰ.trans (Permᴰ.middle p ps []) (Permᴰ.cons refl (Permᴰ.append-nil ps)))

pub perm_length : {ps qs : List Profile} → Perm ps qs → length ps ≡ length qs
perm_length Permᴰ.nil = refl
perm_length (Permᴰ.cons e d) = ap suc (perm_length d)
perm_length (Permᴰ.swap e f) = refl
perm_length (Permᴰ.trans d e) = perm_length d ∙ perm_length e

or_swap : (a b c : Bool) → (a || (b || c)) ≡ (b || (a || c))
or_swap true true c = refl
or_swap true false c = refl
or_swap false b c = refl

stored_two : (k : Key) (p q : Profile) (ps : List Profile)
    → is_stored k (p ∷ (q ∷ ps)) ≡ (same_key (key_of p) k || (same_key (key_of q) k || is_stored k ps))
stored_two k p q ps = stored_cons k p (q ∷ ps) ∙ ap (λ (b : Bool). same_key (key_of p) k || b) (stored_cons k q ps)

pub perm_stored : (k : Key) {ps qs : List Profile} → Perm ps qs → is_stored k ps ≡ is_stored k qs
perm_stored k Permᴰ.nil = refl
perm_stored k (Permᴰ.cons {a = p} {b = q} {l₁ = ps} {l₂ = qs} e d) =
    stored_cons k p ps
    ∙ (λ i. same_key (key_of (e i)) k || perm_stored k d i)
    ∙ sym (stored_cons k q qs)
perm_stored k (Permᴰ.swap {a = p} {b = q} {a' = p'} {b' = q'} {l = ps} e f) =
    stored_two k p q ps
    ∙ or_swap (same_key (key_of p) k) (same_key (key_of q) k) (is_stored k ps)
    ∙ (λ i. same_key (key_of (f i)) k || (same_key (key_of (e i)) k || is_stored k ps))
    ∙ sym (stored_two k p' q' ps)
perm_stored k (Permᴰ.trans d e) = perm_stored k d ∙ perm_stored k e

-- ---- no key twice

or-false : (a b : Bool) → (a || b) ≡ false → (a ≡ false) × (b ≡ false)
or-false true b e = absurd (not_both true refl e)
or-false false b e = (refl, e)

or_both : (a b : Bool) → a ≡ false → b ≡ false → (a || b) ≡ false
or_both a b e f = rw (e, f)

pub apart_cons : (k : Key) (p : Profile) (ps : List Profile) → is_stored k (p ∷ ps) ≡ false
    → (same_key (key_of p) k ≡ false) × (is_stored k ps ≡ false)
apart_cons k p ps e = or-false (same_key (key_of p) k) (is_stored k ps) (sym (stored_cons k p ps) ∙ e)

cons_apart : (k : Key) (p : Profile) (ps : List Profile) → same_key (key_of p) k ≡ false → is_stored k ps ≡ false
    → is_stored k (p ∷ ps) ≡ false
cons_apart k p ps e f = stored_cons k p ps ∙ or_both (same_key (key_of p) k) (is_stored k ps) e f

pub perm_distinct : {ps qs : List Profile} → Perm ps qs → Distinct ps → Distinct qs
perm_distinct Permᴰ.nil u = u
perm_distinct (Permᴰ.cons {a = p} {b = q} {l₁ = ps} {l₂ = qs} e d) u =
    let head = subst (λ (r : Profile). is_stored (key_of r) qs ≡ false) e (sym (perm_stored (key_of p) d) ∙ u.0) in
    (head, perm_distinct d u.1)
perm_distinct (Permᴰ.swap {a = p} {b = q} {a' = p'} {b' = q'} {l = ps} e f) u =
    let apart = apart_cons (key_of p) q ps u.0 in
    let apart' : same_key (key_of p) (key_of q) ≡ false = same_comm (key_of p) (key_of q) ∙ apart.0 in
    let head : is_stored (key_of p') (q' ∷ ps) ≡ false = rw (← f, ← e) (cons_apart (key_of q) p ps apart' u.1.0) in
    let next : is_stored (key_of q') ps ≡ false = rw (← e) apart.1 in
    (head, (next, u.1.1))
perm_distinct (Permᴰ.trans d e) u = perm_distinct e (perm_distinct d u)

-- in lists with no key twice the order does not matter to finding
pub perm_find : (k : Key) {ps qs : List Profile} → Perm ps qs → Distinct ps → find k ps ≡ find k qs
unfolding find
perm_find k Permᴰ.nil u = refl
perm_find k (Permᴰ.cons {a = p} {b = q} {l₁ = ps} {l₂ = qs} e d) u =
    λ i. pick (same_key (key_of (e i)) k) (Ok (e i)) (perm_find k d u.1 i)
perm_find k (Permᴰ.swap {a = p} {b = q} {a' = p'} {b' = q'} {l = ps} e f) u =
    let apart = (apart_cons (key_of p) q ps u.0).0 in
    pick_apart (same_key (key_of p) k) (same_key (key_of q) k) (Ok p) (Ok q) (find k ps)
    (λ x y. same_apart (key_of q) (key_of p) k apart y x)
    ∙ (λ i. pick (same_key (key_of (f i)) k) (Ok (f i)) (pick (same_key (key_of (e i)) k) (Ok (e i)) (find k ps)))
perm_find k (Permᴰ.trans d e) u = perm_find k d u ∙ perm_find k e (perm_distinct d u)

-- inserting stores no key but that of p
stored_insert : (k : Key) (p : Profile) (ps : List Profile) → same_key (key_of p) k ≡ false → is_stored k ps ≡ false
    → is_stored k (insert p ps) ≡ false
stored_insert k p ps e f =
    ap is_done (find_insert k p ps)
    ∙ is_done_lem (same_key (key_of p) k) p (find k ps)
    ∙ or_both (same_key (key_of p) k) (is_stored k ps) e f

pub distinct_insert : (p : Profile) (ps : List Profile) → Distinct ps → Distinct (insert p ps)
unfolding find insert
distinct_insert p [] u = (refl, tt)
distinct_insert p (q ∷ qs) u = go (same_key (key_of q) (key_of p)) refl (distinct_insert p qs u.1)
  where
    go : (b : Bool) → same_key (key_of q) (key_of p) ≡ b → Distinct (insert p qs)
        → Distinct (pick b (p ∷ qs) (q ∷ insert p qs))
    go true s rest = (subst (λ (k : Key). is_stored k qs ≡ false) (same_eq (key_of q) (key_of p) s) u.0, u.1)
    go false s rest = (stored_insert (key_of q) p qs (same_comm (key_of p) (key_of q) ∙ s) u.0, rest)

-- and inserting keeps lists with no key twice equal up to order
perm_insert_two : (p q r : Profile) (ps : List Profile) → same_key (key_of r) (key_of q) ≡ false
    → Perm (insert p (q ∷ (r ∷ ps))) (insert p (r ∷ (q ∷ ps)))
unfolding insert
perm_insert_two p q r ps differ = go (same_key (key_of q) (key_of p)) (same_key (key_of r) (key_of p)) refl refl
  where
    go : (a b : Bool) → same_key (key_of q) (key_of p) ≡ a → same_key (key_of r) (key_of p) ≡ b
        → Perm (pick a (p ∷ (r ∷ ps)) (q ∷ pick b (p ∷ ps) (r ∷ insert p ps)))
        (pick b (p ∷ (q ∷ ps)) (r ∷ pick a (p ∷ ps) (q ∷ insert p ps)))
    go true true e f = absurd (same_apart (key_of r) (key_of q) (key_of p) differ f e)
    go true false e f = Permᴰ.swap refl refl
    go false true e f = Permᴰ.swap refl refl
    go false false e f = Permᴰ.swap refl refl

perm_insert_cons : (p q : Profile) {ps qs : List Profile} → Perm ps qs → Perm (insert p ps) (insert p qs)
    → Perm (insert p (q ∷ ps)) (insert p (q ∷ qs))
unfolding insert
perm_insert_cons p q {ps} {qs} d rest = go (same_key (key_of q) (key_of p))
  where
    go : (b : Bool) → Perm (pick b (p ∷ ps) (q ∷ insert p ps)) (pick b (p ∷ qs) (q ∷ insert p qs))
    go true = Permᴰ.cons refl d
    go false = Permᴰ.cons refl rest

pub perm_insert : (p : Profile) {ps qs : List Profile} → Perm ps qs → Distinct ps → Perm (insert p ps) (insert p qs)
perm_insert p Permᴰ.nil u = Permᴰ.refl (insert p [])
perm_insert p (Permᴰ.cons {a = q} {b = r} {l₁ = ps} {l₂ = qs} e d) u =
    subst (λ (x : Profile). Perm (insert p (q ∷ ps)) (insert p (x ∷ qs))) e
    (perm_insert_cons p q d (perm_insert p d u.1))
perm_insert p (Permᴰ.swap {a = q} {b = r} {a' = q'} {b' = r'} {l = ps} e f) u =
    subst (λ (x : Profile). Perm (insert p (q ∷ (r ∷ ps))) (insert p (x ∷ (r' ∷ ps)))) f
    (subst (λ (x : Profile). Perm (insert p (q ∷ (r ∷ ps))) (insert p (r ∷ (x ∷ ps)))) e
    (perm_insert_two p q r ps (apart_cons (key_of q) r ps u.0).0))
perm_insert p (Permᴰ.trans d e) u = Permᴰ.trans (perm_insert p d u) (perm_insert p e (perm_distinct d u))
