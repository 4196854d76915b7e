-- Making a package and loading it, put together, at all sound sizes: what was made lies within what was lent; and where
-- making answers 0, so do making the key, loading and looking up, and the lookup writes the line.
-- Assumes nothing.
use mathlib.Core.Path.{◌≡◌, ◌∙◌, sym, ap}
use mathlib.Core.List.{List}
use Prim.Native.Nat.{ℕ, zero, suc, ◌+◌, ◌≤◌}
use native.Mathlib.Omega.{arith}
use borrow.Author.Tests.{ne_eqb}
use lib.ListN.{length, take, drop, replicate, length-append, length-replicate}
use lib.Seq.{length-take-le, take_at}
use Rattle.outcome.specs.Answer.{Check, AnswersFront}
use Rattle.parameters.specs.declared.Params.{Params}
use Rattle.parameters.specs.Sound.{Sound}
use Rattle.profile.specs.Line.{longest}
use Rattle.scheme.specs.Key.{public_key}
use Rattle.scheme.specs.Sign.{signature_size}
use Rattle.store.specs.Stored.{classes_of}
use Rattle.store.specs.Calls.{LooksUp}
use Rattle.package.specs.Entries.{MakesFromLine, Loads}
use Rattle.package.proofs.FromLine.{made}
use Rattle.package.proofs.Images.{line_loads}
use Rattle.duty.specs.declared.Loaded.{Loaded}
use Rattle.duty.specs.Carried.{MakesKeyAnew, MakesAndLoads}
use Rattle.duty.proofs.Carry.{key_made}

-- what was written at the front lies within what was lent; after a refusal it is nothing
pub made_within : {cs : List Check} {made old : List ℕ} {k : ℕ} {lent : List ℕ} {size : ℕ}
    → AnswersFront cs made old 0 k lent size → size ≤ length lent
made_within {made = made} {old = old} {k = zero} {lent = lent} a =
    let whole : length lent ≡ length made + length (drop (length made) old) =
    ap (λ (l : List ℕ). length l) a.answers.content ∙ length-append made (drop (length made) old) in
    omega (arith, whole, a.size)
made_within {k = suc k} {size = size} a =
    let none : size ≡ 0 = rw (ne_eqb (suc k) 0 (λ z. omega arith)) at a.size in
    omega (arith, none)

-- and so its length is what was given
pub made_length : {cs : List Check} {made old : List ℕ} {k : ℕ} {lent : List ℕ} {size : ℕ}
    → AnswersFront cs made old 0 k lent size → size ≡ length (take size lent)
made_length a = sym (length-take-le _ _ (made_within a))

-- ---- making, loading and looking up, put together

pub makes_and_loads : {p : Params} → Sound p
    → {table private master salt line country : List ℕ} {class hertz : ℕ} {store old : List ℕ} {r : Loaded}
    {public store' out found : List ℕ} {size length_found : ℕ}
    → MakesKeyAnew p private r.key public
    → MakesFromLine p table private master salt line old 0 r.make out size
    → Loads p (classes_of store) public (take size out) country class hertz store r.load store'
    → LooksUp (classes_of store') store' country class hertz (replicate longest 0) 0 r.lookup found length_found
    → MakesAndLoads p table private master salt line country class hertz store old r store' out
makes_and_loads {p} sound {table} {private} {master} {salt} {line} {country} {class} {hertz} {store} {old} {r} {public}
    {store'} {out} {found} {size} {length_found} wrote makes loaded looked =
    record {
      public = public;
      key_answer = wrote;
      size = size;
      make_answer = makes;
      load_answer = loaded;
      found = found;
      length_found = length_found;
      lookup_answer = looked;
      loads = λ zero.
          let sealed : MakesFromLine p table private master salt line old 0 0 out size = rw zero at makes in
          let signed = (made p table private master salt line sealed).signed in
          let key = key_made p private master salt line (signature_size p) r.key wrote signed in
          let loads : Loads p (classes_of store) (public_key p private) (take size out) country class hertz store r.load
          store' =
          rw key.1 at loaded in
          let of_line = line_loads p sound table private master salt line old out 0 size sealed in (
            of_line.0,
            of_line.1,
            λ two own whole ok newer room.
                let all = of_line.3 country class hertz store r.load store' two own whole ok newer room loads in
                let room_for = length-replicate {A = ℕ} longest 0 in
                let line_found = all.2 (replicate longest 0) 0 r.lookup found length_found room_for looked in
                let written : take length_found found ≡ line =
                rw line_found.1
                (take_at line (drop (length line) (replicate longest 0)) length_found (sym line_found.2)) in
                (key.0, all.0, all.1, line_found.0, written),
          );
    }
