-- Bytes that go into a sponge in several steps, and its rate. Assumes nothing.
use mathlib.Core.Path.{◌≡◌, sym, subst}
use mathlib.Core.List.{List, [], ◌∷◌, ◌++◌, append_assoc, append-nil}
use Prim.Native.Nat.{ℕ, ◌+◌}
use native.Mathlib.Numerals.{add-one}
use Rattle.outcome.specs.Lists.{flat}
use Rattle.shake.specs.InnerFold.{Sponge, Rate, Ready, Holds, Absorbs}
use Rattle.parameters.specs.declared.Params.{Params}
use Rattle.parameters.specs.Sound.{Sound}

-- a turn of a loop that takes f 0, f 1, .. in behind a tag
pub holds_turn : {s t : Sponge} {rate tag : ℕ} {xs : List ℕ} (f : ℕ → List ℕ) (j : ℕ) → Holds s rate (tag ∷ flat f j)
    → Absorbs s xs t → xs ≡ f j → Holds t rate (tag ∷ flat f (j + 1))
unfolding flat
holds_turn {t = t} {rate = rate} {tag = tag} f j h a e =
    rw (add-one j) (subst (λ (zs : List ℕ). Holds t rate (tag ∷ (flat f j ++ zs))) e (a.holds h))

pub absorbs_none : {s : Sponge} → Ready s → Absorbs s [] s
absorbs_none {s} ready =
    record { ready = ready; holds = λ {rate} {m} h. subst (λ (xs : List ℕ). Holds s rate xs) (sym (append-nil m)) h }

pub absorbs_more : {s t u : Sponge} {xs ys : List ℕ} → Absorbs s xs t → Absorbs t ys u → Absorbs s (xs ++ ys) u
absorbs_more {u = u} {xs = xs} {ys = ys} a b =
    record {
      ready = b.ready;
      holds = λ {rate} {m} h. subst (λ (zs : List ℕ). Holds u rate zs) (append_assoc m xs ys) (b.holds (a.holds h));
    }

pub absorbs_to : {s t : Sponge} {xs ys : List ℕ} → Absorbs s xs t → xs ≡ ys → Absorbs s ys t
absorbs_to {s} {t} a e = subst (λ (zs : List ℕ). Absorbs s zs t) e a

pub holds_to : {s : Sponge} {rate : ℕ} {xs ys : List ℕ} → Holds s rate xs → xs ≡ ys → Holds s rate ys
holds_to {s} {rate} h e = subst (λ (zs : List ℕ). Holds s rate zs) e h

-- the rate of a category is one of those in use
pub rate_of_lem : {p : Params} → Sound p → Rate p.rate
rate_of_lem sound = record { some = sound.rate; fits = sound.rate_fits; whole = sound.rate_whole }
