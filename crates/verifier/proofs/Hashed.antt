-- A digest from what a hash left in a buffer of a digest's size. Assumes nothing.
use mathlib.Core.Path.{◌≡◌, ◌∙◌, ap}
use mathlib.Core.List.{List}
use Prim.Native.Nat.{ℕ}
use Rattle.parameters.specs.declared.Params.{Params}
use Rattle.shake.specs.Shake.{shake}
use Rattle.scheme.specs.Strings.{digest, bytes_from}

pub hashed : (p : Params) {string string' out : List ℕ} {k : ℕ} → out ≡ shake p.rate string k → string ≡ string'
    → k ≡ p.digest → out ≡ digest p string'
unfolding digest bytes_from
hashed p {string} {string'} {out} {k} e s l =
    e ∙ ap (λ (m : List ℕ). shake p.rate m k) s ∙ ap (λ (n : ℕ). shake p.rate string' n) l
