-- What a private seed leaves in lent scratch: both seeds, V and the key exponents.
-- Assumes nothing.
use Rattle.std.specs.Prelude.{◌≡◌, List, ℕ, take}
use Rattle.outcome.specs.Answer.{first_refusal}
use Rattle.parameters.specs.declared.Params.{Params}
use Rattle.scheme.specs.Key.{key_seeds, key_draws, key_exponents, public_seed, matrix, matrix_count}

pub record Material (p : Params) (private : List ℕ) (r : ℕ) (seeds vs es : List ℕ) : Type 0 where
  pub answer : r ≡ first_refusal (key_draws p private)
  pub seeds_held : seeds ≡ key_seeds p private
  pub matrix_held : r ≡ 0 → take (matrix_count p) vs ≡ matrix p (public_seed p private)
  pub exponents_held : r ≡ 0 → take p.n es ≡ key_exponents p private
