-- What the sizes of a category must satisfy: code is used at such sizes alone. The limits are those of the local
-- arrays; every category is well below them.
-- Assumes nothing.
use Rattle.std.specs.Prelude.{◌≡◌, ◌≤◌, ◌<◌, ◌%◌}
use Rattle.parameters.specs.declared.Params.{Params}

pub record Sound (p : Params) : Type 0 where
  pub k≤n : p.k ≤ p.n
  pub w≤t : p.w ≤ p.t
  pub some : 0 < p.t
  -- SHAKE's block is some whole lanes of the state
  pub rate : 0 < p.rate
  pub rate_fits : p.rate < 200
  pub rate_whole : p.rate % 8 ≡ 0
  pub n_fits : p.n ≤ 256
  pub t_fits : p.t ≤ 512
  pub digest_fits : p.digest ≤ 64
  pub seed_fits : p.seed ≤ 64
  pub matrix_fits : p.matrix ≤ 16384
  pub exponents_fits : p.exponents ≤ 256
  pub mask_fits : p.mask ≤ 320
  pub first_fits : p.first ≤ 384
  pub second_fits : p.second ≤ 1024
