-- The numbers of each draw of the scheme, for the sizes of a category ("Draws").
-- Assumes nothing.
use Rattle.std.proofs.Common.{lit<, lit≤}
use Rattle.parameters.specs.declared.Params.{Params}
use Rattle.sampling.specs.declared.Draw.{Draw}
use Rattle.scheme.specs.Key.{matrix_count}

module _ (p : Params) where
  -- V
  abbrev pub matrix_draw : Draw
  matrix_draw = record {
    width = 7;
    limit = 127;
    added = 0;
    count = matrix_count p;
    bytes = p.matrix;
    some = lit< tt;
    narrow = lit≤ tt;
    fits = lit≤ tt;
  }

  -- the key exponents, and e' of a round
  abbrev pub exponents_draw : Draw
  exponents_draw = record {
    width = 3;
    limit = 7;
    added = 0;
    count = p.n;
    bytes = p.exponents;
    some = lit< tt;
    narrow = lit≤ tt;
    fits = lit≤ tt;
  }

  -- u' of a round
  abbrev pub mask_draw : Draw
  mask_draw = record {
    width = 7;
    limit = 127;
    added = 0;
    count = p.n;
    bytes = p.mask;
    some = lit< tt;
    narrow = lit≤ tt;
    fits = lit≤ tt;
  }

  -- the first challenges, which are not 0
  abbrev pub first_draw : Draw
  first_draw = record {
    width = 7;
    limit = 126;
    added = 1;
    count = p.t;
    bytes = p.first;
    some = lit< tt;
    narrow = lit≤ tt;
    fits = lit≤ tt;
  }
