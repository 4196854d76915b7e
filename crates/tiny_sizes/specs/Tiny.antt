-- Sizes of no category: small, with blocks so tight that every draw is often short.
-- Assumes nothing.
use Rattle.parameters.specs.declared.Params.{Params}

abbrev pub tiny : Params
tiny =
    record {
      n = 4;
      k = 2;
      t = 5;
      w = 3;
      digest = 3;
      seed = 2;
      rate = 168;
      matrix = 4;
      exponents = 2;
      mask = 4;
      first = 5;
      second = 8;
    }

-- the same with SHAKE256's rate
abbrev pub tiny_shake256 : Params
tiny_shake256 =
    record {
      n = 4;
      k = 2;
      t = 5;
      w = 3;
      digest = 3;
      seed = 2;
      rate = 136;
      matrix = 4;
      exponents = 2;
      mask = 4;
      first = 5;
      second = 8;
    }
