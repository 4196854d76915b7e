-- "Numbers of the scheme": the sizes of each category.
-- Assumes nothing.
use Rattle.parameters.specs.declared.Params.{Params}

-- category 1
abbrev pub category1 : Params
category1 =
    record {
      n = 127;
      k = 76;
      t = 163;
      w = 85;
      digest = 32;
      seed = 16;
      rate = 168;
      matrix = 3500;
      exponents = 96;
      mask = 140;
      first = 196;
      second = 400;
    }

-- categories 3 and 5, with SHAKE256's rate
abbrev pub category3 : Params
category3 =
    record {
      n = 187;
      k = 111;
      t = 245;
      w = 127;
      digest = 48;
      seed = 24;
      rate = 136;
      matrix = 7616;
      exponents = 144;
      mask = 210;
      first = 280;
      second = 600;
    }

abbrev pub category5 : Params
category5 =
    record {
      n = 251;
      k = 150;
      t = 327;
      w = 169;
      digest = 64;
      seed = 32;
      rate = 136;
      matrix = 13664;
      exponents = 192;
      mask = 280;
      first = 350;
      second = 800;
    }
