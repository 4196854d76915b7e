-- How large keys, replies, parts and signatures are at sound sizes. Assumes nothing.
use mathlib.Core.Bool.{Bool, true, false}
use Prim.Native.Nat.{ℕ, ◌+◌, ◌-◌, ◌*◌, ◌≤◌}
use lib.Dec.{eqb}
use native.Mathlib.Omega.{arith}
use Rattle.outcome.specs.Answer.{pick}
use Rattle.outcome.proofs.Numbers.{product_le}
use Rattle.packing.specs.Packing.{size}
use Rattle.parameters.specs.declared.Params.{Params}
use Rattle.parameters.specs.Sound.{Sound}
use Rattle.scheme.specs.Key.{key_size}
use Rattle.scheme.specs.Round.{reply_size}
use Rattle.scheme.specs.Sign.{part_size, signature_size}

-- fields of seven bits, and of three
seven_fits : (n : ℕ) → n ≤ 256 → size 7 n ≤ 224
seven_fits n h = omega arith

three_fits : (n : ℕ) → n ≤ 256 → size 3 n ≤ 96
three_fits n h = omega arith

module _ (p : Params) (sound : Sound p) where
  -- the reply to any second challenge
  pub reply_bounded : (b : ℕ) → reply_size p b ≤ 320
  reply_bounded b = at (eqb b 1)
    where
      at : (one : Bool) → pick one p.seed (size 7 p.n + size 3 p.n) ≤ 320
      at true = omega (arith, sound.seed_fits)
      at false = omega (arith, seven_fits p.n sound.n_fits, three_fits p.n sound.n_fits)

  -- the parts of the rounds whose second challenge is 1, and of those where it is 0
  pub ones_bounded : p.w * part_size p 1 ≤ 65536
  ones_bounded =
      product_le p.w (part_size p 1) 512 128
      (omega (arith, sound.w≤t, sound.t_fits))
      (omega (arith, sound.seed_fits, sound.digest_fits))

  pub zeros_bounded : (p.t - p.w) * part_size p 0 ≤ 196608
  zeros_bounded =
      product_le (p.t - p.w) (part_size p 0) 512 384
      (omega (arith, sound.t_fits))
      (omega (arith, seven_fits p.n sound.n_fits, three_fits p.n sound.n_fits, sound.digest_fits))

  pub signature_bounded : signature_size p ≤ 2000000
  signature_bounded = omega (arith, ones_bounded, zeros_bounded, sound.digest_fits)

  pub key_bounded : key_size p ≤ 288
  key_bounded = omega (arith, seven_fits (p.n - p.k) (omega (arith, sound.n_fits)), sound.digest_fits)
