-- The sizes of each category are sound. Assumes nothing.
use native.Mathlib.Omega.{arith}
use Rattle.parameters.specs.Categories.{category1, category3, category5}
use Rattle.parameters.specs.Sound.{Sound}

pub sound_1 : Sound category1
sound_1 = omega arith

pub sound_3 : Sound category3
sound_3 = omega arith

pub sound_5 : Sound category5
sound_5 = omega arith
