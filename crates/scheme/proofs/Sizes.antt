-- Sizes of key and signature in bytes, at the numbers of each category.
-- Assumes nothing.
use mathlib.Core.Path.{◌≡◌, refl}
use Rattle.parameters.specs.Categories.{category1, category3, category5}
use Rattle.scheme.specs.Key.{key_size}
use Rattle.scheme.specs.Sign.{signature_size}

pub sizes_1 : (key_size category1 ≡ 77) × (signature_size category1 ≡ 19152)
sizes_1 = (refl, refl)

pub sizes_3 : (key_size category3 ≡ 115) × (signature_size category3 ≡ 42682)
sizes_3 = (refl, refl)

pub sizes_5 : (key_size category5 ≡ 153) × (signature_size category5 ≡ 76298)
sizes_5 = (refl, refl)
