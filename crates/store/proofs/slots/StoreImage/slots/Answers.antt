-- `store::slots::StoreImage::slots` meets its contract. Assumes nothing.
use mathlib.Core.Path.{◌≡◌, ◌∙◌, sym, ap}
use mathlib.Core.List.{List}
use Prim.Native.Nat.{ℕ, ◌/◌}
use native.Mathlib.Omega.{arith}
use lib.ListN.{length, take}
use lib.Seq.{length-take-le}
use Rattle.std.specs.Simd.{first_chunks}
use Rattle.image.specs.Image.{profile_size}
use Rattle.store.specs.Stored.{capacity, slots_size, store_size}
use Rattle.store.proofs.PlaceLaws.{parts_cut, parts_length}
use Rattle.store.proofs.slots.StoreImage.slots.Goals as goal

-- the slots end within the image
front : (image : List ℕ) → length image ≡ store_size → length (take slots_size image) ≡ slots_size
front image whole = length-take-le slots_size image (omega (arith, whole))

pub slice_bounds-as_chunks-end : goal.slice_bounds-as_chunks-end
slice_bounds-as_chunks-end c = sym (front c.args.self.now.bytes.now c.args.self.now.whole)

parts : goal.returns-clause-slots
parts c =
    let image = c.args.self.now.bytes.now in
    let few : length (take slots_size image) / profile_size ≡ capacity = ap (λ (n : ℕ). n / profile_size) (front image c.args.self.now.whole) in
    c.as_chunks.ensures.front
    ∙ ap (λ (n : ℕ). first_chunks profile_size n (take slots_size image)) few
    ∙ parts_cut capacity image

pub returns-clause-slots : goal.returns-clause-slots
returns-clause-slots c = parts c

pub returns-clause-len : goal.returns-clause-len
returns-clause-len c = ap length (parts c) ∙ parts_length capacity c.args.self.now.bytes.now
