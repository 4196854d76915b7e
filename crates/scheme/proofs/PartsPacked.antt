-- Fields that are packed by their owner, as a reader of the bytes finds them.
-- Assumes nothing.
use mathlib.Core.Path.{◌≡◌, ◌∙◌, ap}
use mathlib.Core.Bool.{true}
use mathlib.Core.List.{List}
use Prim.Native.Nat.{ℕ, ◌≤◌, ◌^◌}
use lib.ListN.{length}
use Rattle.packing.specs.Packing.{pack, unpack, size, all_below, spare_zero}
use Rattle.packing.proofs.Below.{Below, below_test, below_le}
use Rattle.packing.proofs.RoundTrip.{length_pack, unpack_pack_below, pack_spare}

-- n fields of width w, all below m: the size, the fields, and both tests of a reader
pub record Packed (w m n : ℕ) (xs : List ℕ) : Type 0 where
  pub long : length (pack w xs) ≡ size w n
  pub fields : unpack w n (pack w xs) ≡ xs
  pub ranged : all_below m xs ≡ true
  pub spare : spare_zero w n (pack w xs) ≡ true

pub packed : (w m n : ℕ) (xs : List ℕ) → m ≤ 2 ^ w → Below m xs → length xs ≡ n → Packed w m n xs
packed w m n xs fits below count =
    record {
      long = length_pack w xs ∙ ap (λ (k : ℕ). size w k) count;
      fields = rw (← count) (unpack_pack_below w (below_le fits below));
      ranged = below_test below;
      spare = rw (← count) (pack_spare w (below_le fits below));
    }
