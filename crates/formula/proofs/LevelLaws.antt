-- The two levels of a formula, products of atoms and sums of products, as operators with items between them.
-- Assumes nothing.
use mathlib.Core.Path.{◌≡◌, refl}
use mathlib.Core.List.{List}
use Prim.Native.Nat.{ℕ}
use lib.IntN.{ℤ}
use lib.ListN.{drop}
use Rattle.std.specs.Prelude.{Some, None}
use Rattle.outcome.specs.Result.{Result}
use Rattle.formula.specs.Grammar.{
  Sum,
  only,
  Product,
  single,
  Atom,
  is_additive,
  is_multiplicative,
  additive,
  multiplicative,
  summed,
  scaled,
  sum_value,
  product_value,
  atom_value,
}
use Rattle.formula.specs.Reader.{scale_by, add_by, product_with, sum_with, read_atom, read_product, read_sum}
use Rattle.formula.specs.InnerReader.{AtomAt, ProductAt, SumAt}
use Rattle.formula.proofs.ReaderLaws.{SoFar, started, unstarted}

module _ (volts pairs : ℕ) (s : List ℕ) (at : ℕ) where
  -- ---- products of atoms

  pub scales : (p : Product) (b : ℕ) (a : Atom)
      → product_value (scale_by p b a) volts ≡ scaled (multiplicative b) (product_value p volts) (atom_value a volts)
  unfolding product_value
  scales p b a = refl

  abbrev pub ProductSoFar : Result ℤ → ℕ → Type 0
  ProductSoFar =
      SoFar is_multiplicative multiplicative scale_by (read_atom pairs) (λ p. product_value p volts)
      (λ a. atom_value a volts) scaled scales s (read_product pairs (drop at s))

  pub product_started : {w : Result ℤ} {end : ℕ} → AtomAt volts pairs s at (Some (w, end)) → ProductSoFar w end
  unfolding product_with product_value
  product_started part =
      started is_multiplicative multiplicative scale_by (read_atom pairs) (λ p. product_value p volts) (λ a. atom_value a volts)
      scaled scales single (λ a. refl) s (drop at s) at part

  pub product_unstarted : AtomAt volts pairs s at None → ProductAt volts pairs s at None
  unfolding product_with
  product_unstarted part =
      record {
        read =
            unstarted is_multiplicative multiplicative scale_by (read_atom pairs) (λ p. product_value p volts) (λ a. atom_value a volts)
            scaled scales single s (drop at s) at part;
        ends = tt;
      }

  -- ---- sums of products

  pub adds : (x : Sum) (b : ℕ) (p : Product)
      → sum_value (add_by x b p) volts ≡ summed (additive b) (sum_value x volts) (product_value p volts)
  unfolding sum_value
  adds x b p = refl

  abbrev pub SumSoFar : Result ℤ → ℕ → Type 0
  SumSoFar =
      SoFar is_additive additive add_by (read_product pairs) (λ x. sum_value x volts) (λ p. product_value p volts)
      summed adds s (read_sum pairs (drop at s))

  pub sum_started : {w : Result ℤ} {end : ℕ} → ProductAt volts pairs s at (Some (w, end)) → SumSoFar w end
  unfolding sum_with sum_value
  sum_started part =
      started is_additive additive add_by (read_product pairs) (λ x. sum_value x volts) (λ p. product_value p volts)
      summed adds only (λ p. refl) s (drop at s) at part

  pub sum_unstarted : ProductAt volts pairs s at None → SumAt volts pairs s at None
  unfolding sum_with
  sum_unstarted part =
      record {
        read =
            unstarted is_additive additive add_by (read_product pairs) (λ x. sum_value x volts) (λ p. product_value p volts)
            summed adds only s (drop at s) at part;
        ends = tt;
      }
