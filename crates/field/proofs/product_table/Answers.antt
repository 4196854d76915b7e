-- `product_table`: the constant passes the test, at all 889 entries. Assumes nothing.
use mathlib.Core.Path.{refl}
use Rattle.field.proofs.Products.{products}
use Rattle.field.proofs.product_table.Goals as goal

pub returns : goal.returns
returns c = products _ refl tt
