-- `table::file::row_end` meets its contract: the row's text is made, and held against what stands there. Assumes nothing.
use mathlib.Core.Path.{◌∙◌, sym, ap}
use native.Mathlib.Omega.{arith}
use lib.Seq.{length-take-le}
use Rattle.std.specs.Bool.{then_some}
use Rattle.table.specs.InnerRows.{row_of}
use Rattle.table.proofs.PlaceLaws.{roomy, row_put, row_ends}
use Rattle.table.proofs.file.row_end.Goals as goal

pub append_row-end-requires : goal.append_row-end-requires
append_row-end-requires c = roomy (row_of c.args.row) (omega arith) (omega arith)

pub slice_bounds-text-end : goal.slice_bounds-text-end
slice_bounds-text-end c = (row_put (row_of c.args.row) (omega arith) (omega arith) c.append_row-end.ensures).1

pub slice_bounds-starts_with-end : goal.slice_bounds-starts_with-end
slice_bounds-starts_with-end c =
    let put = row_put (row_of c.args.row) (omega arith) (omega arith) c.append_row-end.ensures in
    sym (length-take-le c.append_row-end.result c.append_row-end.new.out put.1)

pub returns : goal.returns
returns c =
    let put = row_put (row_of c.args.row) (omega arith) (omega arith) c.append_row-end.ensures in
    c.then_some.ensures
    ∙ ap (λ b. then_some b c.append_row-end.result) c.starts_with.ensures.value
    ∙ row_ends (row_of c.args.row) c.args.rest.now put.2 put.0
