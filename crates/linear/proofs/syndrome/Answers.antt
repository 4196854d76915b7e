-- `syndrome`: the covered places with zeros after them, then all rows. Assumes nothing.
use mathlib.Core.Path.{◌≡◌, ◌∙◌, ap}
use native.Mathlib.Omega.{arith}
use lib.ListN.{length}
use lib.Seq.{length-take-le}
use Rattle.packing.proofs.Below.{Below, below, below_take}
use Rattle.linear.specs.Linear.{rows_times, syndrome}
use Rattle.linear.proofs.Kept.{kept_below}
use Rattle.linear.proofs.Rows.{covered_below, covered_zeros, covered_front, rest_taken}
use Rattle.linear.proofs.Spelled.{spells}
use Rattle.linear.proofs.syndrome.Goals as goal

pub rows_times-requires-clause-t : goal.rows_times-requires-clause-t
rows_times-requires-clause-t c =
    let copied = c.copy_from_slice.ensures.after in
    let size : length c.copy_from_slice.new.self ≡ c.args.k = ap length copied ∙ length-take-le c.args.k c.args.x.now (omega arith) in
    let values : Below 127 c.copy_from_slice.new.self = rw copied (below_take c.args.k (below 127 _ c.requires.4)) in (
      c.requires.3,
      kept_below 127 _ (covered_below c.args.k _ size (omega arith) values),
      kept_below 1 _ (covered_zeros c.args.k _ size (omega arith)),
    )

pub returns : goal.returns
unfolding syndrome
returns c =
    let a = c.args in
    let copied = c.copy_from_slice.ensures.after in
    let size : length c.copy_from_slice.new.self ≡ a.k = ap length copied ∙ length-take-le a.k a.x.now (omega arith) in
    let front = covered_front a.k c.copy_from_slice.new.self size (omega arith) ∙ copied in
    spells (λ i. rows_times a.k a.vs.now (front i) (rest_taken a.k a.x.now i)) c.rows_times.ensures
