-- `sample::keep_one`: what is stored counts exactly where the field is kept. Assumes nothing.
use borrow.Author.Rules.{rules}
use Rattle.sampling.proofs.Kept.{stored_kept, stored_dropped}
use Rattle.sampling.proofs.sample.keep_one.Goals as goal

pub returns-then-x-m : goal.returns-then-x-m
returns-then-x-m c =
    let a = c.args in
    (search rules, stored_kept a.m a.d a.x a.got a.scratch.now c.if-x-m.true c.requires.0)

pub returns : goal.returns
returns c =
    let a = c.args in
    (search rules, stored_dropped a.m a.d a.x a.got a.scratch.now c.if-x-m.false c.requires.0)
