-- `seal`: the signature at the front, then the line behind it. Assumes nothing.
use mathlib.Core.Path.{refl}
use Rattle.package.proofs.MakeLaws.{seal_done}
use Rattle.package.proofs.make.seal.Goals as goal

pub returns-clause-package : goal.returns-clause-package
returns-clause-package c =
    let a = c.args in
    let p = a.scratch.now.category in
    let size = c.signature_size-size in
    λ before.
    seal_done p.sizes a.private.now a.master.now a.salt.now a.line.now a.out.now size.result size.ensures c.requires 0
    c.sign.new.sig c.in_ok-sign.ensures.signature p.sound refl before c.copy.new.to c.copy.ensures
