-- `packing::pack_refusal` meets its contract: each test decides as the list of checks says. Assumes nothing.
use mathlib.Core.Path.{◌∙◌, sym}
use Prim.Native.Nat.{◌-◌, ◌^◌, ◌<◌, ◌≤◌}
use native.Mathlib.Omega.{arith}
use borrow.Author.Tests.{lt-ltb, le-ltb}
use Rattle.packing.proofs.Refusals.{pack_bad_size, pack_bad_field, pack_passes}
use Rattle.packing.proofs.pack_refusal.Goals as goal

pub returns-then-bytes-packed_size : goal.returns-then-bytes-packed_size
returns-then-bytes-packed_size g c =
    let a = c.args in
    pack_bad_size g.row.W (2 ^ g.row.W - 1) a.xs.now a.bytes (λ e. c.if-bytes-packed_size.true (e ∙ sym c.packed_size.ensures))

pub returns-then-pow2-see_fields : goal.returns-then-pow2-see_fields
returns-then-pow2-see_fields g c =
    let a = c.args in
    let seen = c.see_fields.result in
    let reached : 2 ^ g.row.W ≤ seen = omega (arith, c.pow2.ensures, c.if-pow2-see_fields.true) in
    pack_bad_field g.row.W (2 ^ g.row.W - 1) a.xs.now a.bytes (c.if-bytes-packed_size.false ∙ c.packed_size.ensures)
    (sym (c.see_fields.ensures.1 g.row.W c.requires.0) ∙ le-ltb seen (2 ^ g.row.W) reached)

pub returns : goal.returns
returns g c =
    let a = c.args in
    let seen = c.see_fields.result in
    let under : seen < 2 ^ g.row.W = omega (arith, c.pow2.ensures, c.if-pow2-see_fields.false) in
    pack_passes g.row.W (2 ^ g.row.W - 1) a.xs.now a.bytes (c.if-bytes-packed_size.false ∙ c.packed_size.ensures)
    (sym (c.see_fields.ensures.1 g.row.W c.requires.0) ∙ lt-ltb seen (2 ^ g.row.W) under)
