-- `from_values`: the fields are read, then both digests made. Assumes nothing.
use Prim.Native.Nat.{◌-◌}
use native.Mathlib.Omega.{arith}
use lib.ListN.{replicate}
use lib.Seq.{length-take-le}
use Rattle.packing.proofs.Below.{bytes_below}
use Rattle.linear.proofs.Ranges.{below_less_times}
use Rattle.verifier.proofs.Exits.{exit}
use Rattle.verifier.proofs.Fields.{read_vector}
use Rattle.verifier.proofs.Parts.{written}
use Rattle.verifier.proofs.Values.{cut, values_read, exponents_read, values_refuse, exponents_refuse, values_made}
use Rattle.verifier.proofs.Vectors.{made, length_less}
use Rattle.verifier.proofs.reply.from_values.Goals as goal

pub returns-in_err-unpack : goal.returns-in_err-unpack
returns-in_err-unpack c =
    let a = c.args in
    let parts = cut a.key.category c.requires c.packed_size.ensures c.split_at.ensures.front c.split_at.ensures.back in
    rw (exit c.from_residual.result c.from_residual.ensures.1)
    (values_refuse parts a.key.vs.now a.key.s.now a.round.beta a.salt.now a.round.i
    c.in_err-unpack.field-0.0 c.in_err-unpack.ensures)

pub returns-in_err-unpack-2 : goal.returns-in_err-unpack-2
returns-in_err-unpack-2 c =
    let a = c.args in
    let parts = cut a.key.category c.requires c.packed_size.ensures c.split_at.ensures.front c.split_at.ensures.back in
    rw (exit c.from_residual-in_err-unpack-2.result c.from_residual-in_err-unpack-2.ensures.1)
    (exponents_refuse parts a.key.vs.now a.key.s.now a.round.beta a.salt.now a.round.i
    c.in_err-unpack-2.field-0.0 c.in_ok-unpack.ensures c.in_err-unpack-2.ensures)

pub reply_syndrome-requires : goal.reply_syndrome-requires
reply_syndrome-requires c =
    let p = c.args.key.category in
    let parts = cut p c.requires c.packed_size.ensures c.split_at.ensures.front c.split_at.ensures.back in (
      read_vector 3 7 p.sizes.n (exponents_read parts c.in_ok-unpack-2.ensures c.unpack-2.auto.fields),
      read_vector 7 127 p.sizes.n (values_read parts c.in_ok-unpack.ensures c.unpack.auto.fields),
      length-take-le (p.sizes.n - p.sizes.k) (replicate 256 0) (omega (arith, p.sound.n_fits)),
    )

pub from_fields-requires : goal.from_fields-requires
from_fields-requires c =
    let a = c.args in
    let p = a.key.category in
    let m = p.sizes.n - p.sizes.k in
    let parts = cut p c.requires c.packed_size.ensures c.split_at.ensures.front c.split_at.ensures.back in
    let es = exponents_read parts c.in_ok-unpack-2.ensures c.unpack-2.auto.fields in
    let ys = values_read parts c.in_ok-unpack.ensures c.unpack.auto.fields in
    made 127 m
    (written m (replicate 256 0) (omega (arith, p.sound.n_fits)) c.reply_syndrome.auto.out c.reply_syndrome.ensures)
    (length_less a.round.beta p.sizes.n p.sizes.k a.key.vs.now a.key.s.now _ _
    (read_vector 3 7 p.sizes.n es).long (read_vector 7 127 p.sizes.n ys).long a.key.syndrome.long)
    (below_less_times a.round.beta _ _)

pub returns : goal.returns
returns c =
    let a = c.args in
    let p = a.key.category in
    let parts = cut p c.requires c.packed_size.ensures c.split_at.ensures.front c.split_at.ensures.back in
    values_made parts a.key.vs.now a.key.s.now a.round.beta a.salt.now a.round.i (bytes_below a.reply.now c.type_inv.reply)
    (values_read parts c.in_ok-unpack.ensures c.unpack.auto.fields)
    (exponents_read parts c.in_ok-unpack-2.ensures c.unpack-2.auto.fields)
    (written (p.sizes.n - p.sizes.k) (replicate 256 0) (omega (arith, p.sound.n_fits)) c.reply_syndrome.auto.out
    c.reply_syndrome.ensures)
    c.from_fields.ensures
