-- `preview::append_key` meets its contract: the letters, the hertz and a comma, one after the other. Assumes nothing.
use mathlib.Core.Path.{refl}
use mathlib.Core.List.{List, ◌++◌}
use Prim.Native.Nat.{ℕ, ◌+◌, ◌-◌}
use native.Mathlib.Omega.{arith}
use lib.ListN.{take, drop}
use Rattle.decimal.specs.Decimal.{Appended}
use Rattle.decimal.proofs.Stores.{appended_length, put_part}
use Rattle.preview.proofs.RowLaws.{letters, key_length, key_put}
use Rattle.preview.proofs.append_key.Goals.{After-write_decimal-arg-1}
use Rattle.preview.proofs.append_key.Goals as goal

pub overflow_add-hertz : goal.overflow_add-hertz
overflow_add-hertz c = omega (arith, key_length c.args.p, c.requires.room)

pub slice_bounds-copy_from_slice-end : goal.slice_bounds-copy_from_slice-end
slice_bounds-copy_from_slice-end c = omega (arith, key_length c.args.p, c.requires.room)

-- the bytes after the letters are copied
abbrev lettered : After-write_decimal-arg-1 → List ℕ
lettered c =
    let at = c.args.at in
    let out = c.args.out.now in
    take at out ++ (c.copy_from_slice.new.self ++ drop (at + 5 - at) (drop at out))

letters-put : (c : After-write_decimal-arg-1) →
    let a = c.args in
    Appended a.out.now a.at (letters a.p) (lettered c) (a.at + 5)
letters-put c =
    put_part c.args.out.now c.copy_from_slice.new.self (letters c.args.p) c.args.at
    (c.args.at + 5)
    c.copy_from_slice.ensures.after refl (omega (arith, key_length c.args.p, c.requires.room))

pub write_decimal-end-requires : goal.write_decimal-end-requires
write_decimal-end-requires c =
    record { room = omega (arith, key_length c.args.p, c.requires.room, appended_length (letters-put c)) }

key : goal.returns
key c =
    key_put c.args.p (letters-put (goal.at.returns c).After-write_decimal-arg-1) c.write_decimal-end.ensures

pub bounds-out-end : goal.bounds-out-end
bounds-out-end c =
    let hertz = c.write_decimal-end.ensures in
    omega (
      arith,
      key_length c.args.p,
      c.requires.room,
      hertz.place,
      appended_length hertz,
      appended_length
          (letters-put (goal.at.bounds-out-end c).After-write_decimal-arg-1),
    )

pub overflow_add-result : goal.overflow_add-result
overflow_add-result c =
    omega (arith, key_length c.args.p, c.requires.room, c.write_decimal-end.ensures.place)

pub shape_of-out : goal.shape_of-out
shape_of-out c = appended_length (key c)

pub returns : goal.returns
returns c = key c
