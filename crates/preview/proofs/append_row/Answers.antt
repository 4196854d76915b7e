-- `preview::append_row` meets its contract: the key, the serial and LF, one after the other. Assumes nothing.
use native.Mathlib.Omega.{arith}
use Rattle.decimal.proofs.Stores.{appended_length}
use Rattle.preview.proofs.RowLaws.{row_length, row_put}
use Rattle.preview.proofs.append_row.Goals as goal

pub append_key-serial-requires : goal.append_key-serial-requires
append_key-serial-requires c =
    record { room = omega (arith, c.requires.room, row_length c.args.p) }

pub write_decimal-end-requires : goal.write_decimal-end-requires
write_decimal-end-requires c =
    let key = c.append_key-serial.ensures in
    record { room = omega (arith, c.requires.room, row_length c.args.p, key.place, appended_length key) }

row : goal.returns
row c =
    row_put c.args.p c.append_key-serial.ensures c.write_decimal-end.ensures

pub bounds-out-end : goal.bounds-out-end
bounds-out-end c =
    let key = c.append_key-serial.ensures in
    let serial = c.write_decimal-end.ensures in
    let room = c.requires.room in
    omega (arith, room, row_length c.args.p, key.place, appended_length key, serial.place, appended_length serial)

pub overflow_add-result : goal.overflow_add-result
overflow_add-result c = omega (arith, c.requires.room, (row c).place)

pub shape_of-out : goal.shape_of-out
shape_of-out c = appended_length (row c)

pub returns : goal.returns
returns c = row c
