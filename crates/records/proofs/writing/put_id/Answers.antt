use Prim.Native.Nat.{◌+◌}
use lib.ListN.{length}
use native.Mathlib.Omega.{arith}
use Rattle.records.proofs.Storing.{room, no_room}
use Rattle.records.proofs.Runs.{id_not_stored, id_stored}
use Rattle.records.proofs.writing.put_id.Goals as goal

pub returns-then-not-has_room : goal.returns-then-not-has_room
returns-then-not-has_room c = id_not_stored c.args.out.now c.args.at c.args.id (no_room c.has_room.result (c.args.at + 16) (length c.args.out.now) c.has_room.ensures c.if-not-has_room.true-raw)

pub put_big64-requires : goal.put_big64-requires
put_big64-requires c = omega (arith, room c.has_room.result (c.args.at + 16) (length c.args.out.now) c.has_room.ensures c.if-not-has_room.false-raw)

pub overflow_add-at : goal.overflow_add-at
overflow_add-at c = omega (arith, c.well_formed, room c.has_room.result (c.args.at + 16) (length c.args.out.now) c.has_room.ensures c.if-not-has_room.false-raw, c.put_big64.auto)

pub put_big64-requires-2 : goal.put_big64-requires-2
put_big64-requires-2 c = omega (arith, c.well_formed, room c.has_room.result (c.args.at + 16) (length c.args.out.now) c.has_room.ensures c.if-not-has_room.false-raw, c.put_big64.auto)

pub returns : goal.returns
returns c = rw (c.put_big64-2.ensures, c.put_big64.ensures) (id_stored c.args.out.now c.args.at c.args.id (room c.has_room.result (c.args.at + 16) (length c.args.out.now) c.has_room.ensures c.if-not-has_room.false-raw))
