use mathlib.Core.Path.{◌≡◌, refl}
use Prim.Native.Nat.{◌+◌, ◌-◌}
use native.Mathlib.Omega.{arith}
use lib.ListN.{length}
use Rattle.records.specs.Sending.{normal_request, body_of}
use Rattle.records.proofs.Numbers.{length_part}
use Rattle.records.proofs.Sends.{Room, room_of}
use Rattle.records.proofs.Writes.{body_room, short, room_held, record_put_lem}
use borrow.Author.Rules.{rules}
use Rattle.records.proofs.sending.put_record.Goals as goal
use Rattle.records.proofs.sending.put_record.Goals.{Start}

-- the part is as long as the record
held : (c : Start) → Room c.args.request c.args.list.now (length c.args.out.now)
held c = room_of c.args.request c.args.list.now (length c.args.out.now) c.requires

size : (c : Start) → length c.args.out.now ≡ length (body_of 0 (normal_request c.args.request) c.args.list.now) + 4
size c = body_room _ _ _ (held c) 0

pub overflow_sub-length : goal.overflow_sub-length
overflow_sub-length c = let k = size (goal.at.overflow_sub-length c).Start in search rules

pub overflow_cast-length : goal.overflow_cast-length
overflow_cast-length c = let k = short _ _ _ (held (goal.at.overflow_cast-length c).Start) in search rules

pub put_length-requires : goal.put_length-requires
put_length-requires c = let k = size (goal.at.put_length-requires c).Start in search rules

pub slice_bounds-put_body-count : goal.slice_bounds-put_body-count
slice_bounds-put_body-count c = let k = size (goal.at.slice_bounds-put_body-count c).Start in search rules

pub slice_bounds-put_body-start : goal.slice_bounds-put_body-start
slice_bounds-put_body-start c = let k = size (goal.at.slice_bounds-put_body-start c).Start in search rules

pub put_body-requires : goal.put_body-requires
put_body-requires c = room_held _ _ _ (held (goal.at.put_body-requires c).Start) _ _ c.normal_request.ensures (length_part c.put_length.new.out 4 (length c.args.out.now - 4) (omega (arith, size (goal.at.put_body-requires c).Start, c.put_length.auto.out)))

pub returns : goal.returns
returns c = let a = c.args in record_put_lem a.sequence a.request _ a.list.now a.out.now _ _ _ _ c.requires c.kind_of.ensures c.normal_request.ensures refl c.put_length.ensures c.put_body.ensures
