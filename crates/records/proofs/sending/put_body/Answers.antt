use mathlib.Core.Path.{refl}
use lib.ListN.{length}
use Rattle.records.proofs.Writes.{held_room, held_few}
use Rattle.records.proofs.sending.put_body.Goals as goal

pub put_numbered-requires : goal.put_numbered-requires
put_numbered-requires c = held_room _ _ c.args.list.now _ c.in-Insert.is c.requires

pub put_numbered-requires-in-Renew : goal.put_numbered-requires-in-Renew
put_numbered-requires-in-Renew c = held_room _ _ c.args.list.now _ c.in-Renew.is c.requires

pub put_numbered-requires-in-Delete : goal.put_numbered-requires-in-Delete
put_numbered-requires-in-Delete c = held_room _ _ c.args.list.now _ c.in-Delete.is c.requires

pub put_numbered-requires-in-BeginExpiration : goal.put_numbered-requires-in-BeginExpiration
put_numbered-requires-in-BeginExpiration c = held_room _ _ c.args.list.now _ c.in-BeginExpiration.is c.requires

pub put_numbered-requires-in-Acknowledge : goal.put_numbered-requires-in-Acknowledge
put_numbered-requires-in-Acknowledge c = held_room _ _ c.args.list.now _ c.in-Acknowledge.is c.requires

pub put_numbered-requires-in-ExpireDefunct : goal.put_numbered-requires-in-ExpireDefunct
put_numbered-requires-in-ExpireDefunct c = held_room _ _ c.args.list.now _ c.in-ExpireDefunct.is c.requires

pub put_listed-requires : goal.put_listed-requires
put_listed-requires c = (held_few _ _ c.args.list.now (length c.args.out.now) c.in-InsertVehicle.is refl c.requires, held_room _ _ c.args.list.now _ c.in-InsertVehicle.is c.requires)

pub put_listed-requires-in-Replace : goal.put_listed-requires-in-Replace
put_listed-requires-in-Replace c = (held_few _ _ c.args.list.now (length c.args.out.now) c.in-Replace.is refl c.requires, held_room _ _ c.args.list.now _ c.in-Replace.is c.requires)

pub returns-in-Insert : goal.returns-in-Insert
returns-in-Insert c = rw c.in-Insert.is c.put_numbered.ensures

pub returns-in-InsertVehicle : goal.returns-in-InsertVehicle
returns-in-InsertVehicle c = rw c.in-InsertVehicle.is c.put_listed.ensures

pub returns-in-Replace : goal.returns-in-Replace
returns-in-Replace c = rw c.in-Replace.is c.put_listed-in-Replace.ensures
