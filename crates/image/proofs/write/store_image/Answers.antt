use Rattle.std.proofs.Common.{arith}
use Rattle.image.specs.Image.{active_list, defunct_list}
use Rattle.image.proofs.Writes.{length_one, active_plain, defunct_plain}
use Rattle.image.proofs.Stores.{no_room, image_stored}
use Rattle.image.proofs.write.store_image.Goals as goal

pub returns-then-out-second : goal.returns-then-out-second
returns-then-out-second c = no_room c.args.spare _ _ c.active_locks-actives.ensures c.defunct_locks-defuncts.ensures _ c.if-out-second.true

pub put_run-requires-clause-size : goal.put_run-requires-clause-size
put_run-requires-clause-size c = length_one active_list active_plain

pub put_run-requires-2-clause-size : goal.put_run-requires-2-clause-size
put_run-requires-2-clause-size c = length_one defunct_list defunct_plain

pub returns : goal.returns
returns c = image_stored c.args.spare _ _ c.active_locks-actives.ensures c.defunct_locks-defuncts.ensures _ c.if-out-second.false _ _ _ c.put_head.ensures c.put_run.ensures c.put_run-2.ensures
