use Rattle.cablegorse.proofs.Asked.{lock_bad, lock_inserted, lock_over, lock_replacing}
use Rattle.cablegorse.proofs.sending.ask_lock.Goals as goal

pub returns-then-not-lock_right : goal.returns-then-not-lock_right
returns-then-not-lock_right c = lock_bad c.args.asked _ c.lock_right.ensures c.if-not-lock_right.true-raw _ c.bad.ensures

pub returns-then-asked-eq-INSERT : goal.returns-then-asked-eq-INSERT
returns-then-asked-eq-INSERT c = lock_inserted c.args.asked _ c.lock_right.ensures c.if-not-lock_right.false-raw _ c.lock_in-lock.ensures c.if-asked-eq-INSERT.true

pub returns-then-asked-eq-INSERT_VEHICLE : goal.returns-then-asked-eq-INSERT_VEHICLE
returns-then-asked-eq-INSERT_VEHICLE c = lock_over c.args.asked _ c.lock_right.ensures c.if-not-lock_right.false-raw _ c.lock_in-lock.ensures c.if-asked-eq-INSERT.false c.if-asked-eq-INSERT_VEHICLE.true

pub returns : goal.returns
returns c = lock_replacing c.args.asked _ c.lock_right.ensures c.if-not-lock_right.false-raw _ c.lock_in-lock.ensures c.if-asked-eq-INSERT.false c.if-asked-eq-INSERT_VEHICLE.false
