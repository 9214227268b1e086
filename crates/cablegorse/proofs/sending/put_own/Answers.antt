use mathlib.Core.Bool.{◌||◌}
use lib.Dec.{ltb}
use lib.ListN.{length}
use Rattle.cablegorse.proofs.Own.{own_passed, own_short, room_last, own_put}
use Rattle.cablegorse.proofs.sending.put_own.Goals as goal

pub returns-then-not-is_applied : goal.returns-then-not-is_applied
returns-then-not-is_applied c = let a = c.args in own_passed a.s a.due.now a.next.now a.removed.now a.expired.now a.sent.now _ c.is_applied.ensures c.if-not-is_applied.true-raw _ _ _ _ c.put_step.ensures

pub returns-then-next-z : goal.returns-then-next-z
returns-then-next-z c = let a = c.args in own_short a.s a.due.now a.next.now a.removed.now a.expired.now a.sent.now _ c.is_applied.ensures c.if-not-is_applied.false-raw _ c.sizes_in-z.ensures c.if-next-z.true _ c.new-short.ensures _ c.still.ensures

pub copy-requires : goal.copy-requires
copy-requires c =
    let a = c.args in
    let z = c.sizes_in-z.result in
    room_last ((ltb (length a.next.now) z.image || ltb (length a.removed.now) z.locks) || ltb (length a.expired.now) z.ids) (length a.sent.now) (length a.due.now) c.if-next-z.false

pub returns : goal.returns
returns c = let a = c.args in own_put a.s a.due.now a.next.now a.removed.now a.expired.now a.sent.now _ c.is_applied.ensures c.if-not-is_applied.false-raw _ c.sizes_in-z.ensures c.if-next-z.false _ c.copy.ensures.written _ _ _ _ c.put_step-2.ensures
