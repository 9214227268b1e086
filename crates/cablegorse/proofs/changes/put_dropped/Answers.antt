use Rattle.cablegorse.proofs.Outputs.{not_gone, next_short, next_put}
use Rattle.cablegorse.proofs.changes.put_dropped.Goals as goal

pub returns-then-not-is_gone : goal.returns-then-not-is_gone
returns-then-not-is_gone c = let a = c.args in not_gone a.expected a.d _ _ c.from-t.ensures _ c.is_gone.ensures c.if-not-is_gone.true-raw _ c.still.ensures

pub returns-then-next-size : goal.returns-then-next-size
returns-then-next-size c = let a = c.args in next_short a.expected a.d _ _ c.from-t.ensures _ c.is_gone.ensures c.if-not-is_gone.false-raw _ c.image_size-size.ensures c.if-next-size.true _ c.new-short.ensures _ c.still-then-next-size.ensures

pub returns : goal.returns
returns c = let a = c.args in next_put a.expected a.d _ _ c.from-t.ensures _ c.is_gone.ensures c.if-not-is_gone.false-raw _ c.image_size-size.ensures c.if-next-size.false _ c.store_image.ensures _ c.applied.ensures
