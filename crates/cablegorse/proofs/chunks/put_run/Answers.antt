use Rattle.cablegorse.proofs.Outputs.{run_short, run_put_lem}
use Rattle.cablegorse.proofs.chunks.put_run.Goals as goal

pub returns-then-next-size : goal.returns-then-next-size
returns-then-next-size c = run_short c.args.run _ _ c.image_size-size.ensures c.if-next-size.true _ c.new.ensures _ c.followed.ensures

pub returns : goal.returns
returns c = run_put_lem c.args.run _ _ c.image_size-size.ensures c.if-next-size.false _ c.store_image.ensures _ c.stop_told.ensures _ c.stop_part.ensures _ c.followed-2.ensures
