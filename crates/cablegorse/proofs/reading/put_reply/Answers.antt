use Rattle.cablegorse.proofs.Buffers.{too_short, put_whole}
use Rattle.cablegorse.specs.Replies.{bytes_of_body, put_of}
use Rattle.cablegorse.proofs.reading.put_reply.Goals as goal

pub returns-then-out-needed : goal.returns-then-out-needed
unfolding put_of
returns-then-out-needed c = too_short c.args.r.told (bytes_of_body c.args.r.body) _ _ c.size_of-needed.ensures c.if-out-needed.true _ c.new.ensures

pub returns : goal.returns
unfolding put_of
returns c = put_whole c.args.r.told (bytes_of_body c.args.r.body) _ _ c.size_of-needed.ensures c.if-out-needed.false _ c.put_body.ensures
