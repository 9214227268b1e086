use Rattle.records.proofs.Numbers.{splice_over}
use Rattle.records.proofs.fields.put.Goals as goal

pub returns : goal.returns
returns c = rw c.copy_from_slice.ensures.after (splice_over c.args.out.now c.args.at c.args.bytes.now)
