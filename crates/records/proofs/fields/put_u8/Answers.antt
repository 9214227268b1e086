use Rattle.records.proofs.Numbers.{put_one}
use borrow.Author.Rules.{rules}
use Rattle.records.proofs.fields.put_u8.Goals as goal

pub returns : goal.returns
returns c = put_one c.args.out.now c.args.at c.args.v (search rules) c.ranges.v.fits
