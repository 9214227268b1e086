use Rattle.records.proofs.Numbers.{one_at}
use borrow.Author.Rules.{rules}
use Rattle.records.proofs.fields.u8_at.Goals as goal

pub returns : goal.returns
returns c = one_at c.args.s.now c.args.at (search rules)
