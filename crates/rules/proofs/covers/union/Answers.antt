use lib.Bits.{bit_or}
use Rattle.lists.proofs.Tests.{or_code}
use Rattle.rules.proofs.covers.union.Goals as goal

pub returns : goal.returns
returns c = λ i. record { w0 = bit_or c.args.a.w0 c.args.b.w0; w1 = bit_or c.args.a.w1 c.args.b.w1; w2 = bit_or c.args.a.w2 c.args.b.w2; w3 = bit_or c.args.a.w3 c.args.b.w3; whole = or_code c.args.a.whole c.args.b.whole i }
