use Rattle.names.proofs.Entries.{fewer_short}
use Rattle.std.proofs.Common.{arith}
use Rattle.names.proofs.judged.Names.before.Goals as goal

pub invariant_of-result : goal.invariant_of-result
invariant_of-result c = let s = c.args.self.now in record { sized = s.sized; few = omega arith; short = fewer_short _ _ _ c.requires s.short }
