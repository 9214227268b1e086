use Rattle.std.proofs.Common.{arith, below_more}
use Rattle.names.proofs.Entries.{entry_long, wrong_entry, right_entry_lem, right_entries}
use Rattle.names.proofs.judged.all_right.Goals as goal

pub is_right-requires : goal.is_right-requires
is_right-requires c = entry_long _ _ c.loop-i.i c.requires.0 (omega arith) c.entry_of.ensures

pub returns-then-not-is_right : goal.returns-then-not-is_right
returns-then-not-is_right c = wrong_entry _ _ _ c.loop-i.i _ _ c.loop-i-test.true c.entry_of.ensures c.is_right.ensures c.if-not-is_right.true

pub loop-i-preserved : goal.loop-i-preserved
loop-i-preserved c = below_more _ _ c.loop-i.invariant (right_entry_lem _ _ _ _ _ c.entry_of.ensures c.is_right.ensures c.if-not-is_right.false)

pub returns : goal.returns
returns c = right_entries _ _ _ c.loop-i.i c.loop-i-test.false c.loop-i.invariant
