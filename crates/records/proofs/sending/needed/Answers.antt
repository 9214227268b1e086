use Rattle.records.proofs.Writes.{needed_plain, needed_odd, needed_long, needed_fits}
use Rattle.records.proofs.sending.needed.Goals as goal

pub returns-then-not-has_list : goal.returns-then-not-has_list
returns-then-not-has_list c = needed_plain c.args.request c.args.list.now _ c.has_list.ensures c.if-not-has_list.true-raw _ _ c.kind_of-kind.ensures c.length_with.ensures

pub returns-then-is_odd : goal.returns-then-is_odd
returns-then-is_odd c = needed_odd c.args.request c.args.list.now _ c.has_list.ensures c.if-not-has_list.false-raw _ c.is_odd.ensures c.if-is_odd.true

pub returns-then-count-gt-MOST_IDS : goal.returns-then-count-gt-MOST_IDS
returns-then-count-gt-MOST_IDS c = needed_long c.args.request c.args.list.now _ c.has_list.ensures c.if-not-has_list.false-raw _ c.is_odd.ensures c.if-is_odd.false c.if-count-gt-MOST_IDS.true

pub returns : goal.returns
returns c = needed_fits c.args.request c.args.list.now _ c.has_list.ensures c.if-not-has_list.false-raw _ c.is_odd.ensures c.if-is_odd.false c.if-count-gt-MOST_IDS.false _ _ c.kind_of-kind.ensures c.length_with-2.ensures
