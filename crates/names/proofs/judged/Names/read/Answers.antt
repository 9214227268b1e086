use mathlib.Core.Path.{refl, ◌∙◌}
use Rattle.names.proofs.Bytes.{zeros_std}
use Rattle.names.proofs.Right.{other_size, over_count, entry_wrong, entries_short, past_used, if_once}
use Rattle.names.proofs.judged.Names.read.Goals as goal

-- the five tests in turn
pub returns-then-table-ne-SIZE : goal.returns-then-table-ne-SIZE
returns-then-table-ne-SIZE c = other_size _ _ c.if-table-ne-SIZE.true

pub returns-then-count-gt-MOST : goal.returns-then-count-gt-MOST
returns-then-count-gt-MOST c = over_count _ _ c.if-table-ne-SIZE.false _ c.count_of-count.ensures c.if-count-gt-MOST.true

pub returns-then-not-all_right : goal.returns-then-not-all_right
returns-then-not-all_right c = entry_wrong _ _ c.if-table-ne-SIZE.false _ c.count_of-count.ensures c.if-count-gt-MOST.false _ c.all_right.ensures c.if-not-all_right.true

pub returns-then-not-is_zero : goal.returns-then-not-is_zero
returns-then-not-is_zero c = past_used _ _ c.if-table-ne-SIZE.false _ c.count_of-count.ensures c.if-count-gt-MOST.false _ c.all_right.ensures c.if-not-all_right.false _ (c.is_zero.ensures ∙ zeros_std _) c.if-not-is_zero.true

pub invariant_of-names : goal.invariant_of-names
invariant_of-names c = record {
  sized = c.if-table-ne-SIZE.false;
  few = c.if-count-gt-MOST.false;
  short = entries_short _ _ c.if-table-ne-SIZE.false _ c.count_of-count.ensures c.if-count-gt-MOST.false _ c.all_right.ensures c.if-not-all_right.false;
}

pub returns-then-not-none_twice : goal.returns-then-not-none_twice
returns-then-not-none_twice c = if_once _ _ c.if-table-ne-SIZE.false _ c.count_of-count.ensures c.if-count-gt-MOST.false _ c.all_right.ensures c.if-not-all_right.false _ (c.is_zero.ensures ∙ zeros_std _) _ c.if-not-is_zero.false c.none_twice.ensures ∙ c.if-not-none_twice.true

pub returns : goal.returns
returns c = (if_once _ _ c.if-table-ne-SIZE.false _ c.count_of-count.ensures c.if-count-gt-MOST.false _ c.all_right.ensures c.if-not-all_right.false _ (c.is_zero.ensures ∙ zeros_std _) _ c.if-not-is_zero.false c.none_twice.ensures ∙ c.if-not-none_twice.false, refl, c.count_of-count.ensures)
