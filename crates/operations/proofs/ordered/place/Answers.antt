use Rattle.std.proofs.Common.{◌≡◌, sym, ap, ◌∙◌, rules}
use Rattle.std.proofs.lemmas.Fn.{always_returns_same}
use Rattle.std.specs.List.Sorted.{IsPartitionPoint}
use Rattle.lists.specs.Lists.{ascending}
use mathlib.Core.Bool.{true, false}
use lib.Dec.{ltb}
use borrow.Author.Tests.{eqb-true, eqb-false}
use Rattle.ids.specs.Order.{key, same_id, before_id}
use Rattle.rules.proofs.Keys.{parted, halved_some, halved_none, halved_past}
use Rattle.operations.proofs.ordered.place.Goals as goal
use Rattle.operations.proofs.ordered.place.Goals.{After-partition_point-k}

-- the rows before k are below the id, and the others aren't
parts : (g : _) (c : After-partition_point-k g) → ascending g.T.Keyed.row_key c.args.rows.now ≡ true
    → IsPartitionPoint (λ x. ltb (g.T.Keyed.row_key x) (key c.args.id) ≡ true) (λ x. ltb (g.T.Keyed.row_key x) (key c.args.id) ≡ false) c.args.rows.now c.partition_point-k.result
unfolding before_id
parts g c s = c.partition_point-k.ensures.partitioned (λ x. ltb (g.T.Keyed.row_key x) (key c.args.id)) (always_returns_same _ _ _ (λ a r f' k. (search rules, search rules))) (parted g.T.Keyed.row_key (key c.args.id) c.args.rows.now s)

pub returns-then-same : goal.returns-then-same
unfolding same_id
returns-then-same g c = λ s.
    halved_some _ _ _ _ (parts g (goal.at.returns-then-same g c).After-partition_point-k s) _ c.if-k-rows.true
    (ap g.T.Keyed.row_key (sym c.index-rows-k.is) ∙ sym c.id.ensures ∙ eqb-true _ _ (sym c.same.ensures ∙ c.if-same.true))

pub returns-else-same : goal.returns-else-same
unfolding same_id
returns-else-same g c = λ s.
    halved_none _ _ _ _ (parts g (goal.at.returns-else-same g c).After-partition_point-k s) s _ c.if-k-rows.true
    (λ q. eqb-false _ _ (sym c.same.ensures ∙ c.if-same.false) (c.id.ensures ∙ ap g.T.Keyed.row_key c.index-rows-k.is ∙ q))

pub returns-else-k-rows : goal.returns-else-k-rows
returns-else-k-rows g c = λ s. halved_past _ _ _ _ (parts g (goal.at.returns-else-k-rows g c).After-partition_point-k s) c.if-k-rows.false
