use mathlib.Core.Path.{sym, ◌∙◌}
use Rattle.std.proofs.Common.{rules}
use Rattle.std.proofs.lemmas.Iterator.{YieldsList-from_slice}
use Rattle.std.proofs.lemmas.Iterator.Search.{position_from_yields_List}
use Rattle.ids.specs.Order.{same_id}
use Rattle.rules.proofs.rows.place.Goals as goal

pub returns-then-rising : goal.returns-then-rising
returns-then-rising g c = c.searched.ensures (sym c.rising.ensures ∙ c.if-rising.true)

pub returns : goal.returns
unfolding same_id
returns g c = position_from_yields_List _ _ _ _ c.position.ensures.ran (YieldsList-from_slice c.args.rows.now c.iter.ensures.rest) (λ x b q k. search rules)
