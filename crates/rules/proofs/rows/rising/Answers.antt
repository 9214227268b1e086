use Rattle.std.proofs.Common.{rules, refl}
use Rattle.std.proofs.lemmas.Fn.{always_returns_same}
use lib.Dec.{ltb}
use Rattle.ids.specs.Order.{before_id}
use Rattle.rules.proofs.Keys.{rising_law}
use Rattle.rules.proofs.rows.rising.Goals as goal

pub returns : goal.returns
unfolding before_id
returns g c = rising_law g.T.Keyed.row_key c.args.rows.now c.is_sorted_by.result (c.is_sorted_by.ensures.cases (λ x y. ltb (g.T.Keyed.row_key x) (g.T.Keyed.row_key y)) (always_returns_same _ _ _ (λ a r f' k. (search rules, refl))))
