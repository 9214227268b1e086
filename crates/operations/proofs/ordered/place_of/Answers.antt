use mathlib.Core.Path.{◌≡◌, ap, ◌∙◌}
use Prim.Native.Nat.{ℕ}
use lib.ListN.{length}
use Rattle.std.specs.Prelude.{Option}
use Rattle.std.specs.Option.{unwrap_or}
use lib.Dec.{ltb}
use Rattle.std.specs.List.{position}
use Rattle.std.proofs.Common.{rules}
use Rattle.std.proofs.lemmas.Iterator.{YieldsList-from_slice}
use Rattle.std.proofs.lemmas.Iterator.Search.{position_from_yields_List}
use Rattle.operations.proofs.Putting.{place_or_end}
use Rattle.ids.specs.Order.{key, before_id}
use Rattle.operations.proofs.ordered.place_of.Goals as goal

pub returns-clause-first : goal.returns-clause-first
unfolding before_id
returns-clause-first g c =
    let e : c.position.result ≡ position (λ y. ltb (key c.args.id) (g.T.Keyed.row_key y)) c.args.items.now = position_from_yields_List _ _ _ _ c.position.ensures.ran (YieldsList-from_slice c.args.items.now c.iter.ensures.rest) (λ x b q k. search rules) in
    c.unwrap_or.ensures ∙ ap (λ (o : Option ℕ). unwrap_or o (length c.args.items.now)) e ∙ place_or_end _ c.args.items.now
