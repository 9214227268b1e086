use mathlib.Core.Path.{sym, ◌∙◌, ap}
use mathlib.Core.List.{[]}
use native.Mathlib.Omega.{arith}
use Rattle.std.specs.Prelude.{Err}
use Rattle.rules.specs.Code.{lists, lowest_parent, active_rules}
use Rattle.rules.proofs.Lowest.{told_stop, told_none}
use Rattle.rules.proofs.Family.{low_two, low_unfit, low_eight, low_none, parent_named}
use Rattle.rules.proofs.actives.lowest.Goals as goal

pub returns-then-not-one_each : goal.returns-then-not-one_each
returns-then-not-one_each c =
    let m = lists c.args.active.now [] in
    told_stop 2 (active_rules m) 2 (low_two m c.requires (sym c.one_each.ensures ∙ c.if-not-one_each.true)) (λ e. omega arith)

pub returns-then-not-fit : goal.returns-then-not-fit
returns-then-not-fit c =
    let m = lists c.args.active.now [] in
    ap Err c.lowest.ensures
    ∙ told_stop 2 (active_rules m) (lowest_parent c.args.active.now c.vehicle-vehicle.result)
    (low_unfit m c.requires (sym c.one_each.ensures ∙ c.if-not-one_each.false) c.vehicle-vehicle.result (sym c.vehicle-vehicle.ensures) (sym c.fit.ensures ∙ c.if-not-fit.true))
    (parent_named c.args.active.now c.vehicle-vehicle.result)

pub returns-then-not-friends : goal.returns-then-not-friends
returns-then-not-friends c =
    let m = lists c.args.active.now [] in
    told_stop 2 (active_rules m) 8
    (low_eight m c.requires (sym c.one_each.ensures ∙ c.if-not-one_each.false) c.vehicle-vehicle.result (sym c.vehicle-vehicle.ensures) (sym c.fit.ensures ∙ c.if-not-fit.false) (sym c.friends.ensures ∙ c.if-not-friends.true)) (λ e. omega arith)

pub returns : goal.returns
returns c =
    let m = lists c.args.active.now [] in
    told_none 2 (active_rules m) (omega arith)
    (low_none m c.requires (sym c.one_each.ensures ∙ c.if-not-one_each.false) c.vehicle-vehicle.result (sym c.vehicle-vehicle.ensures) (sym c.fit.ensures ∙ c.if-not-fit.false) (sym c.friends.ensures ∙ c.if-not-friends.false))
