use Rattle.std.proofs.Common.{rules}
use mathlib.Core.Path.{◌≡◌, sym, ap, ◌∙◌}
use mathlib.Core.List.{map, ◌++◌}
use native.Mathlib.Omega.{arith}
use borrow.Author.Rules.{rules}
use lib.ListN.{length, drop}
use Rattle.lists.proofs.Loops.{length_of_mapped}
use Rattle.lists.specs.Places.{in_places}
use Rattle.state.specs.declared.ActiveLock.{ActiveLock}
use Rattle.state.specs.Locks.{blank_active, normal}
use Rattle.state.specs.Model.{model_of, state_of, full}
use Rattle.operations.specs.Trees.{is_listed}
use Rattle.operations.specs.Insert.{inserted_in}
use Rattle.operations.specs.Vehicle.{adopt, adopting, vehicle_in, judge_vehicle, insert_vehicle_with, insert_vehicle_on}
use Rattle.operations.specs.Code.{Ready, on_tested}
use Rattle.operations.proofs.Going.{placed_count}
use Rattle.operations.proofs.Inserting.{ready, active_placed, put_refused, put_allowed, put_done, put_undone}
use Rattle.operations.proofs.Adopting.{taken, adopting_ready, adopting_inserted, vehicle_allowed}
use Rattle.operations.proofs.insert_vehicle.insert_vehicle.Goals as goal
use Rattle.operations.proofs.insert_vehicle.insert_vehicle.Goals.{After-allowed-told, After-inserted, Then-is_ok}

ready_of : (c : Then-is_ok) → Ready c.args.s
ready_of c = ready c.args.s (search (rules, length_of_mapped)) (search (rules, length_of_mapped)) (put_allowed c.args.s _ (model_of c.args.s) _ c.allowed-told.ensures (sym c.is_ok.ensures.value ∙ c.if-is_ok.true)).0

allowed : (c : After-allowed-told) → c.allowed-told.result ≡ on_tested c.args.s (judge_vehicle full (model_of c.args.s) (normal c.args.lock) c.args.list.now)
allowed c = c.allowed-told.ensures ∙ ap (λ (w : ActiveLock). on_tested c.args.s (judge_vehicle full (model_of c.args.s) w c.args.list.now)) c.normal_form-new.ensures

-- the listed locks are children of the new one
children : (c : After-inserted) → c.taken_in.new.locks ++ drop c.args.s.actives c.args.s.active ≡ in_places 64 blank_active (map (adopt (is_listed c.args.list.now) c.normal_form-new.result) (model_of c.args.s).active)
children c = taken (adopt (is_listed c.args.list.now) _) c.args.s.active c.args.s.actives (active_placed c.args.s (ready_of (goal.at.After-inserted c).Then-is_ok).tidy) _ (c.taken_in.ensures (is_listed c.args.list.now) (λ a b m. search rules))

changed : (c : After-inserted) → c.inserted.new.s ≡ state_of (vehicle_in (model_of c.args.s) (normal c.args.lock) c.args.list.now)
unfolding vehicle_in
changed c =
    adopting_inserted (is_listed c.args.list.now) _ c.args.s (ready_of (goal.at.After-inserted c).Then-is_ok) _ (children c) _ c.inserted.ensures
    ∙ ap (λ (w : ActiveLock). state_of (inserted_in (adopting (is_listed c.args.list.now) w (model_of c.args.s)) w)) c.normal_form-new.ensures

pub slice_bounds-locks-end : goal.slice_bounds-locks-end
slice_bounds-locks-end c =
    let k = ready_of (goal.at.slice_bounds-locks-end c).Then-is_ok in
    let e : length c.args.s.active ≡ 64 = search (rules, length_of_mapped) in
    omega (arith, k.tidy.active)

pub slice_bounds-taken_in-end : goal.slice_bounds-taken_in-end
slice_bounds-taken_in-end c = sym (placed_count _ _ (active_placed c.args.s (ready_of (goal.at.slice_bounds-taken_in-end c).Then-is_ok).tidy))

pub inserted-requires : goal.inserted-requires
inserted-requires c =
    let s = c.args.s in
    let w = put_allowed s _ (model_of s) _ c.allowed-told.ensures (sym c.is_ok.ensures.value ∙ c.if-is_ok.true) in
    let k = ready_of (goal.at.inserted-requires c).Then-is_ok in
    let a = vehicle_allowed s k.tidy _ c.args.list.now w.1 in
    (adopting_ready (is_listed c.args.list.now) _ s k _ (taken (adopt (is_listed c.args.list.now) _) s.active s.actives (active_placed s k.tidy) _ (c.taken_in.ensures (is_listed c.args.list.now) (λ a b m. search rules))), a.0, a.1)

pub returns-then-is_ok-2 : goal.returns-then-is_ok-2
unfolding insert_vehicle_on insert_vehicle_with
returns-then-is_ok-2 c = put_done c.args.s _ _ _ (allowed (goal.at.returns-then-is_ok-2 c).After-allowed-told) (sym c.is_ok.ensures.value ∙ c.if-is_ok.true) _ (changed (goal.at.returns-then-is_ok-2 c).After-inserted) _ c.closed-told.ensures (sym c.is_ok-then-is_ok.ensures.value ∙ c.if-is_ok-2.true)

pub returns-else-is_ok-2 : goal.returns-else-is_ok-2
unfolding insert_vehicle_on insert_vehicle_with
returns-else-is_ok-2 c = put_undone c.args.s _ _ _ (allowed (goal.at.returns-else-is_ok-2 c).After-allowed-told) (sym c.is_ok.ensures.value ∙ c.if-is_ok.true) _ (changed (goal.at.returns-else-is_ok-2 c).After-inserted) _ c.closed-told.ensures (sym c.is_ok-then-is_ok.ensures.value ∙ c.if-is_ok-2.false)

pub returns-else-is_ok : goal.returns-else-is_ok
unfolding insert_vehicle_on insert_vehicle_with
returns-else-is_ok c = put_refused c.args.s _ _ _ (allowed (goal.at.returns-else-is_ok c).After-allowed-told) (sym c.is_ok.ensures.value ∙ c.if-is_ok.false)
