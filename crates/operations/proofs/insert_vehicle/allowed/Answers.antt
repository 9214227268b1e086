use mathlib.Core.Path.{◌≡◌, sym, ap, ◌∙◌}
use native.Mathlib.Omega.{arith}
use lib.ListN.{length, length-take}
use Rattle.state.specs.Model.{model_of}
use Rattle.lookups.proofs.Verdicts.{on_sound_lem, actives_fit, defuncts_fit}
use Rattle.operations.specs.Vehicle.{judge_vehicle}
use Rattle.operations.specs.Code.{check_named}
use Rattle.operations.proofs.Adopting.{room_vehicle}
use Rattle.operations.proofs.Chains.{stop_at, pass_on}
use Rattle.operations.proofs.insert_vehicle.allowed.Goals as goal

pub returns-in_err-check_ids : goal.returns-in_err-check_ids
unfolding judge_vehicle check_named
returns-in_err-check_ids c =
    pass_on _ _ _ c.check_list.ensures c.in_ok-check_list.was
    (pass_on _ _ _ c.check_root.ensures c.in_ok-check_root.was
    (stop_at _ _ c.from_residual-in_err-check_ids.ensures.1 _ _ _ (rw c.active_locks-locks.ensures at c.check_ids.ensures) c.in_err-check_ids.was))
    ∙ on_sound_lem c.args.s.now _ _ _ c.broken.ensures c.in_ok-broken.was

pub returns-in_err-check_id : goal.returns-in_err-check_id
unfolding judge_vehicle check_named
returns-in_err-check_id c =
    pass_on _ _ _ c.check_list.ensures c.in_ok-check_list.was
    (pass_on _ _ _ c.check_root.ensures c.in_ok-check_root.was
    (pass_on _ _ _ (rw c.active_locks-locks.ensures at c.check_ids.ensures) c.in_ok-check_ids.was
    (stop_at _ _ c.from_residual-in_err-check_id.ensures.1 _ _ _ (rw (c.active_locks-locks.ensures, c.defunct_locks.ensures) at c.check_id.ensures) c.in_err-check_id.was)))
    ∙ on_sound_lem c.args.s.now _ _ _ c.broken.ensures c.in_ok-broken.was

pub returns-in_err-check_scope : goal.returns-in_err-check_scope
unfolding judge_vehicle check_named
returns-in_err-check_scope c =
    pass_on _ _ _ c.check_list.ensures c.in_ok-check_list.was
    (pass_on _ _ _ c.check_root.ensures c.in_ok-check_root.was
    (pass_on _ _ _ (rw c.active_locks-locks.ensures at c.check_ids.ensures) c.in_ok-check_ids.was
    (pass_on _ _ _ (rw (c.active_locks-locks.ensures, c.defunct_locks.ensures) at c.check_id.ensures) c.in_ok-check_id.was
    (stop_at _ _ c.from_residual-in_err-check_scope.ensures.1 _ _ _ (rw c.active_locks-locks.ensures at c.check_scope.ensures) c.in_err-check_scope.was))))
    ∙ on_sound_lem c.args.s.now _ _ _ c.broken.ensures c.in_ok-broken.was

pub returns-in_err-check_revision : goal.returns-in_err-check_revision
unfolding judge_vehicle check_named
returns-in_err-check_revision c =
    pass_on _ _ _ c.check_list.ensures c.in_ok-check_list.was
    (pass_on _ _ _ c.check_root.ensures c.in_ok-check_root.was
    (pass_on _ _ _ (rw c.active_locks-locks.ensures at c.check_ids.ensures) c.in_ok-check_ids.was
    (pass_on _ _ _ (rw (c.active_locks-locks.ensures, c.defunct_locks.ensures) at c.check_id.ensures) c.in_ok-check_id.was
    (pass_on _ _ _ (rw c.active_locks-locks.ensures at c.check_scope.ensures) c.in_ok-check_scope.was
    (stop_at _ _ c.from_residual-in_err-check_revision.ensures.1 _ _ _ c.check_revision.ensures c.in_err-check_revision.was)))))
    ∙ on_sound_lem c.args.s.now _ _ _ c.broken.ensures c.in_ok-broken.was

pub returns-in_err-check_taken : goal.returns-in_err-check_taken
unfolding judge_vehicle check_named
returns-in_err-check_taken c =
    pass_on _ _ _ c.check_list.ensures c.in_ok-check_list.was
    (pass_on _ _ _ c.check_root.ensures c.in_ok-check_root.was
    (pass_on _ _ _ (rw c.active_locks-locks.ensures at c.check_ids.ensures) c.in_ok-check_ids.was
    (pass_on _ _ _ (rw (c.active_locks-locks.ensures, c.defunct_locks.ensures) at c.check_id.ensures) c.in_ok-check_id.was
    (pass_on _ _ _ (rw c.active_locks-locks.ensures at c.check_scope.ensures) c.in_ok-check_scope.was
    (pass_on _ _ _ c.check_revision.ensures c.in_ok-check_revision.was
    (stop_at _ _ c.from_residual-in_err-check_taken.ensures.1 _ _ _ (rw c.active_locks-locks.ensures at c.check_taken.ensures) c.in_err-check_taken.was))))))
    ∙ on_sound_lem c.args.s.now _ _ _ c.broken.ensures c.in_ok-broken.was

pub returns : goal.returns
unfolding judge_vehicle check_named
returns c =
    let s = c.args.s.now in
    let q = sym c.broken.ensures ∙ c.in_ok-broken.was in
    let k : length (model_of s).active ≡ length c.active_locks-locks.result.now = ap length (sym c.active_locks-locks.ensures) in
    pass_on _ _ _ c.check_list.ensures c.in_ok-check_list.was
    (pass_on _ _ _ c.check_root.ensures c.in_ok-check_root.was
    (pass_on _ _ _ (rw c.active_locks-locks.ensures at c.check_ids.ensures) c.in_ok-check_ids.was
    (pass_on _ _ _ (rw (c.active_locks-locks.ensures, c.defunct_locks.ensures) at c.check_id.ensures) c.in_ok-check_id.was
    (pass_on _ _ _ (rw c.active_locks-locks.ensures at c.check_scope.ensures) c.in_ok-check_scope.was
    (pass_on _ _ _ c.check_revision.ensures c.in_ok-check_revision.was
    (pass_on _ _ _ (rw c.active_locks-locks.ensures at c.check_taken.ensures) c.in_ok-check_taken.was
    (c.check_room.ensures ∙ room_vehicle (model_of s) c.args.new c.args.list.now _ k (omega (arith, k, length-take s.actives s.active, actives_fit s q)) (omega (arith, length-take s.defuncts s.defunct, defuncts_fit s q)))))))))
    ∙ on_sound_lem s _ _ _ c.broken.ensures c.in_ok-broken.was
