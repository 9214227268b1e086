use mathlib.Core.Path.{◌∙◌}
use Rattle.lookups.proofs.Verdicts.{on_sound_lem}
use Rattle.operations.specs.Code.{check_entry, check_named}
use Rattle.operations.proofs.Chains.{stop_at, pass_on}
use Rattle.operations.proofs.replace.judged_entry.Goals as goal

pub returns-in_err-check_ids : goal.returns-in_err-check_ids
unfolding check_entry check_named
returns-in_err-check_ids c =
    pass_on _ _ _ c.check_list.ensures c.in_ok-check_list.was
    (stop_at _ _ c.from_residual-in_err-check_ids.ensures.1 _ _ _ (rw c.active_locks-locks.ensures at c.check_ids.ensures) c.in_err-check_ids.was)
    ∙ on_sound_lem c.args.s.now _ _ _ c.broken.ensures c.in_ok-broken.was

pub returns-in_err-check_id : goal.returns-in_err-check_id
unfolding check_entry check_named
returns-in_err-check_id c =
    pass_on _ _ _ c.check_list.ensures c.in_ok-check_list.was
    (pass_on _ _ _ (rw c.active_locks-locks.ensures at c.check_ids.ensures) c.in_ok-check_ids.was
    (stop_at _ _ c.from_residual-in_err-check_id.ensures.1 _ _ _ (rw (c.active_locks-locks.ensures, c.defunct_locks.ensures) at c.check_id.ensures) c.in_err-check_id.was))
    ∙ on_sound_lem c.args.s.now _ _ _ c.broken.ensures c.in_ok-broken.was

pub returns : goal.returns
unfolding check_entry check_named
returns c =
    pass_on _ _ _ c.check_list.ensures c.in_ok-check_list.was
    (pass_on _ _ _ (rw c.active_locks-locks.ensures at c.check_ids.ensures) c.in_ok-check_ids.was
    (pass_on _ _ _ (rw (c.active_locks-locks.ensures, c.defunct_locks.ensures) at c.check_id.ensures) c.in_ok-check_id.was
    (rw c.active_locks-locks.ensures at c.check_holder.ensures)))
    ∙ on_sound_lem c.args.s.now _ _ _ c.broken.ensures c.in_ok-broken.was
