use mathlib.Core.Path.{sym, ap, ◌∙◌}
use Rattle.std.specs.Option.{option_map}
use Rattle.state.specs.declared.ActiveLock.{ActiveLock}
use Rattle.std.proofs.Common.{rules}
use Rattle.locks.proofs.Laws.{owner_err, owner_ok}
use Rattle.locks.proofs.vehicle_lock_owner_sub.Goals as goal

pub returns-in_err-a : goal.returns-in_err-a
returns-in_err-a c = search (rules, owner_err)

pub returns-in-Some : goal.returns-in-Some
returns-in-Some c = owner_ok _ c.in_ok-a.field-0 _ (sym c.active_for_scope.ensures ∙ c.in_ok-a.was) (ap (option_map (λ (a : ActiveLock). a.lock.subject)) (sym c.in-Some.is))

pub returns-in-None : goal.returns-in-None
returns-in-None c = owner_ok _ c.in_ok-a.field-0 _ (sym c.active_for_scope.ensures ∙ c.in_ok-a.was) (ap (option_map (λ (a : ActiveLock). a.lock.subject)) (sym c.in-None.is))
