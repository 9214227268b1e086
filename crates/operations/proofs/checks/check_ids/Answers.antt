use mathlib.Core.Path.{refl, sym, ◌∙◌}
use native.Mathlib.Omega.{arith}
use Rattle.operations.specs.Code.{check_named}
use Rattle.operations.proofs.Listing.{higher_id, lower_id, passed_id, end_id, refused, ids_none, ids_some}
use Rattle.operations.proofs.Refusing.{refuses}
use Rattle.operations.proofs.checks.check_ids.Goals as goal

pub loop-j-init : goal.loop-j-init
loop-j-init c = (omega arith, omega arith, refl)

pub loop-j-preserved : goal.loop-j-preserved
loop-j-preserved c =
    let l = c.loop-j in
    (omega arith, refl, sym (higher_id (refuses (check_named c.args.child c.args.locks.now)) c.args.list.now l.lowest l.j (omega arith) (sym c.is_lower.ensures ∙ c.if-is_lower.false)) ∙ l.invariant.2)

pub loop-j-preserved-then-is_err : goal.loop-j-preserved-then-is_err
loop-j-preserved-then-is_err c =
    let l = c.loop-j in
    (omega arith, refl, sym (lower_id (refuses (check_named c.args.child c.args.locks.now)) c.args.list.now l.lowest l.j (omega arith) (refused c.args.child c.args.locks.now _ _ c.check_named-told.ensures (sym c.is_err.ensures.value ∙ c.if-is_err.true)) (sym c.is_lower.ensures ∙ c.if-is_lower.true)) ∙ l.invariant.2)

pub loop-j-preserved-else-is_err : goal.loop-j-preserved-else-is_err
loop-j-preserved-else-is_err c =
    let l = c.loop-j in
    (omega arith, refl, sym (passed_id (refuses (check_named c.args.child c.args.locks.now)) c.args.list.now l.lowest l.j (omega arith) (refused c.args.child c.args.locks.now _ _ c.check_named-told.ensures (sym c.is_err.ensures.value ∙ c.if-is_err.false))) ∙ l.invariant.2)

pub returns-in-None : goal.returns-in-None
returns-in-None c =
    let l = c.loop-j in
    ids_none c.args.child c.args.locks.now c.args.list.now (sym l.invariant.2 ∙ end_id (refuses (check_named c.args.child c.args.locks.now)) c.args.list.now l.lowest l.j (omega arith) ∙ c.in-None.is)

pub returns-in-Some : goal.returns-in-Some
returns-in-Some c =
    let l = c.loop-j in
    ids_some c.args.child c.args.locks.now c.args.list.now _ _ (sym l.invariant.2 ∙ end_id (refuses (check_named c.args.child c.args.locks.now)) c.args.list.now l.lowest l.j (omega arith) ∙ c.in-Some.is) c.check_named.ensures
