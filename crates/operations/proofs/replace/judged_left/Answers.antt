use mathlib.Core.Path.{refl, sym, ◌∙◌}
use Rattle.state.specs.Locks.{blank_active}
use Rattle.operations.specs.Checks.{check_child}
use Rattle.operations.specs.Replace.{orphan}
use Rattle.operations.proofs.Chains.{stop_at, pass_on}
use Rattle.operations.proofs.Refusing.{picked, not_picked, none_left}
use Rattle.operations.proofs.replace.judged_left.Goals as goal
use Rattle.operations.proofs.replace.judged_left.Goals.{then-is_orphan+in_ok-check_child, else-is_orphan}

pub loop-a-init : goal.loop-a-init
loop-a-init c = refl

pub returns-in_err-check_child : goal.returns-in_err-check_child
unfolding blank_active
returns-in_err-check_child c =
    pass_on _ _ _ c.check_insert.ensures c.in_ok-check_insert.was
    (pass_on _ _ _ c.check_revision.ensures c.in_ok-check_revision.was
    (stop_at _ _ c.from_residual-in_err-check_child.ensures.1 _ _ _ c.check_child.ensures c.in_err-check_child.was
    ∙ sym (picked (check_child c.args.new) (orphan c.args.new) c.args.locks.now c.loop-a.a-index blank_active c.loop-a-test.true (sym c.is_orphan.ensures ∙ c.if-is_orphan.true))
    ∙ c.loop-a.invariant))

pub loop-a-preserved : goal.loop-a-preserved
unfolding blank_active
loop-a-preserved c =
    elim c.if-is_orphan.branch [
      | then-is_orphan+in_ok-check_child w ↦
          pass_on _ _ _ w.check_child.ensures w.in_ok-check_child.was refl
          ∙ sym (picked (check_child c.args.new) (orphan c.args.new) c.args.locks.now c.loop-a.a-index blank_active c.loop-a-test.true (sym c.is_orphan.ensures ∙ w.if-is_orphan.true))
          ∙ c.loop-a.invariant
      | else-is_orphan w ↦
          sym (not_picked (check_child c.args.new) (orphan c.args.new) c.args.locks.now c.loop-a.a-index blank_active c.loop-a-test.true (sym c.is_orphan.ensures ∙ w.if-is_orphan.false))
          ∙ c.loop-a.invariant
    ]

pub returns : goal.returns
returns c =
    pass_on _ _ _ c.check_insert.ensures c.in_ok-check_insert.was
    (pass_on _ _ _ c.check_revision.ensures c.in_ok-check_revision.was
    (sym (none_left (check_child c.args.new) (orphan c.args.new) c.args.locks.now c.loop-a.a-index c.loop-a.auto.a-index-end c.loop-a-test.false) ∙ c.loop-a.invariant))
