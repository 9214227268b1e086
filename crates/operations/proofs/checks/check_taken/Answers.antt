use mathlib.Core.Path.{refl, sym, ◌∙◌}
use Rattle.state.specs.Locks.{blank_active}
use Rattle.operations.specs.Trees.{is_listed}
use Rattle.operations.specs.Checks.{check_child}
use Rattle.operations.proofs.Chains.{stop_at, pass_on}
use Rattle.operations.proofs.Refusing.{picked, not_picked, none_left}
use Rattle.operations.proofs.checks.check_taken.Goals as goal
use Rattle.operations.proofs.checks.check_taken.Goals.{then-listed+in_ok-check_child, else-listed}

pub returns-in_err-check_child : goal.returns-in_err-check_child
unfolding blank_active
returns-in_err-check_child c =
    stop_at _ _ c.from_residual.ensures.1 _ _ _ c.check_child.ensures c.in_err-check_child.was
    ∙ sym (picked (check_child c.args.new) (is_listed c.args.list.now) c.args.locks.now c.loop-a.a-index blank_active c.loop-a-test.true (sym c.listed.ensures ∙ c.if-listed.true))
    ∙ c.loop-a.invariant

pub loop-a-preserved : goal.loop-a-preserved
unfolding blank_active
loop-a-preserved c =
    elim c.if-listed.branch [
      | then-listed+in_ok-check_child w ↦
          pass_on _ _ _ w.check_child.ensures w.in_ok-check_child.was refl
          ∙ sym (picked (check_child c.args.new) (is_listed c.args.list.now) c.args.locks.now c.loop-a.a-index blank_active c.loop-a-test.true (sym c.listed.ensures ∙ w.if-listed.true))
          ∙ c.loop-a.invariant
      | else-listed w ↦
          sym (not_picked (check_child c.args.new) (is_listed c.args.list.now) c.args.locks.now c.loop-a.a-index blank_active c.loop-a-test.true (sym c.listed.ensures ∙ w.if-listed.false))
          ∙ c.loop-a.invariant
    ]

pub returns : goal.returns
returns c = sym (none_left (check_child c.args.new) (is_listed c.args.list.now) c.args.locks.now c.loop-a.a-index c.loop-a.auto.a-index-end c.loop-a-test.false) ∙ c.loop-a.invariant
