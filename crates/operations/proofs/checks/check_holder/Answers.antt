use mathlib.Core.Path.{◌∙◌}
use Rattle.operations.proofs.Replacing.{outside_is, holder_yes, holder_no}
use Rattle.operations.proofs.checks.check_holder.Goals as goal

pub returns-then-held_outside : goal.returns-then-held_outside
returns-then-held_outside c = holder_yes c.args.locks.now c.args.list.now c.args.new _ (c.held_outside.ensures ∙ outside_is c.args.locks.now c.args.list.now c.args.new) c.if-held_outside.true

pub returns : goal.returns
returns c = holder_no c.args.locks.now c.args.list.now c.args.new _ (c.held_outside.ensures ∙ outside_is c.args.locks.now c.args.list.now c.args.new) c.if-held_outside.false
