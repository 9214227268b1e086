use mathlib.Core.Path.{◌∙◌}
use borrow.Author.Rules.{rules}
use Rattle.lists.proofs.Loops.{length_of_mapped}
use Rattle.rules.proofs.Sound.{tidy_of_sound}
use Rattle.operations.proofs.Deleting.{deletable_is, deleted_is, not_deleted}
use Rattle.operations.proofs.delete.delete.Goals as goal

pub without_tree-told-requires : goal.without_tree-told-requires
without_tree-told-requires c =
    let w = deletable_is c.args.s c.args.id _ c.found.ensures _ c.in-Ok.is in
    (tidy_of_sound c.args.s (search (rules, length_of_mapped)) (search (rules, length_of_mapped)) w.0, w.1)

pub returns-in-Ok : goal.returns-in-Ok
returns-in-Ok c = (λ j. record { told = c.without_tree-told.ensures.told j; state = c.without_tree-told.ensures.state j }) ∙ deleted_is c.args.s c.args.id _ c.found.ensures _ c.in-Ok.is

pub returns-in-Err : goal.returns-in-Err
returns-in-Err c = rw c.nothing-told.ensures (not_deleted c.args.s c.args.id _ c.found.ensures _ c.in-Err.is)
