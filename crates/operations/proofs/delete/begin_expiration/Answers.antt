use mathlib.Core.Path.{◌∙◌}
use borrow.Author.Rules.{rules}
use Rattle.lists.proofs.Loops.{length_of_mapped}
use Rattle.rules.proofs.Sound.{tidy_of_sound}
use Rattle.operations.proofs.Deleting.{due_allows, expired_is, not_expired}
use Rattle.operations.proofs.delete.begin_expiration.Goals as goal

pub without_tree-told-requires : goal.without_tree-told-requires
without_tree-told-requires c =
    let w = due_allows c.args.s c.args.id c.args.now _ c.due.ensures _ c.in-Ok.is in
    (tidy_of_sound c.args.s (search (rules, length_of_mapped)) (search (rules, length_of_mapped)) w.0, w.1)

pub returns-in-Ok : goal.returns-in-Ok
returns-in-Ok c = (λ j. record { told = c.without_tree-told.ensures.told j; state = c.without_tree-told.ensures.state j }) ∙ expired_is c.args.s c.args.id c.args.now _ c.due.ensures _ c.in-Ok.is

pub returns-in-Err : goal.returns-in-Err
returns-in-Err c = rw c.nothing-told.ensures (not_expired c.args.s c.args.id c.args.now _ c.due.ensures _ c.in-Err.is)
