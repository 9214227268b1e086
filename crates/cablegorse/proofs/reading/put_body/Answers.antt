use mathlib.Core.Path.{sym, ◌∙◌}
use Rattle.std.proofs.Common.{arith, length}
use borrow.Author.Tests.{le-leb}
use Rattle.lists.proofs.Tests.{cond_true}
use Rattle.records.specs.Numbers.{stored}
use Rattle.records.proofs.Layouts.{splice_none}
use Rattle.cablegorse.specs.Replies.{bytes_of_body}
use Rattle.cablegorse.proofs.reading.put_body.Goals as goal

pub returns-in-Nothing : goal.returns-in-Nothing
unfolding bytes_of_body stored
returns-in-Nothing c = rw c.in-Nothing.is (splice_none c.args.out.now 0 (omega arith) ∙ sym (cond_true _ _ _ (le-leb 0 (length c.args.out.now) (omega arith))))

pub returns-in-Active : goal.returns-in-Active
unfolding bytes_of_body
returns-in-Active c = rw c.in-Active.is c.put_active.ensures

pub returns-in-Defunct : goal.returns-in-Defunct
unfolding bytes_of_body
returns-in-Defunct c = rw c.in-Defunct.is c.put_defunct.ensures
