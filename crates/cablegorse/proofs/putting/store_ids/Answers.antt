use mathlib.Core.Path.{sym, ◌∙◌}
use Rattle.std.proofs.Common.{arith, length}
use borrow.Author.Tests.{le-leb, lt-leb}
use Rattle.lists.proofs.Tests.{cond_true, cond_false}
use Rattle.records.specs.Numbers.{stored}
use Rattle.records.specs.Wire.{id_bytes}
use Rattle.records.proofs.Runs.{length_all, length_id}
use Rattle.cablegorse.proofs.putting.store_ids.Goals as goal

pub returns-then-ids-out : goal.returns-then-ids-out
unfolding stored
returns-then-ids-out c = c.put_ids.ensures ∙ sym (cond_true _ _ _ (le-leb _ (length c.args.out.now) (omega (arith, length_all id_bytes 16 length_id c.args.ids.now))))

pub returns-else-ids-out : goal.returns-else-ids-out
unfolding stored
returns-else-ids-out c = sym (cond_false _ _ _ (lt-leb _ (length c.args.out.now) (omega (arith, length_all id_bytes 16 length_id c.args.ids.now))))
