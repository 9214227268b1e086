use Rattle.std.proofs.Common.{arith}
use Rattle.image.specs.Image.{active_list, bytes_of_one}
use Rattle.image.proofs.Writes.{length_one, active_plain}
use Rattle.image.proofs.Stores.{none_stored, run_stored}
use Rattle.image.proofs.write.store_actives.Goals as goal

pub put_run-requires-clause-size : goal.put_run-requires-clause-size
put_run-requires-clause-size c = length_one active_list active_plain

pub returns-then-locks-out : goal.returns-then-locks-out
returns-then-locks-out c = run_stored (bytes_of_one active_list) 91 (length_one active_list active_plain) _ _ (omega arith) _ c.put_run.ensures

pub returns-else-locks-out : goal.returns-else-locks-out
returns-else-locks-out c = none_stored (bytes_of_one active_list) 91 (length_one active_list active_plain) _ _ (omega arith)
