use Rattle.records.specs.Wire.{id_bytes}
use Rattle.records.proofs.Runs.{Put, length_id}
use lib.ListN.{length}
use Rattle.cablegorse.proofs.putting.put_ids.Given as goal

abbrev pub invariant-loop-i : goal.invariant-loop-i
invariant-loop-i l = Put id_bytes 16 length_id l.initial.out 0 (length l.ids) l.ids l.out l.i
