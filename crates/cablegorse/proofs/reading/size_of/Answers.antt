use mathlib.Core.Path.{sym}
use Rattle.image.specs.Image.{active_list, defunct_list}
use Rattle.image.proofs.Writes.{length_one, active_plain, defunct_plain}
use Rattle.records.specs.Wire.{id_bytes}
use Rattle.records.proofs.Runs.{length_all, length_id}
use Rattle.cablegorse.specs.Replies.{bytes_of_body}
use Rattle.cablegorse.proofs.reading.size_of.Goals as goal

pub returns-in-Active : goal.returns-in-Active
unfolding bytes_of_body
returns-in-Active c = rw c.in-Active.is (sym (length_one active_list active_plain _))

pub returns-in-Defunct : goal.returns-in-Defunct
unfolding bytes_of_body
returns-in-Defunct c = rw c.in-Defunct.is (sym (length_one defunct_list defunct_plain _))

pub returns-in-Ids : goal.returns-in-Ids
unfolding bytes_of_body
returns-in-Ids c = rw (c.in-Ids.is, ← c.first.ensures) (sym (length_all id_bytes 16 length_id _))
