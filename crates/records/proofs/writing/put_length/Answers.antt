use Rattle.records.proofs.Storing.{frame_stored}
use Rattle.records.proofs.writing.put_length.Goals as goal

pub returns : goal.returns
returns c = let a = c.args in rw (c.put_u16-2.ensures, c.put_u16.ensures) (frame_stored a.out.now a.at a.bytes a.kind c.requires)
