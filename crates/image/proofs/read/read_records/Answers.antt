use Rattle.image.specs.Image.{records_of}
use Rattle.image.proofs.read.read_records.Goals as goal

pub returns : goal.returns
unfolding records_of
returns c = c.records_by.ensures
