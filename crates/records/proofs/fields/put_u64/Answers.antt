use mathlib.Core.Path.{ap, ◌∙◌}
use Rattle.records.specs.Numbers.{splice, bytes_of}
use Rattle.records.proofs.Numbers.{low_bytes}
use Rattle.records.proofs.fields.put_u64.Goals as goal

pub returns : goal.returns
unfolding bytes_of
returns c = c.put.ensures ∙ ap (splice c.args.out.now c.args.at) (c.to_le_bytes.ensures ∙ low_bytes 8 c.args.v)
