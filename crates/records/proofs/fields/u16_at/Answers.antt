use mathlib.Core.Path.{◌∙◌}
use Rattle.records.proofs.Numbers.{low_read}
use Rattle.records.proofs.fields.u16_at.Goals as goal

pub returns : goal.returns
returns c = c.from_le_bytes.ensures ∙ low_read 1 c.args.s.now c.args.at _ c.bytes_at.ensures c.requires
