use mathlib.Core.Path.{◌∙◌}
use Rattle.records.proofs.Numbers.{high_read}
use Rattle.records.proofs.fields.big64_at.Goals as goal

pub returns : goal.returns
returns c = c.from_be_bytes.ensures ∙ high_read 7 c.args.s.now c.args.at _ c.bytes_at.ensures c.requires
