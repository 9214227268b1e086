use Rattle.names.proofs.Bytes.{to_lower}
use Rattle.names.proofs.fold_byte.Goals as goal
use mathlib.Core.Path.{◌∙◌}

pub returns : goal.returns
returns c = c.to_ascii_lowercase.ensures.value ∙ to_lower c.args.b
