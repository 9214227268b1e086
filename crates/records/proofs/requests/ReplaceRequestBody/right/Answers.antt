use mathlib.Core.Path.{sym, ◌∙◌}
use Rattle.records.proofs.Wire.{and_true}
use Rattle.records.proofs.requests.ReplaceRequestBody.right.Goals as goal

pub returns : goal.returns
returns c = c.right.ensures ∙ sym (and_true _)
