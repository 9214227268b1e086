use mathlib.Core.Path.{ap, ◌∙◌}
use Rattle.std.proofs.Common.{List, ℕ}
use Rattle.names.specs.Table.{name_of, entry_at}
use Rattle.names.proofs.Chain.{no_name, past_name, named}
use Rattle.names.proofs.name_at.Goals as goal

pub returns-in_default : goal.returns-in_default
returns-in_default c = no_name _ _ _ c.in_default.ensures

pub returns-then-names-i : goal.returns-then-names-i
returns-then-names-i c = past_name _ _ _ c.in-Ok.ensures.0 _ c.in-Ok.ensures.2 c.if-names-i.true

pub returns : goal.returns
returns c = let g = c.in-Ok.ensures in named _ _ _ g.0 _ g.2 _ c.if-names-i.false (c.name.ensures ∙ ap (λ (t : List ℕ). name_of (entry_at t c.args.number)) g.1)
