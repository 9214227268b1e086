use Rattle.std.proofs.Common.{sym, ◌∙◌}
use Rattle.lookups.proofs.Presents.{one_needs, none_needs}
use Rattle.lookups.proofs.search.is_needed.Goals as goal

pub returns-in-Some : goal.returns-in-Some
returns-in-Some c = c.own_need.ensures ∙ one_needs _ _ c.requires _ c.scope_of-k.ensures _ (sym c.find_scope.ensures ∙ c.in-Some.is)

pub returns : goal.returns
returns c = none_needs _ _ _ c.scope_of-k.ensures (sym c.find_scope.ensures ∙ c.in_default.is)
