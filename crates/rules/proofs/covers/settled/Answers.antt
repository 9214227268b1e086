use mathlib.Core.Path.{sym, ◌∙◌}
use Rattle.rules.proofs.Clash.{clear_law, all_friends, none_met}
use Rattle.rules.proofs.covers.settled.Goals as goal

pub returns-then-same : goal.returns-then-same
returns-then-same c = sym (all_friends c.args.x c.args.before.now _ _ c.requires c.if-same.true)

pub returns-then-not-meets : goal.returns-then-not-meets
returns-then-not-meets c = sym (none_met c.args.x c.args.before.now _ _ c.requires (sym c.meets.ensures ∙ c.if-not-meets.true))

pub returns : goal.returns
returns c = c.clear.ensures ∙ clear_law c.args.x c.args.before.now
