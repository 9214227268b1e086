use mathlib.Core.Path.{sym, ◌∙◌}
use Rattle.state.specs.Model.{model_of, full}
use Rattle.lookups.proofs.Verdicts.{on_sound_lem, actives_fit, defuncts_fit}
use Rattle.operations.proofs.Bundles.{judge_insert_lem}
use Rattle.operations.proofs.insert.allowed.Goals as goal

pub judged-requires : goal.judged-requires
judged-requires c = let e = sym c.broken.ensures ∙ c.in_ok-broken.was in (actives_fit _ e, defuncts_fit _ e)

pub returns : goal.returns
returns c = c.judged.ensures ∙ sym (judge_insert_lem full (model_of c.args.s.now) c.args.new) ∙ on_sound_lem c.args.s.now _ _ _ c.broken.ensures c.in_ok-broken.was
