use mathlib.Core.Path.{refl, ◌∙◌}
use Rattle.lookups.proofs.Verdicts.{on_sound_lem}
use Rattle.cablegorse.proofs.Images.{broken_told}
use Rattle.cablegorse.proofs.boards.unmatched.Goals as goal

pub returns-in-Err : goal.returns-in-Err
returns-in-Err c = c.from.ensures ∙ broken_told (λ t. t) c.args.state _ _ c.in-Err.ensures

pub returns-in-Ok : goal.returns-in-Ok
returns-in-Ok c = c.new.ensures ∙ on_sound_lem c.args.state _ _ _ c.in-Ok.ensures refl
