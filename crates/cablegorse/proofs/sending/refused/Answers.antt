use mathlib.Core.Path.{refl, ap, ◌∙◌}
use mathlib.Core.List.{[], ◌∷◌}
use Rattle.lists.specs.Papers.{paper}
use Rattle.lookups.proofs.Verdicts.{on_sound_lem}
use Rattle.cablegorse.specs.declared.Told.{Told}
use Rattle.cablegorse.specs.Telling.{told_of}
use Rattle.cablegorse.specs.Changes.{still}
use Rattle.cablegorse.specs.Code.{refused_told}
use Rattle.cablegorse.proofs.Images.{broken_told}
use Rattle.cablegorse.proofs.sending.refused.Goals as goal

pub returns-in-Err : goal.returns-in-Err
unfolding refused_told
returns-in-Err c = c.still.ensures ∙ ap (λ (t : Told). still t 0 0 0) c.from.ensures ∙ broken_told (λ t. still t 0 0 0) c.args.state _ _ c.in-Err.ensures

pub returns-in-Ok : goal.returns-in-Ok
unfolding refused_told
returns-in-Ok c = c.still-in-Ok.ensures ∙ on_sound_lem c.args.state (λ n. still (told_of (paper 12 (n ∷ []))) 0 0 0) _ _ c.in-Ok.ensures refl
