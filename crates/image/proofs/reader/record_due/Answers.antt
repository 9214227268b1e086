use mathlib.Core.Path.{sym, ◌∙◌, ap}
use native.Mathlib.Omega.{arith}
use Rattle.image.specs.declared.ImageRefusal.{ImageRefusal}
use Rattle.image.specs.Steps.{stay, step_by}
use Rattle.image.proofs.Stepping.{step_framed, Spans, spans}
use Rattle.image.proofs.reader.record_due.Goals as goal
use Rattle.image.proofs.reader.record_due.Goals.{In-Ok}

-- the part that the frame names is within
spanned : (c : In-Ok) → Spans c.args.image.now c.in-Ok.f
spanned c = spans _ c.args.at c.place_of.result _ (sym c.frame_at.ensures ∙ c.in-Ok.is)

pub overflow_add-result : goal.overflow_add-result
overflow_add-result c = omega (arith, (spanned (goal.at.overflow_add-result c).In-Ok).within, c.well_formed)

pub returns-in-Err : goal.returns-in-Err
returns-in-Err c = let a = c.args in
    ap (λ (x : ImageRefusal). stay x a.at) c.from.ensures ∙ ap (step_by a.at) (sym c.in-Err.is) ∙ step_framed a.image.now a.at a.due _ _ c.place_of.ensures c.frame_at.ensures

pub returns-in-Ok : goal.returns-in-Ok
returns-in-Ok c = let a = c.args in
    ap (step_by a.at) (sym c.in-Ok.is) ∙ step_framed a.image.now a.at a.due _ _ c.place_of.ensures c.frame_at.ensures
