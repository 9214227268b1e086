use mathlib.Core.Path.{ap, ◌∙◌}
use Rattle.feed.specs.declared.events.Step.{Step}
use Rattle.feed.specs.Feed.{step_on}
use Rattle.cablegorse.specs.declared.Told.{Told}
use Rattle.cablegorse.specs.declared.Applied.{Applied}
use Rattle.cablegorse.specs.Changes.{still, changed, step_put, apply_of}
use Rattle.cablegorse.specs.Code.{step_shown}
use Rattle.cablegorse.proofs.Images.{records_refused, step_read}
use Rattle.cablegorse.proofs.changes.cablegorse_apply.Goals as goal

pub returns-in-Err : goal.returns-in-Err
unfolding apply_of
returns-in-Err c =
    let a = c.args in
    ap (λ (y : Applied). changed y a.next.now a.removed.now a.expired.now) (c.still.ensures ∙ ap (λ (t : Told). still t 0 0 a.at) c.from.ensures)
    ∙ records_refused _ _ c.read_records-i.ensures (λ t. changed (still t 0 0 a.at) a.next.now a.removed.now a.expired.now) (λ sp. step_put a.at (step_on sp a.stream.now a.at) a.next.now a.removed.now a.expired.now) _ c.in-Err.is

pub returns : goal.returns
returns c =
    let a = c.args in
    c.put_step.ensures ∙ ap (λ (z : Step). step_shown a.at z a.next.now a.removed.now a.expired.now) c.step-s.ensures
    ∙ step_read _ _ c.read_records-i.ensures c.in_default.is a.stream.now a.at a.next.now a.removed.now a.expired.now
