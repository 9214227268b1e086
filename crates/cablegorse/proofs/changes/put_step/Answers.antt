use mathlib.Core.Path.{ap, ◌∙◌}
use mathlib.Core.List.{List}
use Rattle.ids.specs.declared.LockId.{LockId}
use Rattle.state.specs.declared.ActiveLock.{ActiveLock}
use Rattle.records.specs.Numbers.{stored, bytes_of_all}
use Rattle.records.specs.Wire.{id_bytes}
use Rattle.image.specs.Image.{active_list, bytes_of_run}
use native.Mathlib.Omega.{arith}
use Rattle.image.proofs.Stores.{Capped, capped}
use Rattle.cablegorse.proofs.Outputs.{shown_unsound, shown_put, not_applied, some_short, all_put}
use Rattle.cablegorse.proofs.changes.put_step.Goals as goal
use Rattle.cablegorse.proofs.changes.put_step.Goals.{After-min-gone, After-min-lapsed}

-- the counts that are stored
locks-gone : (c : After-min-gone) → Capped c.args.s.told.removed c.args.s.told.gone 64 c.min-gone.result
locks-gone c = capped _ _ _ _ c.well_formed.0.1.1.0.1.1.1.1.1.1.0.1.0.1 c.min-gone.ensures

ids-lapsed : (c : After-min-lapsed) → Capped c.args.s.told.ids c.args.s.told.lapsed 128 c.min-lapsed.result
ids-lapsed c = capped _ _ _ _ c.well_formed.0.1.1.0.1.1.1.1.1.1.1.1.0.1.0.1 c.min-lapsed.ensures

pub returns-then-is_unsound : goal.returns-then-is_unsound
returns-then-is_unsound c = let a = c.args in shown_unsound a.at a.s _ _ _ _ c.is_unsound.ensures c.if-is_unsound.true _ c.from-t.ensures _ c.still.ensures

pub returns-then-not-is_applied : goal.returns-then-not-is_applied
returns-then-not-is_applied c =
    let a = c.args in
    not_applied a.at a.s _ _ _ _ c.from-t.ensures _ c.is_applied.ensures c.if-not-is_applied.true-raw _ c.still-then-not-is_applied.ensures
    ∙ shown_put a.at a.s _ _ _ _ c.is_unsound.ensures c.if-is_unsound.false

pub overflow_mul-gone : goal.overflow_mul-gone
overflow_mul-gone c = omega (arith, (locks-gone (goal.at.overflow_mul-gone c).After-min-gone).small, (ids-lapsed c).small)

pub overflow_mul-lapsed : goal.overflow_mul-lapsed
overflow_mul-lapsed c = omega (arith, (locks-gone (goal.at.overflow_mul-lapsed c).After-min-gone).small, (ids-lapsed c).small)

pub overflow_mul-gone-then-next-size : goal.overflow_mul-gone-then-next-size
overflow_mul-gone-then-next-size c = omega (arith, (locks-gone (goal.at.overflow_mul-gone-then-next-size c).After-min-gone).small, (ids-lapsed (goal.at.overflow_mul-gone-then-next-size c).After-min-lapsed).small)

pub overflow_mul-lapsed-then-next-size : goal.overflow_mul-lapsed-then-next-size
overflow_mul-lapsed-then-next-size c = omega (arith, (locks-gone (goal.at.overflow_mul-lapsed-then-next-size c).After-min-gone).small, (ids-lapsed (goal.at.overflow_mul-lapsed-then-next-size c).After-min-lapsed).small)

pub returns-then-next-size : goal.returns-then-next-size
returns-then-next-size c =
    let a = c.args in
    some_short a.at a.s _ _ _ _ c.from-t.ensures _ c.is_applied.ensures c.if-not-is_applied.false-raw _ _ _ c.image_size-size.ensures (locks-gone (goal.at.returns-then-next-size c).After-min-gone) (ids-lapsed (goal.at.returns-then-next-size c).After-min-lapsed) c.if-next-size.true _ c.new-short.ensures _ c.still-then-next-size.ensures
    ∙ shown_put a.at a.s _ _ _ _ c.is_unsound.ensures c.if-is_unsound.false

pub returns : goal.returns
returns c =
    let a = c.args in
    all_put a.at a.s _ _ _ _ c.from-t.ensures _ c.is_applied.ensures c.if-not-is_applied.false-raw _ _ _ c.image_size-size.ensures (locks-gone (goal.at.returns c).After-min-gone) (ids-lapsed (goal.at.returns c).After-min-lapsed) c.if-next-size.false _ _ _ c.store_image.ensures
    (c.store_actives.ensures ∙ ap (λ (l : List ActiveLock). stored a.removed.now 0 (bytes_of_run active_list l)) (locks-gone (goal.at.returns c).After-min-gone).same)
    (c.store_ids.ensures ∙ ap (λ (l : List LockId). stored a.expired.now 0 (bytes_of_all id_bytes l)) (ids-lapsed (goal.at.returns c).After-min-lapsed).same)
    _ c.applied.ensures
    ∙ shown_put a.at a.s _ _ _ _ c.is_unsound.ensures c.if-is_unsound.false
