use mathlib.Core.Path.{ap, ap₂, ◌∙◌}
use mathlib.Core.List.{List}
use Prim.Native.Nat.{ℕ}
use native.Mathlib.Omega.{arith}
use Rattle.feed.specs.declared.events.Step.{Step}
use Rattle.feed.specs.Feed.{step_on}
use Rattle.cablegorse.specs.Code.{own_shown}
use Rattle.cablegorse.proofs.Own.{own_record, longest}
use Rattle.cablegorse.proofs.sending.own.Goals as goal

pub slice_bounds-step-end : goal.slice_bounds-step-end
slice_bounds-step-end c = omega (arith, longest c.args.request c.args.list.now c.args.size c.requires, c.put_request.auto)

pub slice_bounds-put_own-end : goal.slice_bounds-put_own-end
slice_bounds-put_own-end c = omega (arith, longest c.args.request c.args.list.now c.args.size c.requires, c.put_request.auto)

pub returns : goal.returns
returns c = let a = c.args in
    let due = own_record a.spare.expected a.request a.list.now _ a.size c.requires (longest a.request a.list.now a.size c.requires) _ _ c.put_request.ensures in
    c.put_own.ensures
    ∙ ap₂ (λ (st : Step) (y : List ℕ). own_shown st y a.next.now a.removed.now a.expired.now a.sent.now) (c.step-s.ensures ∙ ap (λ (y : List ℕ). step_on a.spare y 0) due) due
