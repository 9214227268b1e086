use Rattle.std.proofs.Common.{◌≡◌, ℕ, List, sym, refl, ap, ◌∙◌, arith}
use Rattle.records.specs.Table.{in_feed}
use Rattle.image.proofs.Stepping.{Spans, spans, part_of}
use Rattle.calls.specs.declared.Performed.{Performed}
use Rattle.calls.specs.Calls.{perform_on, outcome_paper}
use Rattle.std.specs.Prelude.{Result, Ok, Err}
use Rattle.feed.specs.declared.events.FeedRefusal.{FeedRefusal}
use Rattle.calls.specs.declared.Outcome.{Outcome}
use Rattle.feed.specs.declared.events.Step.{Step}
use Rattle.records.specs.declared.frame.Unread.{Unread}
use Rattle.feed.specs.declared.taking.Placed.{Placed}
use Rattle.feed.specs.Feed.{Numbered, numbered, body_in, still, onward, act_on, turn_on, taken_on, step_on}
use Rattle.feed.specs.Code.{tested_first}
use Rattle.feed.proofs.Stepping.{turn_now, turn_other, tested_there, step_taken, taken_frame}
use Rattle.feed.proofs.step.Goals as goal
use Rattle.feed.proofs.step.Goals.{After-performed-done, After-struct_known-1, In-Ok}

-- the part that the record's frame names is within
spanned : (c : After-struct_known-1) → Spans c.args.feed.now c.in-Ok.placed.frame
spanned c =
    let a = c.args in
    let p = c.in-Ok.placed in
    spans _ a.at in_feed _ (taken_frame a.feed.now a.at (Ok p) (sym c.taken_at.ensures ∙ c.in-Ok.is)).0

-- the record as it stands in the feed, and what the operation answered
abbrev asked : In-Ok → Numbered
asked c = numbered c.in-Ok.placed (body_in c.args.feed.now c.in-Ok.placed.frame)

done : (c : After-performed-done) → c.performed-done.result ≡ perform_on c.args.spare.state (asked (goal.at.After-performed-done c).In-Ok).request (asked (goal.at.After-performed-done c).In-Ok).list
done c =
    let a = c.args in
    let p = c.in-Ok.placed in
    c.performed-done.ensures ∙ ap (λ (b : List ℕ). perform_on a.spare.state p.request (numbered p b).list) (part_of a.feed.now p.frame.start p.frame.size _ refl)

-- in turn
acts : (c : After-performed-done) → onward c.args.spare (asked (goal.at.After-performed-done c).In-Ok).number c.in-Ok.placed.frame.next c.performed-done.result ≡ turn_on c.args.spare c.in-Ok.placed.frame.next (asked (goal.at.After-performed-done c).In-Ok)
unfolding act_on
acts c =
    let a = c.args in
    let p = c.in-Ok.placed in
    ap (onward a.spare p.sequence p.frame.next) (done c) ∙ turn_now a.spare p.frame.next (asked (goal.at.After-performed-done c).In-Ok) _ c.distance-far.ensures c.if-far-ne0.false

-- what was taken, as the step
stepped : (c : In-Ok) → tested_first c.args.spare c.args.at (turn_on c.args.spare c.in-Ok.placed.frame.next (asked c)) ≡ step_on c.args.spare c.args.feed.now c.args.at
stepped c =
    let a = c.args in
    ap (λ (x : Result Placed Unread). tested_first a.spare a.at (taken_on a.spare a.feed.now a.at x)) (sym c.in-Ok.is) ∙ step_taken a.spare a.feed.now a.at _ c.taken_at.ensures

pub returns-then-far-ne0 : goal.returns-then-far-ne0
returns-then-far-ne0 c =
    let a = c.args in
    c.wait-then-far-ne0.ensures
    ∙ ap (λ (e : Result Outcome FeedRefusal). tested_first a.spare a.at (still a.spare e c.in-Ok.placed.sequence c.in-Ok.placed.frame.next)) c.out_of_turn-event.ensures
    ∙ ap (λ (x : Step). tested_first a.spare a.at x) (turn_other a.spare c.in-Ok.placed.frame.next (asked (goal.at.returns-then-far-ne0 c).In-Ok) _ c.distance-far.ensures c.if-far-ne0.true)
    ∙ stepped (goal.at.returns-then-far-ne0 c).In-Ok

pub overflow_add-end : goal.overflow_add-end
overflow_add-end c = omega (arith, (spanned c).within, c.well_formed)

pub slice_bounds-performed-end : goal.slice_bounds-performed-end
slice_bounds-performed-end c = omega (arith, (spanned (goal.at.slice_bounds-performed-end c).After-struct_known-1).within)

pub returns-then-number-eq-UNSOUND : goal.returns-then-number-eq-UNSOUND
returns-then-number-eq-UNSOUND c =
    let a = c.args in
    c.refused.ensures ∙ ap (λ (x : Step). tested_first a.spare a.at x) (acts (goal.at.returns-then-number-eq-UNSOUND c).After-performed-done) ∙ stepped (goal.at.returns-then-number-eq-UNSOUND c).In-Ok

pub returns-in-Err : goal.returns-in-Err
returns-in-Err c =
    let a = c.args in
    c.wait.ensures ∙ ap (λ (x : FeedRefusal). tested_first a.spare a.at (still a.spare (Err x) 0 a.at)) c.from.ensures
    ∙ ap (λ (x : Result Placed Unread). tested_first a.spare a.at (taken_on a.spare a.feed.now a.at x)) (sym c.in-Err.is)
    ∙ step_taken a.spare a.feed.now a.at _ c.taken_at.ensures

pub returns-else-number-eq-UNSOUND : goal.returns-else-number-eq-UNSOUND
returns-else-number-eq-UNSOUND c =
    let a = c.args in
    c.onward.ensures ∙ acts (goal.at.returns-else-number-eq-UNSOUND c).After-performed-done
    ∙ tested_there a.spare a.at (turn_on a.spare c.in-Ok.placed.frame.next (asked (goal.at.returns-else-number-eq-UNSOUND c).In-Ok)) (asked (goal.at.returns-else-number-eq-UNSOUND c).In-Ok).request (asked (goal.at.returns-else-number-eq-UNSOUND c).In-Ok).list _ (c.number.ensures ∙ ap (λ (r : Performed). (outcome_paper r.outcome).number) (done (goal.at.returns-else-number-eq-UNSOUND c).After-performed-done)) c.if-number-eq-UNSOUND.false
    ∙ stepped (goal.at.returns-else-number-eq-UNSOUND c).In-Ok
