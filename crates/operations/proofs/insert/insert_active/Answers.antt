use mathlib.Core.Path.{◌≡◌, sym, ap, ◌∙◌}
use borrow.Author.Rules.{rules}
use Rattle.lists.proofs.Loops.{length_of_mapped}
use Rattle.state.specs.declared.ActiveLock.{ActiveLock}
use Rattle.state.specs.Locks.{normal}
use Rattle.state.specs.Model.{model_of, state_of, full}
use Rattle.operations.specs.Answers.{is_done}
use Rattle.operations.specs.Insert.{inserted_in, judge_insert, insert_active_with, insert_active_on}
use Rattle.operations.specs.Code.{Ready, on_tested}
use Rattle.operations.proofs.Inserting.{ready, put_refused, put_allowed, put_done, put_undone, insert_allowed}
use Rattle.operations.proofs.Bundles.{judge_insert_lem}
use Rattle.operations.proofs.insert.insert_active.Goals as goal
use Rattle.operations.proofs.insert.insert_active.Goals.{After-allowed-told, After-inserted, Then-is_ok}

allowed : (c : After-allowed-told) → c.allowed-told.result ≡ on_tested c.args.s (judge_insert full (model_of c.args.s) (normal c.args.lock))
allowed c = c.allowed-told.ensures ∙ ap (λ (w : ActiveLock). on_tested c.args.s (judge_insert full (model_of c.args.s) w)) c.normal_form-new.ensures

changed : (c : After-inserted) → c.inserted.new.s ≡ state_of (inserted_in (model_of c.args.s) (normal c.args.lock))
changed c = c.inserted.ensures ∙ ap (λ (w : ActiveLock). state_of (inserted_in (model_of c.args.s) w)) c.normal_form-new.ensures

pub inserted-requires : goal.inserted-requires
inserted-requires c =
    let s = c.args.s in
    let w = put_allowed s _ (model_of s) _ c.allowed-told.ensures (sym c.is_ok.ensures.value ∙ c.if-is_ok.true) in
    let k : Ready s = ready s (search (rules, length_of_mapped)) (search (rules, length_of_mapped)) w.0 in
    let a = insert_allowed s k.tidy _ (sym (ap is_done (judge_insert_lem full (model_of s) _)) ∙ w.1) in
    (k, a.0, a.1)

pub returns-then-is_ok-2 : goal.returns-then-is_ok-2
unfolding insert_active_on insert_active_with
returns-then-is_ok-2 c = put_done c.args.s _ _ _ (allowed (goal.at.returns-then-is_ok-2 c).After-allowed-told) (sym c.is_ok.ensures.value ∙ c.if-is_ok.true) _ (changed (goal.at.returns-then-is_ok-2 c).After-inserted) _ c.closed-told.ensures (sym c.is_ok-then-is_ok.ensures.value ∙ c.if-is_ok-2.true)

pub returns-else-is_ok-2 : goal.returns-else-is_ok-2
unfolding insert_active_on insert_active_with
returns-else-is_ok-2 c = put_undone c.args.s _ _ _ (allowed (goal.at.returns-else-is_ok-2 c).After-allowed-told) (sym c.is_ok.ensures.value ∙ c.if-is_ok.true) _ (changed (goal.at.returns-else-is_ok-2 c).After-inserted) _ c.closed-told.ensures (sym c.is_ok-then-is_ok.ensures.value ∙ c.if-is_ok-2.false)

pub returns-else-is_ok : goal.returns-else-is_ok
unfolding insert_active_on insert_active_with
returns-else-is_ok c = put_refused c.args.s _ _ _ (allowed (goal.at.returns-else-is_ok c).After-allowed-told) (sym c.is_ok.ensures.value ∙ c.if-is_ok.false)
