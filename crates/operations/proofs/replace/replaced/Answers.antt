use mathlib.Core.Path.{◌≡◌, refl, sym, ap, subst, ◌∙◌}
use mathlib.Core.Bool.{true}
use mathlib.Core.List.{[], map}
use Prim.Native.Nat.{ℕ, ◌≤◌}
use native.Mathlib.Omega.{arith}
use lib.ListN.{length}
use lib.Seq.{length-take-le}
use Rattle.std.specs.Prelude.{Result, Ok, ⊤}
use Rattle.std.proofs.lemmas.Result.{err_from_is_err_and}
use Rattle.lists.specs.Tests.{Yes}
use Rattle.lists.specs.Lists.{ascending}
use Rattle.state.specs.declared.ActiveLock.{ActiveLock}
use Rattle.state.specs.Locks.{dkey}
use Rattle.state.specs.Model.{model_of}
use Rattle.rules.specs.Rules.{broken_rule}
use Rattle.operations.specs.declared.answers.Refusal.{Refusal}
use Rattle.operations.specs.declared.trees.Split.{Split}
use Rattle.operations.specs.Answers.{Replaced, is_done, and_then}
use Rattle.operations.specs.Checks.{check_list}
use Rattle.operations.specs.Defuncts.{to_defunct, enter_all}
use Rattle.operations.specs.Replace.{cut_of, replaced, commit_replacement_on}
use Rattle.operations.specs.Code.{Ready, Cut, parts_of, split_of, Sorting, left_on, check_entry}
use Rattle.operations.proofs.Going.{kept_count, kept_placed, held_sorting}
use Rattle.operations.proofs.Deleting.{held_cut}
use Rattle.operations.proofs.Inserting.{ready, active_few}
use Rattle.operations.proofs.Replacing.{shut_refused, shut_done, gone_placed, left_refused, left_revision, left_full, left_room, left_done, entry_refused, entry_allowed, whole_cut, whole_order, whole_rest}
use Rattle.operations.proofs.replace.replaced.Goals as goal
use Rattle.operations.proofs.replace.replaced.Goals.{After-entered-table, In_ok-judged_left, After-kept-3-1, After-active_locks, In_ok-judged_entry}

-- ---- the state at entry was found sound, and judged
judged : (c : In_ok-judged_entry) → (broken_rule c.args.s.now ≡ Ok tt) × (is_done (and_then (check_list c.args.list.now) (check_entry (model_of c.args.s.now).active (model_of c.args.s.now).defunct c.args.list.now c.normal_form-new.result)) ≡ true)
judged c = let a = c.args in entry_allowed a.s.now a.list.now a.lock _ c.normal_form-new.ensures a.by a.at _ c.judged_entry.ensures c.in_ok-judged_entry.was

fit : (c : In_ok-judged_entry) → Ready c.args.s.now
fit c = ready c.args.s.now c.requires.0 c.requires.1 (judged c).0

-- ---- once the trees are out
abbrev first : After-kept-3-1 → In_ok-judged_entry
first c = (goal.at.After-kept-3-1 c).In_ok-judged_entry

long : (c : After-active_locks) → length c.args.s.now.active ≡ 64
long c = c.requires.0

fits : (c : After-active_locks) → c.args.s.now.actives ≤ length c.args.s.now.active
fits c = omega (arith, long c, (fit (goal.at.After-active_locks c).In_ok-judged_entry).tidy.active)

abbrev held : After-kept-3-1 → Split ActiveLock
held c = record { left = c.roots_out-cut.result.left; kept = c.moved_down-removed.new.locks; gone = c.roots_out-cut.result.gone; removed = c.moved_down-removed.result }

split : (c : After-kept-3-1) → held c ≡ split_of (cut_of (model_of c.args.s.now) c.args.list.now)
split c = held_cut c.args.s.now (fits (goal.at.After-kept-3-1 c).After-active_locks) _ c.roots_out-cut.result (rw c.active_locks.ensures at c.roots_out-cut.ensures.sorting) (rw c.active_locks.ensures at c.roots_out-cut.ensures.parts) _ _ c.moved_down-removed.ensures.kept c.moved_down-removed.ensures.removed

cut : (c : After-kept-3-1) → Cut (held c)
cut c = let a = c.args in whole_cut a.s.now a.list.now a.lock _ c.normal_form-new.ensures a.by a.at _ refl (judged (first c)).0 _ refl _ refl (fit (first c)).tidy _ (split c)

order : (c : After-kept-3-1) → Yes (ascending dkey (enter_all (map (to_defunct c.normal_form-new.result c.args.by c.args.at) (parts_of (held c)).gone) (model_of c.args.s.now).defunct))
order c = let a = c.args in whole_order a.s.now a.list.now a.lock _ c.normal_form-new.ensures a.by a.at _ refl (judged (first c)).0 _ refl _ refl (fit (first c)).tidy _ (split c)

rest : (c : After-kept-3-1) (r : Replaced) → r ≡ left_on c.args.s.now (parts_of (held c)) c.normal_form-new.result c.args.by c.args.at → r ≡ commit_replacement_on c.args.s.now c.args.list.now c.args.lock c.args.by c.args.at
rest c r z = let a = c.args in whole_rest a.s.now a.list.now a.lock _ c.normal_form-new.ensures a.by a.at _ refl (judged (first c)).0 _ refl _ refl (fit (first c)).tidy _ (split c) (judged (first c)).1 r z

-- ---- once the rest is judged, and there is a table
abbrev out : In_ok-judged_left → After-kept-3-1
out c = (goal.at.In_ok-judged_left c).After-kept-3-1

abbrev made : After-entered-table → In_ok-judged_left
made c = (goal.at.After-entered-table c).In_ok-judged_left

passed : (c : In_ok-judged_left) → is_done c.judged_left.result ≡ true
unfolding is_done
passed c = rw c.in_ok-judged_left.was

pub roots_out-cut-requires : goal.roots_out-cut-requires
roots_out-cut-requires c = rw c.active_locks.ensures (active_few c.args.s.now (fit (goal.at.roots_out-cut-requires c).In_ok-judged_entry).tidy)

pub moved_down-removed-requires : goal.moved_down-removed-requires
moved_down-removed-requires c =
    let q = (goal.at.moved_down-removed-requires c).After-active_locks in
    (held_sorting c.args.s.now.active c.args.s.now.actives (fits q) c.roots_out-cut.result (subst (λ (n : ℕ). Sorting n c.roots_out-cut.result) (ap length c.active_locks.ensures ∙ length-take-le c.args.s.now.actives c.args.s.now.active (fits q)) c.roots_out-cut.ensures.sorting), long q)

pub slice_bounds-judged_left-end : goal.slice_bounds-judged_left-end
slice_bounds-judged_left-end c = sym (kept_count _ (cut (goal.at.slice_bounds-judged_left-end c).After-kept-3-1))

pub returns-in_err-judged_entry : goal.returns-in_err-judged_entry
returns-in_err-judged_entry c =
    let a = c.args in
    let p = err_from_is_err_and c.from_residual.result c.from_residual.ensures.1 in
    rw (p.1, p.2) (entry_refused a.s.now a.list.now a.lock _ c.normal_form-new.ensures a.by a.at _ c.judged_entry.ensures _ c.in_err-judged_entry.was)

pub returns-in_err-judged_left : goal.returns-in_err-judged_left
unfolding is_done
returns-in_err-judged_left c =
    let a = c.args in
    let q = (goal.at.returns-in_err-judged_left c).After-kept-3-1 in
    let p = err_from_is_err_and c.from_residual-in_err-judged_left.result c.from_residual-in_err-judged_left.ensures.1 in
    rw (p.1, p.2) (rest q _ (left_refused a.s.now (fit (first q)) (held q) (cut q) c.normal_form-new.result a.by a.at _ c.judged_left.ensures _ refl (ap is_done c.in_err-judged_left.was) _ (ap (λ (z : Result ⊤ Refusal). replaced z [] a.s.now) (sym c.in_err-judged_left.was))))

pub entered-table-requires : goal.entered-table-requires
entered-table-requires c = let q = out (goal.at.entered-table-requires c).In_ok-judged_left in ((fit (first q)).tidy.defunct, omega (arith, (cut q).room), order q)

pub returns-then-n-table : goal.returns-then-n-table
returns-then-n-table c =
    let a = c.args in
    let p = made (goal.at.returns-then-n-table c).After-entered-table in
    let q = out p in
    rest q _ (left_full a.s.now (fit (first q)) (held q) (cut q) c.normal_form-new.result a.by a.at _ c.judged_left.ensures _ refl (passed p) _ c.entered-table.ensures c.if-n-table.true _ refl)

pub joined-active-requires : goal.joined-active-requires
joined-active-requires c =
    let a = c.args in
    let p = made (goal.at.joined-active-requires c).After-entered-table in
    let q = out p in
    (kept_placed (held q) (cut q), (left_room a.s.now (fit (first q)) (held q) (cut q) c.normal_form-new.result a.by a.at _ c.judged_left.ensures _ refl (passed p) _ c.entered-table.ensures c.if-n-table.false).0)

pub overflow_add-next : goal.overflow_add-next
overflow_add-next c =
    let a = c.args in
    let p = made (goal.at.overflow_add-next c).After-entered-table in
    let q = out p in
    let k = left_revision a.s.now (fit (first q)) (held q) (cut q) c.normal_form-new.result a.by a.at _ c.judged_left.ensures _ refl (passed p) in
    omega (arith, (cut q).room)

pub returns-in_err-closed : goal.returns-in_err-closed
returns-in_err-closed c =
    let a = c.args in
    let p = made (goal.at.returns-in_err-closed c).After-entered-table in
    let q = out p in
    let w = err_from_is_err_and c.from_residual-in_err-closed.result c.from_residual-in_err-closed.ensures.1 in
    rw (w.1, w.2) (rest q _ (left_done a.s.now (fit (first q)) (held q) (cut q) c.normal_form-new.result a.by a.at _ c.judged_left.ensures _ refl (passed p) _ c.entered-table.ensures c.if-n-table.false _ c.joined-active.ensures _ _ refl (shut_refused a.s.now _ c.roots_out-cut.result.gone c.moved_down-removed.result (gone_placed a.s.now (fit (first q)) (held q) (cut q) c.normal_form-new.result a.by a.at) _ c.closed.ensures _ c.in_err-closed.was)))

pub returns : goal.returns
returns c =
    let a = c.args in
    let p = made (goal.at.returns c).After-entered-table in
    let q = out p in
    rest q _ (left_done a.s.now (fit (first q)) (held q) (cut q) c.normal_form-new.result a.by a.at _ c.judged_left.ensures _ refl (passed p) _ c.entered-table.ensures c.if-n-table.false _ c.joined-active.ensures _ _ refl (shut_done a.s.now _ c.roots_out-cut.result.gone c.moved_down-removed.result (gone_placed a.s.now (fit (first q)) (held q) (cut q) c.normal_form-new.result a.by a.at) _ c.closed.ensures c.in_ok-closed.was))
