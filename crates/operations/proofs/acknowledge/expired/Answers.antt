use mathlib.Core.List.{List}
use mathlib.Core.Path.{◌≡◌, refl, sym, ap, ◌∙◌}
use Prim.Native.Nat.{ℕ, ◌≤◌, ◌<◌}
use native.Mathlib.Omega.{arith}
use lib.ListN.{length}
use Rattle.std.specs.Prelude.{Ok}
use Rattle.std.proofs.Common.{rules}
use Rattle.std.proofs.lemmas.List.{take_all}
use Rattle.std.proofs.lemmas.Result.{err_from_is_err_and}
use Rattle.lists.specs.Places.{Holds}
use Rattle.lists.proofs.Loops.{push, stay, sift_yes, sift_no}
use Rattle.ids.specs.declared.LockId.{LockId}
use Rattle.ids.specs.Order.{no_id}
use Rattle.state.specs.declared.DefunctLock.{DefunctLock}
use Rattle.state.specs.Locks.{blank_defunct}
use Rattle.state.specs.Model.{model_of}
use Rattle.rules.specs.Rules.{broken_rule}
use Rattle.operations.proofs.Closing.{on_unsound}
use Rattle.operations.specs.Defuncts.{remove_all}
use Rattle.operations.specs.Acknowledge.{lapsed, lapsed_of, ids_of_entries, expire_defunct_on}
use Rattle.operations.specs.Code.{Ready, with_entries, ids_told}
use Rattle.operations.proofs.Inserting.{ready, defunct_room}
use Rattle.operations.proofs.Shedding.{at_last, left_last, before_last, left_next, none_lapsed, lapsed_last, lapsed_next}
use Rattle.operations.proofs.acknowledge.expired.Goals as goal
use Rattle.operations.proofs.acknowledge.expired.Goals.{then-has_lapsed, else-has_lapsed, After-loop-d, After-shed_in, In_ok-broken}
use Rattle.operations.proofs.acknowledge.expired.Invariants.{chosen}

-- what the test of the state told
tested : (c : In_ok-broken) → broken_rule c.args.s.now ≡ Ok tt
tested c = sym c.broken.ensures ∙ c.in_ok-broken.was

fit : (c : In_ok-broken) → Ready c.args.s.now
fit c = ready c.args.s.now c.requires.0 c.requires.1 (tested c)

few : (c : In_ok-broken) → length (model_of c.args.s.now).defunct ≤ 128
few c = defunct_room c.args.s.now (fit c).tidy

-- what is told
told : (l out : List LockId) (w : ℕ) → Holds 128 no_id l out w → record { answer = Ok tt; gone = w; ids = out } ≡ ids_told l
told l out w h = rw (h.0, h.1)

listed : (c : After-loop-d) → record { answer = Ok tt; gone = c.loop-d.gone; ids = c.loop-d.ids } ≡ ids_told (ids_of_entries (lapsed_of c.args.now (model_of c.args.s.now)))
listed c =
    let e = take_all c.loop-d.d-index c.defunct_locks-d-items.result.now c.loop-d-test.false ∙ c.defunct_locks-d-items.ensures in
    told _ _ _ (rw e at c.loop-d.invariant.1)

-- the entries without them
abbrev rest : In_ok-broken → List DefunctLock
rest c = let m = model_of c.args.s.now in remove_all (lapsed_of c.args.now m) m.defunct

left : (c : After-shed_in) → c.shed_in.new.s ≡ with_entries c.args.s.now (rest (goal.at.After-shed_in c).In_ok-broken)
left c = c.shed_in.ensures (lapsed c.args.now) (λ d b m. search rules)

pub loop-d-init : goal.loop-d-init
loop-d-init c = (omega arith, (c.requires.2, refl))

pub offset_bounds-ids-gone : goal.offset_bounds-ids-gone
offset_bounds-ids-gone c = omega (arith, few (goal.at.offset_bounds-ids-gone c).In_ok-broken, ap length c.defunct_locks-d-items.ensures)

pub bounds-ids-gone : goal.bounds-ids-gone
bounds-ids-gone c = omega (arith, few (goal.at.bounds-ids-gone c).In_ok-broken, ap length c.defunct_locks-d-items.ensures)

pub loop-d-preserved : goal.loop-d-preserved
unfolding blank_defunct
loop-d-preserved c =
    let l = c.loop-d in
    let items = c.defunct_locks-d-items.result.now in
    let small : l.gone < 128 = omega (arith, few (goal.at.loop-d-preserved c).In_ok-broken, ap length c.defunct_locks-d-items.ensures) in
    elim c.if-has_lapsed.branch [
      | then-has_lapsed w ↦ (omega (arith, w.gone-is), rw (w.ids-is, w.gone-is) (push 128 no_id (chosen c.args.now items l.d-index) _ _ _ _ l.invariant.1 small (sift_yes _ _ items l.d-index blank_defunct c.loop-d-test.true (sym c.has_lapsed.ensures ∙ w.if-has_lapsed.true))))
      | else-has_lapsed w ↦ (omega (arith, w.gone-is), rw (w.ids-is, w.gone-is) (stay 128 no_id (chosen c.args.now items l.d-index) _ _ _ l.invariant.1 (sift_no _ _ items l.d-index blank_defunct c.loop-d-test.true (sym c.has_lapsed.ensures ∙ w.if-has_lapsed.false))))
    ]

pub shed_in-requires-clause-ready : goal.shed_in-requires-clause-ready
shed_in-requires-clause-ready c = fit (goal.at.shed_in-requires-clause-ready c).In_ok-broken

pub returns-in_err-broken : goal.returns-in_err-broken
unfolding expire_defunct_on
returns-in_err-broken c = let p = err_from_is_err_and c.from_residual.result c.from_residual.ensures.1 in rw (p.1, p.2) (on_unsound _ _ _ _ _ c.broken.ensures c.in_err-broken.was)

pub returns-then-s : goal.returns-then-s
returns-then-s c =
    let o = (goal.at.returns-then-s c).In_ok-broken in
    let l = left (goal.at.returns-then-s c).After-shed_in in
    lapsed_last c.args.s.now (tested o) _ _ (listed (goal.at.returns-then-s c).After-loop-d) (omega arith) _ (left_last c.args.s.now (fit o).tidy (rest o) _ l c.if-s.true) (at_last c.args.s.now (fit o).tidy (rest o) _ l c.if-s.true)

pub returns : goal.returns
returns c =
    let o = (goal.at.returns c).In_ok-broken in
    let l = left (goal.at.returns c).After-shed_in in
    lapsed_next c.args.s.now (tested o) _ _ (listed (goal.at.returns c).After-loop-d) (omega arith) _ (left_next c.args.s.now (fit o).tidy (rest o) _ l c.if-s.false) (before_last c.args.s.now (fit o).tidy (rest o) _ l c.if-s.false)

pub returns-then-gone-eq0 : goal.returns-then-gone-eq0
returns-then-gone-eq0 c = none_lapsed c.args.s.now (tested (goal.at.returns-then-gone-eq0 c).In_ok-broken) _ _ (listed (goal.at.returns-then-gone-eq0 c).After-loop-d) (omega arith)
