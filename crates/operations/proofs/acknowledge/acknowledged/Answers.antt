use mathlib.Core.List.{List}
use mathlib.Core.Path.{◌≡◌, ◌∙◌}
use Rattle.std.specs.List.{list_any}
use Rattle.std.proofs.Common.{rules}
use Rattle.std.proofs.lemmas.Iterator.{YieldsList-from_slice}
use Rattle.std.proofs.lemmas.Iterator.Search.{any_from_yields_List}
use Rattle.lists.specs.Lists.{any, filter}
use Rattle.lists.proofs.Std.{any_std}
use Rattle.state.specs.declared.DefunctLock.{DefunctLock}
use Rattle.ids.specs.declared.LockId.{LockId}
use Rattle.state.specs.declared.LockState.{LockState}
use Rattle.state.specs.Locks.{has_id_d}
use Rattle.state.specs.Model.{model_of}
use Rattle.operations.specs.Defuncts.{remove_all}
use Rattle.operations.specs.Code.{Ready, with_entries}
use Rattle.operations.proofs.Inserting.{ready}
use Rattle.operations.proofs.Shedding.{at_last, left_last, before_last, left_next, absent, there_last, there_next}
use Rattle.operations.proofs.acknowledge.acknowledged.Goals as goal
use Rattle.operations.proofs.acknowledge.acknowledged.Goals.{After-any, After-shed_in}

-- whether there is such an entry
found : (c : After-any) → c.any.result ≡ any (has_id_d c.args.id) (model_of c.args.s.now).defunct
found c =
    let e : c.any.result ≡ list_any (has_id_d c.args.id) (model_of c.args.s.now).defunct = any_from_yields_List (has_id_d c.args.id) _ _ _ c.any.ensures.ran (YieldsList-from_slice _ (c.iter.ensures.rest ∙ c.defunct_locks.ensures)) (λ x b q k. search rules) in
    e ∙ any_std (has_id_d c.args.id) (model_of c.args.s.now).defunct

-- the entries without it
abbrev stay : LockState → LockId → List DefunctLock
stay s id = let l = (model_of s).defunct in remove_all (filter (has_id_d id) l) l

left : (c : After-shed_in) → c.shed_in.new.s ≡ with_entries c.args.s.now (stay c.args.s.now c.args.id)
left c = c.shed_in.ensures (has_id_d c.args.id) (λ d b m. search rules)

pub shed_in-requires-clause-ready : goal.shed_in-requires-clause-ready
shed_in-requires-clause-ready c = ready c.args.s.now c.requires.0 c.requires.1 c.requires.2

pub returns-then-not-any : goal.returns-then-not-any
returns-then-not-any c = absent c.args.s.now c.requires.2 _ _ (found (goal.at.returns-then-not-any c).After-any) c.if-not-any.true

pub returns-then-s : goal.returns-then-s
returns-then-s c =
    let r = ready c.args.s.now c.requires.0 c.requires.1 c.requires.2 in
    let l = left (goal.at.returns-then-s c).After-shed_in in
    there_last c.args.s.now c.requires.2 _ _ (found (goal.at.returns-then-s c).After-any) c.if-not-any.false r _ (left_last c.args.s.now r.tidy (stay c.args.s.now c.args.id) _ l c.if-s.true) (at_last c.args.s.now r.tidy (stay c.args.s.now c.args.id) _ l c.if-s.true)

pub returns : goal.returns
returns c =
    let r = ready c.args.s.now c.requires.0 c.requires.1 c.requires.2 in
    let l = left (goal.at.returns c).After-shed_in in
    there_next c.args.s.now c.requires.2 _ _ (found (goal.at.returns c).After-any) c.if-not-any.false r _ (left_next c.args.s.now r.tidy (stay c.args.s.now c.args.id) _ l c.if-s.false) (before_last c.args.s.now r.tidy (stay c.args.s.now c.args.id) _ l c.if-s.false)
