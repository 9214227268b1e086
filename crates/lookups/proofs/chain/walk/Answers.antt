use Rattle.std.proofs.Common.{◌≡◌, sym, ◌∙◌, Some, None, arith}
use Rattle.ids.specs.Order.{key}
use Rattle.state.specs.Model.{model_of}
use Rattle.rules.specs.Rules.{find_a, find_d}
use Rattle.lookups.specs.Reads.{holder_of}
use Rattle.lookups.proofs.Visits.{held_at, entry_at, starts, ends_held, ends_out, link_fits, fewer, turns}
use Rattle.lookups.proofs.chain.walk.Goals as goal
use Rattle.lookups.proofs.chain.walk.Goals.{In_default, In-Some-find_defunct}

-- at the id of this turn: no active lock, and then an entry
no-active : (c : In_default) → find_a (model_of c.args.s.now).active (key c.loop-a.id) ≡ None
no-active c = sym (held_at c.args.s.now _ _ c.find_active.ensures) ∙ c.in_default.is

the-entry : (c : In-Some-find_defunct) → find_d (model_of c.args.s.now).defunct (key c.loop-a.id) ≡ Some c.in-Some-find_defunct.e
the-entry c = sym (entry_at c.args.s.now _ _ c.find_defunct.ensures) ∙ c.in-Some-find_defunct.is

pub loop-a-init : goal.loop-a-init
loop-a-init c = starts _ c.requires _ _

pub returns-in-Some : goal.returns-in-Some
unfolding holder_of
returns-in-Some c = ends_held _ c.requires _ _ _ _ _ c.loop-a.invariant c.in-Some.a (sym (held_at c.args.s.now _ _ c.find_active.ensures) ∙ c.in-Some.is)

pub overflow_add-links : goal.overflow_add-links
overflow_add-links c =
    let e = (goal.at.overflow_add-links c).In-Some-find_defunct in
    let n = (goal.at.overflow_add-links c).In_default in
    omega (arith, link_fits _ c.requires _ _ _ _ _ c.loop-a.invariant (no-active n) _ (the-entry e))

pub loop-a-smaller : goal.loop-a-smaller
loop-a-smaller c =
    let e = (goal.at.loop-a-smaller c).In-Some-find_defunct in
    let n = (goal.at.loop-a-smaller c).In_default in
    fewer _ c.requires _ _ _ _ _ c.loop-a.invariant (no-active n) _ (the-entry e)

pub loop-a-preserved : goal.loop-a-preserved
loop-a-preserved c =
    let e = (goal.at.loop-a-preserved c).In-Some-find_defunct in
    let n = (goal.at.loop-a-preserved c).In_default in
    turns _ c.requires _ _ _ _ _ c.loop-a.invariant (no-active n) _ (the-entry e)

pub returns : goal.returns
unfolding holder_of
returns c =
    let n = (goal.at.returns c).In_default in
    ends_out _ c.requires _ _ _ _ _ c.loop-a.invariant (no-active n) (sym (entry_at c.args.s.now _ _ c.find_defunct.ensures) ∙ c.in_default-find_defunct.is)
