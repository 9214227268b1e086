use mathlib.Core.Path.{◌≡◌, sym, ◌∙◌}
use native.Mathlib.Omega.{arith}
use Rattle.state.specs.Locks.{has_id, blank_active}
use Rattle.operations.proofs.Going.{low_at, any_at_yes, any_at_no, any_at_end, root_here, root_not}
use Rattle.operations.proofs.trees.root_out.Goals as goal

pub offset_bounds-locks-j : goal.offset_bounds-locks-j
offset_bounds-locks-j c = omega (arith, low_at _ _ c.loop-j.j-index c.requires.stays c.loop-j-test.true)

pub bounds-locks-j : goal.bounds-locks-j
bounds-locks-j c = low_at _ _ c.loop-j.j-index c.requires.stays c.loop-j-test.true

pub returns-then-has_id : goal.returns-then-has_id
unfolding blank_active
returns-then-has_id c =
    root_here _ c.args.locks.now c.args.r.now c.args.s.now c.requires _
    (sym c.loop-j.invariant ∙ any_at_yes (has_id c.args.r.now.lock.id) c.args.locks.now _ c.loop-j.j-index c.loop-j-test.true (sym c.has_id.ensures ∙ c.if-has_id.true)) c.cut_tree.ensures

pub loop-j-preserved : goal.loop-j-preserved
unfolding blank_active
loop-j-preserved c =
    sym (any_at_no (has_id c.args.r.now.lock.id) c.args.locks.now _ c.loop-j.j-index c.loop-j-test.true (sym c.has_id.ensures ∙ c.if-has_id.false)) ∙ c.loop-j.invariant

pub returns : goal.returns
returns c = root_not _ c.args.locks.now c.args.r.now c.args.s.now c.requires (sym c.loop-j.invariant ∙ any_at_end (has_id c.args.r.now.lock.id) c.args.locks.now _ c.loop-j.j-index c.loop-j-test.false)
