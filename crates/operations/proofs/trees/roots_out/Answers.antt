use mathlib.Core.Path.{◌≡◌, ◌∙◌}
use native.Mathlib.Omega.{arith}
use Rattle.state.specs.Locks.{blank_active}
use Rattle.operations.specs.Code.{places_of, roots_halves}
use Rattle.operations.proofs.Going.{out_sorting, roots_more, roots_same, roots_sorting, roots_told, roots_all}
use Rattle.operations.proofs.trees.roots_out.Goals as goal
use Rattle.operations.proofs.trees.roots_out.Goals.{then-listed, else-listed}

pub root_out-out-requires : goal.root_out-out-requires
root_out-out-requires c = out_sorting c.args.list.now c.args.locks.now c.loop-r.r-index c.requires _ c.loop-r.invariant

pub loop-r-preserved : goal.loop-r-preserved
unfolding blank_active
loop-r-preserved c =
    let ws = c.args.list.now in
    let l = c.args.locks.now in
    elim c.if-listed.branch [
      | then-listed w ↦ w.out-is ∙ roots_more ws l c.loop-r.r-index c.requires _ c.loop-r.invariant blank_active c.loop-r-test.true _ c.listed.ensures _ w.if-listed.true w.root_out-out.ensures
      | else-listed w ↦ w.out-is ∙ roots_same ws l c.loop-r.r-index c.requires _ c.loop-r.invariant blank_active c.loop-r-test.true _ c.listed.ensures w.if-listed.false
    ]

pub returns : goal.returns
returns c =
    let e = roots_all c.args.list.now c.args.locks.now _ c.loop-r-test.false _ c.loop-r.invariant in
    record {
      sorting = roots_sorting c.args.list.now c.args.locks.now c.requires _ e;
      parts = roots_told c.args.list.now c.args.locks.now c.requires _ e;
    }
