use Rattle.std.proofs.Common.{rules}
use Prim.Native.Nat.{◌≤◌}
use native.Mathlib.Omega.{arith}
use lib.ListN.{length}
use Rattle.std.specs.Prelude.{◌≡◌}
use Rattle.lists.proofs.Loops.{length_of_mapped}
use Rattle.operations.specs.Code.{split_of}
use Rattle.operations.specs.Trees.{start_parts, tree_parts}
use Rattle.state.specs.Model.{model_of}
use Rattle.operations.proofs.Deleting.{held_cut, cut_state, cut_told}
use Rattle.operations.proofs.delete.without_tree.Goals as goal
use Rattle.operations.proofs.delete.without_tree.Goals.{After-s-2-1}

fit : (g : _) (c : After-s-2-1 g) → c.args.s.now.actives ≤ length c.args.s.now.active
fit g c = let e : length c.args.s.now.active ≡ 64 = search (rules, length_of_mapped) in omega (arith, e, c.requires.0.active)

cut : (g : _) (c : After-s-2-1 g) → record { left = c.tree_out-cut.result.left; kept = c.moved_down-removed.new.locks; gone = c.tree_out-cut.result.gone; removed = c.moved_down-removed.result } ≡ split_of (tree_parts c.args.root (start_parts (model_of c.args.s.now).active))
cut g c = held_cut c.args.s.now (fit g c) _ c.tree_out-cut.result (rw c.active_locks.ensures at c.tree_out-cut.ensures.sorting) (rw c.active_locks.ensures at c.tree_out-cut.ensures.parts) _ _ c.moved_down-removed.ensures.kept c.moved_down-removed.ensures.removed

pub returns-clause-state : goal.returns-clause-state
returns-clause-state g c = cut_state c.args.s.now c.requires.0 c.args.root _ (cut g c)

pub returns-clause-told : goal.returns-clause-told
returns-clause-told g c = cut_told c.args.s.now c.requires.0 c.args.root _ (cut g c) c.args.answer
