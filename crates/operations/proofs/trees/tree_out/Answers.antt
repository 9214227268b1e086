use Rattle.operations.proofs.Going.{start_sorting, tree_sorting, tree_told}
use Rattle.operations.proofs.trees.tree_out.Goals as goal

pub cut_tree-requires : goal.cut_tree-requires
cut_tree-requires c = start_sorting _ c.requires _ c.all_places.ensures

pub returns : goal.returns
returns c = record {
  sorting = tree_sorting c.args.locks.now c.requires c.args.r.now _ c.all_places.ensures _ c.cut_tree.ensures;
  parts = tree_told c.args.locks.now c.requires c.args.r.now _ c.all_places.ensures _ c.cut_tree.ensures;
}
