use Rattle.std.proofs.Common.{rules}
use Rattle.operations.specs.Code.{picks, picks_at}
use Rattle.operations.proofs.Going.{step_1, step_2, step_3}
use Rattle.operations.proofs.trees.cut_tree.Goals as goal

pub take_out-s-requires-2-clause-sorting : goal.take_out-s-requires-2-clause-sorting
unfolding picks
take_out-s-requires-2-clause-sorting c =
    let l = c.args.locks.now in
    let r = c.args.r.now in
    step_1 _ (picks_at 0 l r) (picks_at 1 l r) (picks_at 2 l r) c.args.s.now _ c.requires (c.take_out-s.ensures (picks 0 r) (λ a b m. search rules))

pub take_out-requires-clause-sorting : goal.take_out-requires-clause-sorting
unfolding picks
take_out-requires-clause-sorting c =
    let l = c.args.locks.now in
    let r = c.args.r.now in
    step_2 _ (picks_at 0 l r) (picks_at 1 l r) (picks_at 2 l r) c.args.s.now _ c.requires (c.take_out-s.ensures (picks 0 r) (λ a b m. search rules))
    _ (c.take_out-s-2.ensures (picks 1 r) (λ a b m. search rules))

pub returns : goal.returns
unfolding picks
returns c =
    let l = c.args.locks.now in
    let r = c.args.r.now in
    step_3 _ (picks_at 0 l r) (picks_at 1 l r) (picks_at 2 l r) c.args.s.now _ c.requires (c.take_out-s.ensures (picks 0 r) (λ a b m. search rules))
    _ (c.take_out-s-2.ensures (picks 1 r) (λ a b m. search rules))
    _ (c.take_out.ensures (picks 2 r) (λ a b m. search rules))
