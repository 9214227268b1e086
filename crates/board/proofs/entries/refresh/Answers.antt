use Rattle.std.proofs.Common.{ℕ, List, length, ap, ◌∙◌, None}
use Rattle.coverage.specs.Coverage.{covers}
use Rattle.board.specs.Board.{entry_at, refreshed}
use Rattle.board.proofs.Filling.{size_touched, emptied, refreshed_again}
use Rattle.board.proofs.entries.refresh.Goals as goal

pub fill-requires : goal.fill-requires
fill-requires c = let a = c.args in let t = c.touch.ensures in
    (c.requires.0, ap length t ∙ size_touched (covers a.c) None a.board.now c.requires.1, λ e h y. ap (λ (b : List ℕ). entry_at b e) t ∙ emptied a.c a.board.now c.requires.1 e h y)

pub returns : goal.returns
returns c = let a = c.args in
    c.fill.ensures ∙ ap (refreshed (covers a.c) a.locks.now) c.touch.ensures ∙ refreshed_again (covers a.c) None a.locks.now a.board.now c.requires.1
