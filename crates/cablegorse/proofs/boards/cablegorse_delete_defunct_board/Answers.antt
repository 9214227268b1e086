use mathlib.Core.Path.{ap, ◌∙◌}
use Rattle.cablegorse.specs.declared.Applied.{Applied}
use Rattle.cablegorse.specs.Changes.{left}
use Rattle.cablegorse.proofs.Boarded.{delete_refused, delete_done}
use Rattle.cablegorse.proofs.boards.cablegorse_delete_defunct_board.Goals as goal

pub returns-then-t-ne0 : goal.returns-then-t-ne0
returns-then-t-ne0 c = let a = c.args in ap (λ (y : Applied). left y a.next.now) c.still.ensures ∙ delete_refused a.image.now a.board.now _ c.board_told-t.ensures a.hi a.lo a.kind a.number a.subject a.next.now c.if-t-ne0.true

pub returns : goal.returns
returns c = let a = c.args in c.cablegorse_delete_defunct.ensures ∙ delete_done a.image.now a.board.now _ c.board_told-t.ensures a.hi a.lo a.kind a.number a.subject a.next.now c.if-t-ne0.false
