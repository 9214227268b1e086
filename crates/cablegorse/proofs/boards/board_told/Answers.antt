use mathlib.Core.Path.{sym, ◌∙◌}
use mathlib.Core.Bool.{true, false}
use Rattle.cablegorse.proofs.Boarded.{told_refused, told_matched}
use Rattle.cablegorse.proofs.boards.board_told.Goals as goal

pub returns-in-Err : goal.returns-in-Err
returns-in-Err c = c.from.ensures ∙ told_refused c.args.image.now c.args.board.now _ c.read_image-i.ensures _ c.in-Err.is

pub returns-then-matches : goal.returns-then-matches
returns-then-matches c = c.new.ensures ∙ told_matched c.args.image.now c.args.board.now _ c.read_image-i.ensures c.in_default.is true (sym c.if-matches.true ∙ c.matches.ensures)

pub returns : goal.returns
returns c = c.new-2.ensures ∙ told_matched c.args.image.now c.args.board.now _ c.read_image-i.ensures c.in_default.is false (sym c.if-matches.false ∙ c.matches.ensures)
