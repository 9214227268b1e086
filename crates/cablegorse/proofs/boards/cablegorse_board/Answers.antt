use mathlib.Core.Path.{ap, ◌∙◌}
use Rattle.std.specs.Prelude.{Result, ℕ}
use Rattle.image.specs.declared.WriteRefusal.{WriteRefusal}
use Rattle.image.specs.Image.{writing_paper}
use Rattle.board.specs.Forms.{Boarded, fresh_on}
use Rattle.cablegorse.specs.declared.Told.{Told}
use Rattle.cablegorse.specs.Telling.{told_of, kept}
use Rattle.cablegorse.specs.Boards.{board_of_image}
use Rattle.cablegorse.proofs.Images.{image_refused, image_read}
use Rattle.cablegorse.proofs.boards.cablegorse_board.Goals as goal

pub returns-in-Err : goal.returns-in-Err
unfolding board_of_image
returns-in-Err c = let a = c.args in ap (λ (t : Told). kept t a.out.now) c.from.ensures ∙ image_refused a.image.now (λ t. kept t a.out.now) (λ sp. kept (told_of (writing_paper (fresh_on sp.state a.out.now).done)) (fresh_on sp.state a.out.now).board) _ c.read_image-i.ensures _ c.in-Err.is

pub returns : goal.returns
unfolding board_of_image
returns c = let a = c.args in
    ap (λ (t : Told). kept t c.fresh.new.out) c.from-2.ensures
    ∙ ap (λ (x : Boarded (Result ℕ WriteRefusal)). kept (told_of (writing_paper x.done)) x.board) c.fresh.ensures
    ∙ image_read a.image.now (λ t. kept t a.out.now) (λ sp. kept (told_of (writing_paper (fresh_on sp.state a.out.now).done)) (fresh_on sp.state a.out.now).board) _ c.read_image-i.ensures c.in_default.is
