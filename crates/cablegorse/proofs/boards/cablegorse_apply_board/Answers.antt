use mathlib.Core.Path.{sym, ap, ◌∙◌}
use Rattle.feed.specs.declared.events.Step.{Step}
use Rattle.cablegorse.specs.declared.Applied.{Applied}
use Rattle.cablegorse.specs.declared.Told.{Told}
use Rattle.cablegorse.specs.Changes.{still, changed}
use Rattle.cablegorse.proofs.Images.{not_zero}
use Rattle.cablegorse.specs.Code.{step_shown}
use Rattle.cablegorse.specs.Boards.{board_changed, followed_by}
use Rattle.cablegorse.proofs.Boarded.{records_told, apply_refused, apply_mismatch, apply_matched}
use Rattle.cablegorse.proofs.boards.cablegorse_apply_board.Goals as goal

pub returns-in-Err : goal.returns-in-Err
returns-in-Err c = let a = c.args in
    ap (λ (y : Applied). board_changed (changed y a.next.now a.removed.now a.expired.now) a.board.now) (c.still.ensures ∙ ap (λ (t : Told). still t 0 0 a.at) c.from.ensures)
    ∙ apply_refused a.image.now a.board.now _ (records_told a.image.now a.board.now _ c.read_records-i.ensures _ c.in-Err.is) a.stream.now a.at a.next.now a.removed.now a.expired.now (not_zero _)

pub returns-then-not-matches : goal.returns-then-not-matches
returns-then-not-matches c = let a = c.args in
    ap (λ (y : Applied). board_changed (changed y a.next.now a.removed.now a.expired.now) a.board.now) c.still-then-not-matches.ensures
    ∙ apply_mismatch a.image.now a.board.now _ c.read_records-i.ensures c.in_default.is a.stream.now a.at a.next.now a.removed.now a.expired.now (sym c.matches.ensures ∙ c.if-not-matches.true) _ c.unmatched.ensures

pub returns : goal.returns
returns c = let a = c.args in
    c.put_followed.ensures
    ∙ ap (λ (z : Step). followed_by a.stream.now a.at z a.board.now (step_shown a.at z a.next.now a.removed.now a.expired.now)) c.step-s.ensures
    ∙ apply_matched a.image.now a.board.now _ c.read_records-i.ensures c.in_default.is a.stream.now a.at a.next.now a.removed.now a.expired.now (sym c.matches.ensures ∙ c.if-not-matches.false)
