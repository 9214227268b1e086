use Rattle.std.proofs.Common.{sym, ap, ◌∙◌, ap₂, rules}
use Rattle.calls.specs.declared.Performed.{Performed}
use Rattle.board.specs.Forms.{BoardPerformed, boarded, told, call_board}
use Rattle.board.proofs.Boarding.{off_sound, call_off, call_on, own_size}
use Rattle.board.proofs.perform.Goals as goal

pub returns-then-not-matches : goal.returns-then-not-matches
returns-then-not-matches c = let a = c.args in
    ap (λ (x : BoardPerformed). boarded x a.board.now) (off_sound a.state _ _ _ (λ u e. let k = c.unmatched.ensures.unsound u e in search rules) (λ e. let k = c.unmatched.ensures.sound e in search rules))
    ∙ call_off a.state a.board.now a.request a.list.now (sym c.matches.ensures ∙ c.if-not-matches.true)

pub follow_call-requires : goal.follow_call-requires
follow_call-requires c = own_size c.args.state c.args.board.now (sym c.matches.ensures ∙ c.if-not-matches.false)

pub returns : goal.returns
returns c = let a = c.args in ap₂ boarded (c.told.ensures ∙ ap told c.perform-done.ensures) (c.follow_call.ensures ∙ ap (λ (p : Performed). call_board a.request p a.board.now) c.perform-done.ensures) ∙ call_on a.state a.board.now a.request a.list.now (sym c.matches.ensures ∙ c.if-not-matches.false)
