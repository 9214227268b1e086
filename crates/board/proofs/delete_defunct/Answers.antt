use Rattle.std.proofs.Common.{sym, ap, ◌∙◌, rules}
use Rattle.board.specs.Forms.{told_dropped}
use Rattle.board.proofs.Boarding.{off_sound, dropped_off}
use Rattle.board.proofs.Theorems.{delete_defunct_as_plain}
use Rattle.board.proofs.delete_defunct.Goals as goal

pub returns-then-not-matches : goal.returns-then-not-matches
returns-then-not-matches c = let a = c.args in
    off_sound a.state _ _ _ (λ u e. let k = c.unmatched.ensures.unsound u e in search rules) (λ e. let k = c.unmatched.ensures.sound e in search rules)
    ∙ dropped_off a.state a.board.now a.id a.scope a.subject (sym c.matches.ensures ∙ c.if-not-matches.true)

pub returns : goal.returns
returns c = let a = c.args in c.told_dropped.ensures ∙ ap told_dropped c.delete_defunct.ensures ∙ sym (delete_defunct_as_plain a.state a.board.now (sym c.matches.ensures ∙ c.if-not-matches.false) a.id a.scope a.subject)
