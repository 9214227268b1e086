use Rattle.std.proofs.Common.{sym, ap, ◌∙◌, ap₂, rules}
use Rattle.feed.specs.declared.events.Step.{Step}
use Rattle.board.specs.declared.BoardStep.{BoardStep}
use Rattle.board.specs.Forms.{boarded, told_step, step_updated}
use Rattle.board.proofs.Boarding.{off_sound, step_off, step_on_lem, own_size}
use Rattle.board.proofs.step.Goals as goal

pub returns-then-not-matches : goal.returns-then-not-matches
returns-then-not-matches c = let a = c.args in
    ap (λ (x : BoardStep). boarded x a.board.now) (off_sound a.spare.state _ _ _ (λ u e. let k = c.unmatched.ensures.unsound u e in search rules) (λ e. let k = c.unmatched.ensures.sound e in search rules))
    ∙ step_off a.spare a.feed.now a.at a.board.now (sym c.matches.ensures ∙ c.if-not-matches.true)

pub follow_record-requires : goal.follow_record-requires
follow_record-requires c = own_size c.args.spare.state c.args.board.now (sym c.matches.ensures ∙ c.if-not-matches.false)

pub returns : goal.returns
returns c = let a = c.args in ap₂ boarded (c.told_step.ensures ∙ ap told_step c.step-done.ensures) (c.follow_record.ensures ∙ ap (λ (x : Step). step_updated a.feed.now a.at x a.board.now) c.step-done.ensures) ∙ step_on_lem a.spare a.feed.now a.at a.board.now (sym c.matches.ensures ∙ c.if-not-matches.false)
