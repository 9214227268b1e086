use Rattle.std.proofs.Common.{sym, ◌∙◌}
use Rattle.std.proofs.lemmas.Result.{err_from_is_err_and}
use Rattle.board.proofs.Boarding.{check_err}
use Rattle.board.proofs.Theorems.{check_own, check_other}
use Rattle.board.proofs.check.Goals as goal

pub returns-in_err-broken : goal.returns-in_err-broken
returns-in_err-broken c =
    let p = err_from_is_err_and c.from_residual.result c.from_residual.ensures.1 in
    rw (p.1, p.2) (check_err c.args.state c.args.board.now _ (sym c.broken.ensures ∙ c.in_err-broken.was))

pub returns-then-matches : goal.returns-then-matches
returns-then-matches c = sym (check_own c.args.state c.args.board.now (sym c.broken.ensures ∙ c.in_ok-broken.was) (sym c.matches.ensures ∙ c.if-matches.true))

pub returns : goal.returns
returns c = sym (check_other c.args.state c.args.board.now (sym c.broken.ensures ∙ c.in_ok-broken.was) (sym c.matches.ensures ∙ c.if-matches.false))
