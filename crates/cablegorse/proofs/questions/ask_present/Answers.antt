use mathlib.Core.Path.{sym, ap, ◌∙◌}
use Rattle.std.proofs.Common.{arith}
use borrow.Author.Tests.{le-leb, lt-leb}
use Rattle.lists.proofs.Tests.{cond_true, cond_false}
use Rattle.std.proofs.lemmas.Result.{err_from_is_err_and}
use Rattle.lookups.specs.Reads.{tester_present_for_on}
use Rattle.cablegorse.specs.Questions.{on_given, present_asked, needed_reply}
use Rattle.cablegorse.proofs.questions.ask_present.Goals as goal

pub returns-in_err-subject : goal.returns-in_err-subject
unfolding present_asked
returns-in_err-subject c = let p = err_from_is_err_and c.from_residual.result c.from_residual.ensures.1 in rw (p.1, p.2) (sym (cond_false _ _ _ (lt-leb c.args.subject 65535 (omega (arith, c.in_err-subject.ensures)))))

pub returns-in_err-scope : goal.returns-in_err-scope
unfolding present_asked
returns-in_err-scope c =
    let p = err_from_is_err_and c.from_residual-in_err-scope.result c.from_residual-in_err-scope.ensures.1 in
    let s = c.args.s in let subject = c.args.subject in
    rw (p.1, p.2) (ap (on_given (λ x. needed_reply (tester_present_for_on s subject x))) c.in_err-scope.ensures ∙ sym (cond_true _ _ _ (le-leb subject 65535 (omega (arith, c.in_ok-subject.ensures)))))

pub returns-in_err-tester_present_for : goal.returns-in_err-tester_present_for
unfolding present_asked needed_reply
returns-in_err-tester_present_for c =
    let p = err_from_is_err_and c.from_residual-in_err-tester_present_for.result c.from_residual-in_err-tester_present_for.ensures.1 in
    let s = c.args.s in let subject = c.args.subject in
    rw (p.1, p.2) (ap needed_reply (rw c.in_ok-subject.ensures.1 at c.in_err-tester_present_for.ensures) ∙ ap (on_given (λ x. needed_reply (tester_present_for_on s subject x))) c.in_ok-scope.ensures ∙ sym (cond_true _ _ _ (le-leb subject 65535 (omega (arith, c.in_ok-subject.ensures)))))

pub returns : goal.returns
unfolding present_asked needed_reply
returns c =
    let s = c.args.s in let subject = c.args.subject in
    c.into.ensures ∙ ap needed_reply (rw c.in_ok-subject.ensures.1 at c.in_ok-tester_present_for.ensures)
    ∙ ap (on_given (λ x. needed_reply (tester_present_for_on s subject x))) c.in_ok-scope.ensures ∙ sym (cond_true _ _ _ (le-leb subject 65535 (omega (arith, c.in_ok-subject.ensures))))
