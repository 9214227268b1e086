use mathlib.Core.Path.{ap, ◌∙◌}
use Rattle.std.proofs.Common.{arith}
use Rattle.std.proofs.lemmas.Result.{err_from_is_err_and}
use Rattle.cablegorse.specs.Questions.{group_asked, active_reply}
use Rattle.cablegorse.proofs.Ranges.{first_out, last_out, both_in}
use Rattle.cablegorse.proofs.questions.ask_group.Goals as goal

pub returns-in_err-subject : goal.returns-in_err-subject
unfolding group_asked
returns-in_err-subject c = let p = err_from_is_err_and c.from_residual.result c.from_residual.ensures.1 in rw (p.1, p.2) (first_out c.args.subject 65535 c.args.ecu 255 _ _ (omega (arith, c.in_err-subject.ensures)))

pub returns-in_err-ecu : goal.returns-in_err-ecu
unfolding group_asked
returns-in_err-ecu c = let p = err_from_is_err_and c.from_residual-in_err-ecu.result c.from_residual-in_err-ecu.ensures.1 in rw (p.1, p.2) (last_out c.args.subject 65535 c.args.ecu 255 _ _ (omega (arith, c.in_err-ecu.ensures)))

pub returns-in_err-covering_functional_group : goal.returns-in_err-covering_functional_group
unfolding group_asked active_reply
returns-in_err-covering_functional_group c =
    let p = err_from_is_err_and c.from_residual-in_err-covering_functional_group.result c.from_residual-in_err-covering_functional_group.ensures.1 in
    rw (p.1, p.2) (ap active_reply (rw (c.in_ok-subject.ensures.1, c.in_ok-ecu.ensures.1) at c.in_err-covering_functional_group.ensures) ∙ both_in c.args.subject 65535 c.args.ecu 255 _ _ (omega (arith, c.in_ok-subject.ensures)) (omega (arith, c.in_ok-ecu.ensures)))

pub returns : goal.returns
unfolding group_asked active_reply
returns c = c.into.ensures ∙ ap active_reply (rw (c.in_ok-subject.ensures.1, c.in_ok-ecu.ensures.1) at c.in_ok-covering_functional_group.ensures) ∙ both_in c.args.subject 65535 c.args.ecu 255 _ _ (omega (arith, c.in_ok-subject.ensures)) (omega (arith, c.in_ok-ecu.ensures))
