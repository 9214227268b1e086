use mathlib.Core.Path.{sym, ap, ◌∙◌}
use Rattle.std.proofs.Common.{arith}
use Rattle.std.proofs.lemmas.Result.{err_from_is_err_and}
use Rattle.cablegorse.specs.Questions.{scope_told}
use Rattle.cablegorse.proofs.Ranges.{kind_out, number_out, scope_wrong, scope_there}
use Rattle.cablegorse.proofs.arguments.scope_in.Goals as goal

pub returns-in_err-k : goal.returns-in_err-k
returns-in_err-k c = let p = err_from_is_err_and c.from_residual.result c.from_residual.ensures.1 in rw (p.1, p.2) (ap scope_told (kind_out c.args.kind c.args.number (omega (arith, c.in_err-k.ensures))))

pub returns-in_err-n : goal.returns-in_err-n
returns-in_err-n c = let p = err_from_is_err_and c.from_residual-in_err-n.result c.from_residual-in_err-n.ensures.1 in rw (p.1, p.2) (ap scope_told (number_out c.args.kind c.args.number (omega (arith, c.in_err-n.ensures))))

pub returns-then-not-scope_right : goal.returns-then-not-scope_right
returns-then-not-scope_right c = rw c.new.ensures (ap scope_told (scope_wrong c.args.kind c.args.number (omega (arith, c.in_ok-k.ensures)) (omega (arith, c.in_ok-n.ensures)) (rw (c.in_ok-k.ensures.1, c.in_ok-n.ensures.1) at (sym c.scope_right.ensures ∙ c.if-not-scope_right.true))))

pub returns : goal.returns
returns c = rw (c.scope_of.ensures, c.in_ok-k.ensures.1, c.in_ok-n.ensures.1) (ap scope_told (scope_there c.args.kind c.args.number (omega (arith, c.in_ok-k.ensures)) (omega (arith, c.in_ok-n.ensures)) (rw (c.in_ok-k.ensures.1, c.in_ok-n.ensures.1) at (sym c.scope_right.ensures ∙ c.if-not-scope_right.false))))
