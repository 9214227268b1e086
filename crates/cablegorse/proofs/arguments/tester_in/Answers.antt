use Rattle.std.proofs.Common.{rules, arith}
use Rattle.std.proofs.lemmas.Result.{err_from_is_err_and}
use Rattle.cablegorse.proofs.Ranges.{tester_past, tester_ecu, tester_group, tester_none}
use Rattle.cablegorse.proofs.arguments.tester_in.Goals as goal

pub returns-in_err-n : goal.returns-in_err-n
returns-in_err-n c = let p = err_from_is_err_and c.from_residual.result c.from_residual.ensures.1 in rw (p.1, p.2) (tester_past c.args.kind c.args.number (omega (arith, c.in_err-n.ensures)))

pub returns-in-1 : goal.returns-in-1
returns-in-1 c = rw c.in_ok-n.ensures.1 (tester_ecu c.args.kind c.args.number (omega (arith, c.in_ok-n.ensures)) c.in-1.is)

pub returns-in-2 : goal.returns-in-2
returns-in-2 c = rw c.in_ok-n.ensures.1 (tester_group c.args.kind c.args.number (omega (arith, c.in_ok-n.ensures)) c.in-2.is)

pub returns-in_default : goal.returns-in_default
returns-in_default c = rw c.new.ensures (search (tester_none, rules))
