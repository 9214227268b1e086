use mathlib.Core.Path.{◌≡◌}
use lib.ListN.{drop}
use Rattle.lists.specs.Lists.{filter}
use Rattle.operations.specs.Answers.{first_refusal}
use Rattle.operations.specs.Checks.{check_child}
use Rattle.operations.specs.Replace.{orphan}
use Rattle.operations.proofs.replace.judged_left.Given as goal

abbrev pub invariant-loop-a : goal.invariant-loop-a
invariant-loop-a l = first_refusal (check_child l.new) (filter (orphan l.new) (drop l.a-index l.locks)) ≡ first_refusal (check_child l.new) (filter (orphan l.new) l.locks)
