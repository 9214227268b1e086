use mathlib.Core.Path.{◌≡◌}
use lib.ListN.{drop}
use Rattle.lists.specs.Lists.{filter}
use Rattle.operations.specs.Answers.{first_refusal}
use Rattle.operations.specs.Checks.{check_child}
use Rattle.operations.specs.Trees.{is_listed}
use Rattle.operations.proofs.checks.check_taken.Given as goal

abbrev pub invariant-loop-a : goal.invariant-loop-a
invariant-loop-a l = first_refusal (check_child l.new) (filter (is_listed l.list) (drop l.a-index l.locks)) ≡ first_refusal (check_child l.new) (filter (is_listed l.list) l.locks)
