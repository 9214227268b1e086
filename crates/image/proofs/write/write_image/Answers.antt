use mathlib.Core.Path.{sym, ◌∙◌}
use native.Mathlib.Omega.{arith}
use Rattle.lists.proofs.Loops.{length_of_mapped}
use Rattle.state.specs.Model.{Tidy}
use Rattle.rules.proofs.Sound.{tidy_of_sound}
use Rattle.image.proofs.Writes.{unsound, short, whole}
use borrow.Author.Rules.{rules}
use Rattle.std.proofs.lemmas.Result.{err_from_is_err_and}
use Rattle.image.proofs.write.write_image.Goals as goal
use Rattle.image.proofs.write.write_image.Goals.{In_ok-broken}

-- a sound state is tidy
tidied : (c : In_ok-broken) → Tidy c.args.spare.state
tidied c = tidy_of_sound c.args.spare.state (search (rules, length_of_mapped)) (search (rules, length_of_mapped)) (sym c.broken.ensures ∙ c.in_ok-broken.was)

pub returns-in_err-broken : goal.returns-in_err-broken
returns-in_err-broken c =
    let p = err_from_is_err_and c.from_residual.result c.from_residual.ensures.1 in
    rw (p.1, p.2) (unsound c.args.spare c.args.out.now c.broken.result c.broken.ensures _ c.in_err-broken.was)

pub overflow_mul-needed : goal.overflow_mul-needed
overflow_mul-needed c = omega (arith, (tidied (goal.at.overflow_mul-needed c).In_ok-broken).active, (tidied (goal.at.overflow_mul-needed c).In_ok-broken).defunct)

pub overflow_add-needed : goal.overflow_add-needed
overflow_add-needed c = omega (arith, (tidied (goal.at.overflow_add-needed c).In_ok-broken).active, (tidied (goal.at.overflow_add-needed c).In_ok-broken).defunct)

pub overflow_mul-needed-2 : goal.overflow_mul-needed-2
overflow_mul-needed-2 c = omega (arith, (tidied (goal.at.overflow_mul-needed-2 c).In_ok-broken).active, (tidied (goal.at.overflow_mul-needed-2 c).In_ok-broken).defunct)

pub overflow_add-needed-2 : goal.overflow_add-needed-2
overflow_add-needed-2 c = omega (arith, (tidied (goal.at.overflow_add-needed-2 c).In_ok-broken).active, (tidied (goal.at.overflow_add-needed-2 c).In_ok-broken).defunct)

pub returns-then-out-needed : goal.returns-then-out-needed
returns-then-out-needed c = short c.args.spare c.args.out.now c.broken.result c.broken.ensures c.in_ok-broken.was (tidied (goal.at.returns-then-out-needed c).In_ok-broken) c.if-out-needed.true

pub returns : goal.returns
returns c = whole c.args.spare c.args.out.now c.broken.result c.broken.ensures c.in_ok-broken.was (tidied (goal.at.returns c).In_ok-broken) c.if-out-needed.false _ c.store_image.ensures
