use mathlib.Core.Path.{◌≡◌, sym, ap, ◌∙◌}
use native.Mathlib.Omega.{arith}
use lib.ListN.{length, length-take}
use Rattle.std.proofs.lemmas.Grind.{common_steps}
use Rattle.state.specs.Model.{model_of, full}
use Rattle.operations.specs.Answers.{is_done, and_then}
use Rattle.operations.specs.Checks.{check_room}
use Rattle.operations.specs.Insert.{inserted_in}
use Rattle.operations.specs.Code.{judge_bundled}
use Rattle.operations.proofs.Inserting.{room_judged}
use Rattle.operations.proofs.insert.judged.Goals as goal

pub returns : goal.returns
unfolding judge_bundled and_then is_done
returns c =
    let s = c.args.s.now in
    let k : length (model_of s).active ≡ length c.active_locks-locks.result.now = ap length (sym c.active_locks-locks.ensures) in
    let e : c.check_room.result ≡ check_room full (inserted_in (model_of s) c.args.new) = c.check_room.ensures ∙ room_judged (model_of s) c.args.new _ k (omega (arith, k, length-take s.actives s.active)) (omega (arith, length-take s.defuncts s.defunct)) in
    grind (arith, common_steps)
