use mathlib.Core.Path.{◌≡◌, ap, ◌∙◌}
use native.Mathlib.Omega.{arith}
use Prim.Native.Nat.{ℕ}
use lib.ListN.{length, get_or, length-set}
use Rattle.lists.proofs.Places.{fill_more_of}
use Rattle.ids.specs.Order.{key}
use Rattle.state.specs.Locks.{blank_defunct}
use Rattle.rules.specs.Rules.{find_d}
use Rattle.operations.specs.declared.defuncts.Gone.{Gone}
use Rattle.operations.specs.Code.{entry_at}
use Rattle.operations.proofs.Landing.{gone_at, gone_count, sought}
use Rattle.operations.proofs.defuncts.steps.Goals as goal

pub loop-i-preserved : goal.loop-i-preserved
loop-i-preserved c =
    let l = c.loop-i in
    let gone = c.args.gone.now in (
      simp length-set l.invariant.0,
      λ t e o.
          fill_more_of (λ j v. entry_at t v ≡ find_d t (key (get_or t j blank_defunct).target)) l.out l.i c.unwrap_or.result 0 (omega arith)
          (sought t gone e o _ _ c.place.ensures _ c.unwrap_or.ensures ∙ ap (λ (g : Gone). find_d t (key g.target)) (gone_at t gone e l.i _ c.loop-i-test.true))
          (l.invariant.1 t e o),
    )
