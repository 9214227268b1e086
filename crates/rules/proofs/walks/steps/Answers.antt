use mathlib.Core.Path.{◌∙◌}
use native.Mathlib.Omega.{arith}
use lib.ListN.{length, get_or, length-set}
use Rattle.lists.proofs.Places.{fill_more_of}
use Rattle.ids.specs.Order.{key}
use Rattle.state.specs.Locks.{blank_defunct}
use Rattle.rules.specs.Code.{entry_key, Sought}
use Rattle.rules.proofs.Rings.{sought_of}
use Rattle.rules.proofs.walks.steps.Goals as goal

pub loop-i-preserved : goal.loop-i-preserved
unfolding blank_defunct
loop-i-preserved c =
    let l = c.args.places.now.entries.now in (
      length-set c.loop-i.out c.loop-i.i c.unwrap_or.result ∙ c.loop-i.invariant.0,
      fill_more_of (λ j r. Sought (entry_key l) (length l) (key (get_or l j blank_defunct).target) r) c.loop-i.out c.loop-i.i c.unwrap_or.result 0 (omega (arith, c.loop-i.invariant.0, c.args.places.now.few))
          (sought_of l _ c.find.result c.unwrap_or.result c.find.ensures c.unwrap_or.ensures) c.loop-i.invariant.1,
    )
