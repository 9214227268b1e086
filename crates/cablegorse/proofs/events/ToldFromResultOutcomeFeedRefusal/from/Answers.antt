use native.Mathlib.Omega.{arith}
use mathlib.Core.Path.{◌∙◌}
use Rattle.feed.specs.Feed.{event_paper}
use Rattle.cablegorse.proofs.Small.{small_event, event_told}
use Rattle.cablegorse.proofs.events.ToldFromResultOutcomeFeedRefusal.from.Goals as goal

pub overflow_cast-n : goal.overflow_cast-n
overflow_cast-n c = omega (arith, small_event c.args.e, c.number-n.ensures)

pub returns-in-Err : goal.returns-in-Err
returns-in-Err c = c.of_refusal.ensures ∙ event_told _ _ c.in-Err.is _ c.number-n.ensures

pub returns-in-Ok : goal.returns-in-Ok
unfolding event_paper
returns-in-Ok c = c.of_outcome.ensures ∙ event_told _ _ c.in-Ok.is _ c.number-n.ensures
