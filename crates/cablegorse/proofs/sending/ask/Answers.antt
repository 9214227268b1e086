use mathlib.Core.Path.{refl, sym, ◌∙◌}
use Rattle.cablegorse.proofs.Own.{asked_done, asked_refused}
use Rattle.cablegorse.proofs.sending.ask.Goals as goal

pub own-requires : goal.own-requires
own-requires c = sym c.in-Ok.ensures

pub returns-in-Ok : goal.returns-in-Ok
returns-in-Ok c = let a = c.args in c.own.ensures ∙ asked_done a.spare a.request a.list.now a.next.now a.removed.now a.expired.now a.sent.now _ c.in-Ok.ensures _ refl

pub returns-in-Err : goal.returns-in-Err
returns-in-Err c = let a = c.args in asked_refused a.spare a.request a.list.now a.next.now a.removed.now a.expired.now a.sent.now _ c.in-Err.ensures _ refl refl _ refl _ c.from.ensures _ c.refused.ensures
