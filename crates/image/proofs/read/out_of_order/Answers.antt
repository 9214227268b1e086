use mathlib.Core.Path.{sym, ap, ◌∙◌}
use mathlib.Core.Bool.{Bool}
use Rattle.image.specs.Code.{out_of_order}
use Rattle.image.proofs.Running.{strict_told, loose_told}
use Rattle.image.proofs.read.out_of_order.Goals as goal

pub returns-then-strict : goal.returns-then-strict
returns-then-strict c = let a = c.args in strict_told a.last a.id _ c.less.ensures ∙ ap (λ (x : Bool). out_of_order x a.last a.id) (sym c.if-strict.true)

pub returns : goal.returns
returns c = let a = c.args in loose_told a.last a.id _ c.less-2.ensures ∙ ap (λ (x : Bool). out_of_order x a.last a.id) (sym c.if-strict.false)
