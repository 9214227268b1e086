use mathlib.Core.Path.{sym, ◌∙◌}
use Rattle.std.specs.Prelude.{Some, None}
use native.Mathlib.Omega.{arith}
use Rattle.records.proofs.Codecs.{is_short, is_good, is_wrong}
use Rattle.records.proofs.body.decode.Goals as goal

pub returns-then-s-SIZE : goal.returns-then-s-SIZE
returns-then-s-SIZE g c = is_short g.B.Body.codec Some None c.args.s.now (λ e. c.if-s-SIZE.true (omega (arith, e, c.SIZE.ensures, g.met.B.Body.sized)))

pub returns-then-right : goal.returns-then-right
returns-then-right g c = is_good g.B.Body.codec Some None c.args.s.now _ (omega (arith, c.if-s-SIZE.false, c.SIZE.ensures, g.met.B.Body.sized)) (sym c.right.ensures ∙ c.if-right.true) c.made.ensures

pub returns : goal.returns
returns g c = is_wrong g.B.Body.codec Some None c.args.s.now (omega (arith, c.if-s-SIZE.false, c.SIZE.ensures, g.met.B.Body.sized)) (sym c.right.ensures ∙ c.if-right.false)
