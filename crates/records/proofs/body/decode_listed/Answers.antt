use mathlib.Core.Path.{◌≡◌, ◌∙◌}
use Prim.Native.Nat.{◌+◌}
use native.Mathlib.Omega.{arith}
use borrow.Author.Rules.{rules}
use Rattle.records.specs.Layouts.{total}
use Rattle.records.specs.Feeds.{numbered}
use Rattle.records.proofs.Reading.{list_short, list_wrong, list_by}
use Rattle.records.proofs.body.decode_listed.Goals as goal
use Rattle.records.proofs.body.decode_listed.Goals.{After-SIZE-end}

pub overflow_add-end : goal.overflow_add-end
overflow_add-end g c = let h = g.met.B.Body.small in search (rules, c.SIZE-end.ensures)

pub overflow_add-end-2 : goal.overflow_add-end-2
overflow_add-end-2 g c = let h = g.met.B.Body.small in search (rules, c.SIZE-end.ensures)

-- where the count stands
end : (g : _) (c : After-SIZE-end g) → 4 + c.SIZE-end.result ≡ total (numbered g.B.Body.codec).layout
end g c = omega (arith, c.SIZE-end.ensures, g.met.B.Body.sized)

pub returns-then-s-end : goal.returns-then-s-end
returns-then-s-end g c = list_short (numbered g.B.Body.codec) c.args.s.now _ (end g (goal.at.returns-then-s-end g c).After-SIZE-end) c.if-s-end.true

pub returns-then-s-end-2 : goal.returns-then-s-end-2
returns-then-s-end-2 g c = list_wrong (numbered g.B.Body.codec) c.args.s.now _ (end g (goal.at.returns-then-s-end-2 g c).After-SIZE-end) _ c.u16_at-ids.ensures c.if-s-end.false c.if-s-end-2.true

pub returns : goal.returns
returns g c = c.decode_numbered.ensures ∙ list_by (numbered g.B.Body.codec) c.args.s.now _ (end g (goal.at.returns g c).After-SIZE-end) _ c.u16_at-ids.ensures c.if-s-end.false c.if-s-end-2.false
