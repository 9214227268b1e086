use mathlib.Core.Path.{sym, ap, ◌∙◌}
use Rattle.lists.proofs.Tests.{and_l, and_r, and_no, and_code}
use Rattle.coverage.specs.Coverage.{lowest_in}
use Rattle.coverage.proofs.Shared.{spot_wholes, spot_set, spot_sym, spot_both}
use Rattle.coverage.proofs.spot_of.Goals as goal

pub returns-then-a-b : goal.returns-then-a-b
returns-then-a-b c = let o = c.args in
    let t = sym (and_code o.a.whole o.b.whole) ∙ c.if-a-b.true in
    sym (spot_wholes o.a o.b (and_l _ _ t) (and_r _ _ t))

pub returns-then-a : goal.returns-then-a
returns-then-a c = let o = c.args in
    let n = sym (and_code o.a.whole o.b.whole) ∙ c.if-a-b.false in
    c.lowest_in.ensures ∙ sym (spot_set o.a o.b c.if-a.true (and_no _ _ n c.if-a.true))

pub returns-then-b : goal.returns-then-b
returns-then-b c = let o = c.args in
    c.lowest_in-then-b.ensures ∙ sym (spot_sym o.a o.b ∙ spot_set o.b o.a c.if-b.true c.if-a.false)

pub returns : goal.returns
returns c = let o = c.args in
    c.lowest_in-2.ensures ∙ ap lowest_in c.in_both.ensures ∙ spot_both o.a o.b c.if-a.false c.if-b.false
