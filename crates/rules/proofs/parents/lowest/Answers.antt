use mathlib.Core.Path.{◌≡◌, sym, ap, ◌∙◌}
use mathlib.Core.Bool.{true}
use mathlib.Core.List.{List}
use Rattle.std.specs.Prelude.{Option, Some}
use Rattle.std.specs.List.{list_all}
use Rattle.state.specs.declared.ActiveLock.{ActiveLock}
use Rattle.rules.specs.declared.Unsound.TheVariants.{Rule}
use Rattle.rules.specs.Code.{child_under, lowest_past_4, lowest_parent}
use Rattle.rules.proofs.parents.lowest.Goals as goal

-- rules 3 and 4 hold
past : (l : List ActiveLock) (o p : Option ActiveLock) → o ≡ p → list_all (child_under o) l ≡ true → lowest_parent l o ≡ lowest_past_4 l p
unfolding lowest_parent
past l o p e u = rw u (ap (lowest_past_4 l) e)

pub returns-then-active : goal.returns-then-active
unfolding lowest_parent
returns-then-active c =
    let u = sym c.under.ensures ∙ c.if-not-under.true in
    let t = sym c.active.ensures ∙ c.if-active.true in
    rw (u, t)

pub returns-else-active : goal.returns-else-active
unfolding lowest_parent
returns-else-active c =
    let u = sym c.under.ensures ∙ c.if-not-under.true in
    let t = sym c.active.ensures ∙ c.if-active.false in
    rw (u, t)

pub returns-in_default : goal.returns-in_default
returns-in_default c = ap Rule (sym (past c.args.active.now c.args.vehicle _ c.in_default.is (sym c.under.ensures ∙ c.if-not-under.false)))

pub returns-then-not-owned : goal.returns-then-not-owned
returns-then-not-owned c =
    let t = sym c.owned.ensures ∙ c.if-not-owned.true in
    ap Rule (sym (past c.args.active.now c.args.vehicle (Some c.in-Some.v) c.in-Some.is (sym c.under.ensures ∙ c.if-not-under.false) ∙ rw t))

pub returns-then-not-inside : goal.returns-then-not-inside
returns-then-not-inside c =
    let t = sym c.owned.ensures ∙ c.if-not-owned.false in
    let v = sym c.inside.ensures ∙ c.if-not-inside.true in
    ap Rule (sym (past c.args.active.now c.args.vehicle (Some c.in-Some.v) c.in-Some.is (sym c.under.ensures ∙ c.if-not-under.false) ∙ rw (t, v)))

pub returns : goal.returns
returns c =
    let t = sym c.owned.ensures ∙ c.if-not-owned.false in
    let v = sym c.inside.ensures ∙ c.if-not-inside.false in
    ap Rule (sym (past c.args.active.now c.args.vehicle (Some c.in-Some.v) c.in-Some.is (sym c.under.ensures ∙ c.if-not-under.false) ∙ rw (t, v)))
