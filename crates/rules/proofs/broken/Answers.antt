use mathlib.Core.Path.{◌≡◌, sym, ap, ◌∙◌, subst}
use borrow.Author.Rules.{rules}
use mathlib.Core.Bool.{true}
use mathlib.Core.List.{List}
use Rattle.std.specs.Prelude.{is_none, position}
use Rattle.std.specs.List.{list_all}
use Rattle.state.specs.declared.DefunctLock.{DefunctLock}
use Rattle.state.specs.Locks.{akey, dkey, blank_defunct}
use Rattle.rules.specs.Code.{keyed, entry_key, Sought, LeadsOut}
use Rattle.rules.proofs.Rings.{one_law, ring_law}
use Prim.Native.Nat.{ℕ, ◌<◌}
use native.Mathlib.Omega.{arith}
use lib.ListN.{length, get_or, take}
use lib.Seq.{get_or-take, length-take-le}
use Rattle.lists.proofs.Loops.{length_of_mapped}
use Rattle.ids.specs.Order.{key}
use Rattle.state.specs.Model.{model_of}
use Rattle.rules.specs.Rules.{is_blank_a, is_blank_d, blanks, rule1, rule9}
use Rattle.rules.proofs.Keys.{rest_all}
use Rattle.rules.proofs.Lowest.{many_active, many_defunct, dirty_active, dirty_defunct, all_blank, untidy_active, unordered_active, alone_told, untidy_defunct, unordered_defunct, both_lists, told, ringed, all_sound}
use Rattle.rules.proofs.broken.Goals as goal
use Rattle.rules.proofs.broken.Goals.{After-apart, Else-not-apart, Else-not-blank-2, After-leads_out}

-- past the tests of unused places
blank : (c : Else-not-blank-2) → blanks c.args.s ≡ true
blank c = all_blank c.args.s c.if-n-gt-ACTIVE.false c.if-m-gt-DEFUNCT.false c.blank.result (c.blank.ensures ∙ rest_all is_blank_a c.args.s.active c.args.s.actives) c.if-not-blank.false c.blank-2.result (c.blank-2.ensures ∙ rest_all is_blank_d c.args.s.defunct c.args.s.defuncts) c.if-not-blank-2.false

pub returns-then-n-gt-ACTIVE : goal.returns-then-n-gt-ACTIVE
returns-then-n-gt-ACTIVE c = many_active c.args.s c.if-n-gt-ACTIVE.true

pub returns-then-m-gt-DEFUNCT : goal.returns-then-m-gt-DEFUNCT
returns-then-m-gt-DEFUNCT c = many_defunct c.args.s c.if-n-gt-ACTIVE.false c.if-m-gt-DEFUNCT.true

pub returns-then-not-blank : goal.returns-then-not-blank
returns-then-not-blank c = dirty_active c.args.s c.if-n-gt-ACTIVE.false c.if-m-gt-DEFUNCT.false c.blank.result (c.blank.ensures ∙ rest_all is_blank_a c.args.s.active c.args.s.actives) c.if-not-blank.true

pub returns-then-not-blank-2 : goal.returns-then-not-blank-2
returns-then-not-blank-2 c = dirty_defunct c.args.s c.if-n-gt-ACTIVE.false c.if-m-gt-DEFUNCT.false c.blank.result (c.blank.ensures ∙ rest_all is_blank_a c.args.s.active c.args.s.actives) c.if-not-blank.false c.blank-2.result (c.blank-2.ensures ∙ rest_all is_blank_d c.args.s.defunct c.args.s.defuncts) c.if-not-blank-2.true

pub returns-then-not-neat : goal.returns-then-not-neat
returns-then-not-neat c =
    untidy_active c.args.s c.if-n-gt-ACTIVE.false c.if-m-gt-DEFUNCT.false (blank (goal.at.returns-then-not-neat c).Else-not-blank-2) c.neat.result c.neat.ensures c.if-not-neat.true

pub returns-then-not-rising : goal.returns-then-not-rising
returns-then-not-rising c =
    unordered_active c.args.s c.if-n-gt-ACTIVE.false c.if-m-gt-DEFUNCT.false (blank (goal.at.returns-then-not-rising c).Else-not-blank-2) c.neat.result c.neat.ensures c.if-not-neat.false
    c.rising.result c.rising.ensures c.if-not-rising.true

pub returns-then-m-eq0 : goal.returns-then-m-eq0
returns-then-m-eq0 c =
    alone_told c.args.s c.if-n-gt-ACTIVE.false c.if-m-gt-DEFUNCT.false (blank (goal.at.returns-then-m-eq0 c).Else-not-blank-2) c.neat.result c.neat.ensures c.if-not-neat.false
    c.rising.result c.rising.ensures c.if-not-rising.false c.lowest-told.result c.lowest-told.ensures c.if-m-eq0.true

pub returns-then-not-neat-2 : goal.returns-then-not-neat-2
returns-then-not-neat-2 c =
    untidy_defunct c.args.s c.if-n-gt-ACTIVE.false c.if-m-gt-DEFUNCT.false (blank (goal.at.returns-then-not-neat-2 c).Else-not-blank-2) c.neat.result c.neat.ensures c.if-not-neat.false
    c.rising.result c.rising.ensures c.if-not-rising.false c.lowest-told.result c.lowest-told.ensures c.neat-2.result c.neat-2.ensures c.if-not-neat-2.true

pub returns-then-not-rising-2 : goal.returns-then-not-rising-2
returns-then-not-rising-2 c =
    unordered_defunct c.args.s c.if-n-gt-ACTIVE.false c.if-m-gt-DEFUNCT.false (blank (goal.at.returns-then-not-rising-2 c).Else-not-blank-2) c.neat.result c.neat.ensures c.if-not-neat.false
    c.rising.result c.rising.ensures c.if-not-rising.false c.lowest-told.result c.lowest-told.ensures c.neat-2.result c.neat-2.ensures c.if-not-neat-2.false c.rising-2.result c.rising-2.ensures c.if-not-rising-2.true

-- the lists that the places are of
entries : (c : After-apart) → c.of-places.result.entries.now ≡ take c.args.s.defuncts c.args.s.defunct
entries c = c.of-places.ensures

one : (c : After-apart) → c.apart.result ≡ rule1 (model_of c.args.s)
one c = c.apart.ensures ∙ ap (λ (l : List DefunctLock). list_all (λ a. is_none (position (keyed dkey (akey a)) l)) (take c.args.s.actives c.args.s.active)) (entries c) ∙ sym (one_law (model_of c.args.s))

pub returns-then-not-apart : goal.returns-then-not-apart
returns-then-not-apart c =
    both_lists c.args.s c.if-n-gt-ACTIVE.false c.if-m-gt-DEFUNCT.false (blank (goal.at.returns-then-not-apart c).Else-not-blank-2) c.neat.result c.neat.ensures c.if-not-neat.false
    c.rising.result c.rising.ensures c.if-not-rising.false c.lowest-told.result c.lowest-told.ensures c.neat-2.result c.neat-2.ensures c.if-not-neat-2.false c.rising-2.result c.rising-2.ensures c.if-not-rising-2.false
    c.apart.result (one (goal.at.returns-then-not-apart c).After-apart) c.if-not-apart.true

pub returns-in_err-told : goal.returns-in_err-told
returns-in_err-told c =
    let e : c.from_residual.result ≡ c.lowest-told.result = search rules in
    e ∙ told c.args.s c.if-n-gt-ACTIVE.false c.if-m-gt-DEFUNCT.false (blank (goal.at.returns-in_err-told c).Else-not-blank-2) c.neat.result c.neat.ensures c.if-not-neat.false
    c.rising.result c.rising.ensures c.if-not-rising.false c.lowest-told.result c.lowest-told.ensures c.neat-2.result c.neat-2.ensures c.if-not-neat-2.false c.rising-2.result c.rising-2.ensures c.if-not-rising-2.false
    c.apart.result (one (goal.at.returns-in_err-told c).After-apart) c.if-not-apart.false _ c.in_err-told.was

-- rule 9, by the steps from place to place
nine : (c : After-leads_out) → c.leads_out.result ≡ rule9 (model_of c.args.s)
nine c =
    let w = c.steps-next.ensures in
    let d : length c.args.s.defunct ≡ 128 = search (rules, length_of_mapped) in
    let m : length (take c.args.s.defuncts c.args.s.defunct) ≡ c.args.s.defuncts = length-take-le c.args.s.defuncts c.args.s.defunct (omega (arith, d, c.if-m-gt-DEFUNCT.false)) in
    let n : length (take c.args.s.defuncts c.steps-next.result) ≡ c.args.s.defuncts = length-take-le c.args.s.defuncts c.steps-next.result (omega (arith, w.0, c.if-m-gt-DEFUNCT.false)) in
    ring_law (model_of c.args.s) (take c.args.s.defuncts c.steps-next.result) (sym c.rising-2.ensures ∙ c.if-not-rising-2.false)
    (λ i h. subst (Sought (entry_key (take c.args.s.defuncts c.args.s.defunct)) (length (take c.args.s.defuncts c.args.s.defunct)) (key (get_or (take c.args.s.defuncts c.args.s.defunct) i blank_defunct).target))
    (sym (get_or-take c.args.s.defuncts c.steps-next.result i 0 (omega (arith, m))))
    (subst (λ (l : List DefunctLock). (i : ℕ) → i < length l → Sought (entry_key l) (length l) (key (get_or l i blank_defunct).target) (get_or c.steps-next.result i 0)) (entries (goal.at.After-leads_out c).After-apart) w.1 i h))
    c.leads_out.result
    (subst (λ (n : ℕ). LeadsOut (take c.args.s.defuncts c.steps-next.result) n c.leads_out.result) (n ∙ sym m) c.leads_out.ensures)

pub returns-then-not-leads_out : goal.returns-then-not-leads_out
returns-then-not-leads_out c =
    ringed c.args.s c.if-n-gt-ACTIVE.false c.if-m-gt-DEFUNCT.false (blank (goal.at.returns-then-not-leads_out c).Else-not-blank-2) c.neat.result c.neat.ensures c.if-not-neat.false
    c.rising.result c.rising.ensures c.if-not-rising.false c.lowest-told.result c.lowest-told.ensures c.neat-2.result c.neat-2.ensures c.if-not-neat-2.false c.rising-2.result c.rising-2.ensures c.if-not-rising-2.false
    c.apart.result (one (goal.at.returns-then-not-leads_out c).After-apart) c.if-not-apart.false c.in_ok-told.was c.leads_out.result (nine (goal.at.returns-then-not-leads_out c).After-leads_out) c.if-not-leads_out.true

pub returns : goal.returns
returns c =
    all_sound c.args.s c.if-n-gt-ACTIVE.false c.if-m-gt-DEFUNCT.false (blank (goal.at.returns c).Else-not-blank-2) c.neat.result c.neat.ensures c.if-not-neat.false
    c.rising.result c.rising.ensures c.if-not-rising.false c.lowest-told.result c.lowest-told.ensures c.neat-2.result c.neat-2.ensures c.if-not-neat-2.false c.rising-2.result c.rising-2.ensures c.if-not-rising-2.false
    c.apart.result (one (goal.at.returns c).After-apart) c.if-not-apart.false c.in_ok-told.was c.leads_out.result (nine (goal.at.returns c).After-leads_out) c.if-not-leads_out.false
