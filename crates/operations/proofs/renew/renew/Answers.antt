use mathlib.Core.Path.{◌≡◌, sym, ◌∙◌}
use native.Mathlib.Omega.{arith}
use borrow.Author.Rules.{rules}
use lib.ListN.{length}
use Rattle.lists.proofs.Loops.{length_of_mapped}
use Rattle.rules.proofs.Sound.{tidy_of_sound}
use Rattle.operations.specs.Answers.{rule_of}
use Rattle.operations.specs.Renew.{extend_at, renew_on}
use Rattle.operations.proofs.Going.{placed_count}
use Rattle.operations.proofs.Inserting.{active_placed}
use Rattle.operations.proofs.Adopting.{taken}
use Rattle.operations.proofs.Closing.{on_unsound}
use Rattle.operations.proofs.Renewing as laws
use Rattle.operations.proofs.renew.renew.Goals as goal

pub returns-in-Err : goal.returns-in-Err
unfolding renew_on
returns-in-Err c = rw c.from.ensures (on_unsound _ _ _ _ _ c.broken.ensures c.in-Err.is)

pub slice_bounds-locks-end : goal.slice_bounds-locks-end
slice_bounds-locks-end c =
    let k = tidy_of_sound c.args.s (search (rules, length_of_mapped)) (search (rules, length_of_mapped)) (sym c.broken.ensures ∙ c.in-Ok.is) in
    let e : length c.args.s.active ≡ 64 = search (rules, length_of_mapped) in
    omega (arith, k.active)

pub slice_bounds-allowed-end : goal.slice_bounds-allowed-end
slice_bounds-allowed-end c = sym (placed_count _ _ (active_placed c.args.s (tidy_of_sound c.args.s (search (rules, length_of_mapped)) (search (rules, length_of_mapped)) (sym c.broken.ensures ∙ c.in-Ok.is))))

pub slice_bounds-locks-end-then-is_ok : goal.slice_bounds-locks-end-then-is_ok
slice_bounds-locks-end-then-is_ok c =
    let k = tidy_of_sound c.args.s (search (rules, length_of_mapped)) (search (rules, length_of_mapped)) (sym c.broken.ensures ∙ c.in-Ok.is) in
    let e : length c.args.s.active ≡ 64 = search (rules, length_of_mapped) in
    omega (arith, k.active)

pub slice_bounds-extend_in-end : goal.slice_bounds-extend_in-end
slice_bounds-extend_in-end c = sym (placed_count _ _ (active_placed c.args.s (tidy_of_sound c.args.s (search (rules, length_of_mapped)) (search (rules, length_of_mapped)) (sym c.broken.ensures ∙ c.in-Ok.is))))

pub overflow_add-s : goal.overflow_add-s
overflow_add-s c =
    let a = c.args in
    let g = laws.tested a.s a.id a.expires a.now _ c.broken.ensures c.in-Ok.is _ c.allowed-told.ensures in
    let k = (laws.allowed a.s a.id a.expires a.now a.given a.metadata _ g (sym c.is_ok.ensures.value ∙ c.if-is_ok.true)).1 in
    omega arith

pub returns-then-is_ok : goal.returns-then-is_ok
returns-then-is_ok c =
    let a = c.args in
    let g = laws.tested a.s a.id a.expires a.now _ c.broken.ensures c.in-Ok.is _ c.allowed-told.ensures in
    let k = tidy_of_sound a.s (search (rules, length_of_mapped)) (search (rules, length_of_mapped)) (sym c.broken.ensures ∙ c.in-Ok.is) in
    laws.done a.s a.id a.expires a.now a.given a.metadata _ g (sym c.is_ok.ensures.value ∙ c.if-is_ok.true) k _ (taken (extend_at a.id a.expires a.given a.metadata) a.s.active a.s.actives (active_placed a.s k) _ c.extend_in.ensures)

pub returns-else-is_ok : goal.returns-else-is_ok
returns-else-is_ok c =
    let a = c.args in
    laws.refused _ _ _ _ _ _ _ (laws.tested a.s a.id a.expires a.now _ c.broken.ensures c.in-Ok.is _ c.allowed-told.ensures) (sym c.is_ok.ensures.value ∙ c.if-is_ok.false)
