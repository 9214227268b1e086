use Rattle.std.proofs.Common.{◌≡◌, ℕ, ◌≤◌, Ok, Err, length, take, drop, sym, ap, ◌∙◌, rules, arith}
use Rattle.std.proofs.lemmas.Result.{err_from_is_err_and}
use Rattle.state.specs.Locks.{blank_active, blank_defunct}
use Rattle.image.specs.declared.Spare.{Spare}
use Rattle.image.specs.Image.{active_list, defunct_list, run_at, spare_of}
use Rattle.image.specs.Code.{on_ok}
use Rattle.image.proofs.Halves.{head_counts, head_stops, active_stops, defunct_stops, extra, all_read, part_size, part_put, run_length}
use Rattle.image.proofs.read.lists_from.Goals as goal
use Rattle.image.proofs.read.lists_from.Goals.{In_ok-head, In_ok-second, In_ok-end}

counts : (c : In_ok-head) → (c.in_ok-head.head.actives ≤ 64) × (c.in_ok-head.head.defuncts ≤ 128)
counts c = head_counts c.args.image.now 0 _ c.in_ok-head.head (sym c.record_from.ensures ∙ c.in_ok-head.was)

-- as many places as records are lent
actives_lent : (c : In_ok-head) → length (take c.in_ok-head.head.actives (drop 0 c.args.spare.now.state.active)) ≡ c.in_ok-head.head.actives
actives_lent c = part_size c.in_ok-head.head.actives 64 blank_active c.args.spare.now.state.active (ap (λ (x : Spare). x.state.active) c.requires) (counts c).0

defuncts_lent : (c : In_ok-head) → length (take c.in_ok-head.head.defuncts (drop 0 c.args.spare.now.state.defunct)) ≡ c.in_ok-head.head.defuncts
defuncts_lent c = part_size c.in_ok-head.head.defuncts 128 blank_defunct c.args.spare.now.state.defunct (ap (λ (x : Spare). x.state.defunct) c.requires) (counts c).1

-- each list as it was read
actives_read : (c : In_ok-second) → run_at active_list c.args.strict c.args.image.now c.in_ok-head.head.actives 0 c.in_ok-head.first ≡ Ok (c.run_from.new.places, c.in_ok-second.second)
actives_read c = ap (λ (n : ℕ). run_at active_list c.args.strict c.args.image.now n 0 c.in_ok-head.first) (sym (actives_lent (goal.at.In_ok-second c).In_ok-head)) ∙ sym c.in_ok-second.ensures

defuncts_read : (c : In_ok-end) → run_at defunct_list c.args.strict c.args.image.now c.in_ok-head.head.defuncts 0 c.in_ok-second.second ≡ Ok (c.run_from-2.new.places, c.in_ok-end.end)
defuncts_read c = ap (λ (n : ℕ). run_at defunct_list c.args.strict c.args.image.now n 0 c.in_ok-second.second) (sym (defuncts_lent (goal.at.In_ok-end c).In_ok-head)) ∙ sym c.in_ok-end.ensures

pub returns-in_err-head : goal.returns-in_err-head
returns-in_err-head c =
    let p = err_from_is_err_and c.from_residual.result c.from_residual.ensures.1 in
    rw (p.1, p.2) (ap (on_ok (λ g. spare_of g.0)) (sym (head_stops c.args.strict _ _ (sym c.record_from.ensures ∙ c.in_err-head.was))))

pub slice_bounds-run_from-end : goal.slice_bounds-run_from-end
slice_bounds-run_from-end c = (counts (goal.at.slice_bounds-run_from-end c).In_ok-head).0

pub returns-in_err-second : goal.returns-in_err-second
returns-in_err-second c =
    let p = err_from_is_err_and c.from_residual-in_err-second.result c.from_residual-in_err-second.ensures.1 in
    let w = goal.at.returns-in_err-second c in
    rw (p.1, p.2) (ap (on_ok (λ g. spare_of g.0)) (sym (active_stops c.args.strict _ _ _ (sym c.record_from.ensures ∙ c.in_ok-head.was) _
    (ap (λ (n : ℕ). run_at active_list c.args.strict c.args.image.now n 0 c.in_ok-head.first) (sym (actives_lent w.In_ok-head)) ∙ sym c.in_err-second.ensures))))

pub slice_bounds-run_from-end-3 : goal.slice_bounds-run_from-end-3
slice_bounds-run_from-end-3 c = (counts (goal.at.slice_bounds-run_from-end-3 c).In_ok-head).1

pub returns-in_err-end : goal.returns-in_err-end
returns-in_err-end c =
    let p = err_from_is_err_and c.from_residual-in_err-end.result c.from_residual-in_err-end.ensures.1 in
    let w = goal.at.returns-in_err-end c in
    rw (p.1, p.2) (ap (on_ok (λ g. spare_of g.0)) (sym (defunct_stops c.args.strict _ _ _ (sym c.record_from.ensures ∙ c.in_ok-head.was) _ _ (actives_read w.In_ok-second) _
    (ap (λ (n : ℕ). run_at defunct_list c.args.strict c.args.image.now n 0 c.in_ok-second.second) (sym (defuncts_lent w.In_ok-head)) ∙ sym c.in_err-end.ensures))))

pub returns-then-end-image : goal.returns-then-end-image
returns-then-end-image c =
    let w = goal.at.returns-then-end-image c in
    ap (on_ok (λ g. spare_of g.0)) (sym (extra c.args.strict _ _ _ (sym c.record_from.ensures ∙ c.in_ok-head.was) _ _ (actives_read w.In_ok-second) _ _ (defuncts_read w.In_ok-end) c.if-end-image.true))

pub returns : goal.returns
returns c =
    let w = goal.at.returns c in
    let a = actives_read w.In_ok-second in
    let d = defuncts_read w.In_ok-end in
    all_read c.args.strict _ _ _ (sym c.record_from.ensures ∙ c.in_ok-head.was) _ _ a _ _ d (omega arith) _ _
    (part_put c.in_ok-head.head.actives 64 blank_active c.args.spare.now.state.active c.run_from.new.places (ap (λ (x : Spare). x.state.active) c.requires) (run_length active_list c.args.strict _ _ 0 _ _ _ a))
    (part_put c.in_ok-head.head.defuncts 128 blank_defunct c.args.spare.now.state.defunct c.run_from-2.new.places (ap (λ (x : Spare). x.state.defunct) c.requires) (run_length defunct_list c.args.strict _ _ 0 _ _ _ d))
