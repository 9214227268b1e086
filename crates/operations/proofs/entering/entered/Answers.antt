use mathlib.Core.Path.{◌≡◌, refl, sym, ap, ◌∙◌}
use mathlib.Core.List.{List, map}
use Prim.Native.Nat.{ℕ, ◌≤◌, ◌<◌, ◌+◌, ◌-◌}
use native.Mathlib.Omega.{arith}
use borrow.Author.Rules.{rules}
use lib.ListN.{length, get_or, set, take, replicate, length-take, length-set}
use Rattle.lists.specs.Places.{in_places}
use Rattle.lists.proofs.Loops.{length_of_mapped, length_more, copy_same}
use Rattle.lists.proofs.Shifts.{pass_stop, pass_next, pass_end, up_start, up_step, up_end}
use Rattle.ids.specs.Order.{before_id, same_id}
use Rattle.state.specs.declared.DefunctLock.{DefunctLock}
use Rattle.state.specs.Locks.{dkey, blank_active, blank_defunct}
use Rattle.operations.specs.declared.defuncts.Table.{Table}
use Rattle.operations.specs.Defuncts.{superseded, to_defunct, enter_all}
use Rattle.operations.specs.Replace.{entered_of}
use Rattle.operations.specs.Code.{unflagged, hand_on, place_of, entries_of, table_of, Laid, Ranked}
use Rattle.operations.proofs.Over.{over, over_push, blanking_start, blanking_step, closed_end}
use Rattle.operations.proofs.Flags.{mark_more, mapped, mapped_long, sift_in, sift_out}
use Rattle.operations.proofs.Leaving.{laid_wide, turn_yes, turn_no, hand_yes, hand_no}
use Rattle.operations.proofs.Coming.{with_places_lem, out_count, out_laid, enter_is, one_more}
use Rattle.operations.proofs.Replacing.{wide_laid, entered_ranked, sifted}
use Rattle.operations.proofs.entering.entered.Goals as goal
use Rattle.operations.proofs.entering.entered.Goals.{else-loop-k-test, then-loop-k-test+then-less, After-loop-f, After-loop-g, After-loop-i, After-loop-p, After-loop-q, In-loop-g, Start}

long : (c : Start) → length c.args.entries ≡ 128
long c = search (rules, length_of_mapped)

locks : (c : Start) → length c.args.removed ≡ 64
locks c = search (rules, length_of_mapped)

goers : (c : Start) → length (take c.args.gone c.args.removed) ≤ 64
goers c = omega (arith, length-take c.args.gone c.args.removed, c.requires.1)

old : (c : Start) → length (take c.args.m c.args.entries) ≤ 128
old c = omega (arith, length-take c.args.m c.args.entries, c.requires.0)

-- ---- the entries in the first places
abbrev start : After-loop-i → Start
start c = (goal.at.After-loop-i c).Start

abbrev wide : After-loop-i → Table
wide c = with_places_lem (start c).args.m c.loop-i.out

widened : (c : After-loop-i) → wide c ≡ table_of (take (start c).args.m (start c).args.entries)
widened c =
    let e : c.loop-i.i ≡ (start c).args.m = omega arith in
    let h = rw e at c.loop-i.invariant.1 in
    λ j. record { count = h.1 j; entries = h.0 j }

laid : (c : After-loop-i) → Laid (wide c)
laid c = let o = start c in wide_laid o.args.new o.args.by o.args.at (take o.args.gone o.args.removed) (take o.args.m o.args.entries) (goers o) (old o) o.requires.2 _ (widened c)

-- ---- the table at the head of a turn that enters one
few : (c : In-loop-g) → c.loop-g.n < 192
few c = let o = start (goal.at.In-loop-g c).After-loop-i in omega (arith, o.requires.0, o.requires.1, c.loop-g-test.true, out_count (wide (goal.at.In-loop-g c).After-loop-i) (laid (goal.at.In-loop-g c).After-loop-i) o.args.removed o.args.new o.args.by o.args.at c.loop-g.g _ c.loop-g.invariant.1)

all : (c : In-loop-g) → length c.loop-g.out ≡ 192
all c = let o = start (goal.at.In-loop-g c).After-loop-i in laid_wide _ (out_laid (wide (goal.at.In-loop-g c).After-loop-i) (laid (goal.at.In-loop-g c).After-loop-i) o.args.removed o.args.new o.args.by o.args.at c.loop-g.g _ c.loop-g.invariant.1 (omega (arith, o.requires.0, o.requires.1, c.loop-g-test.true)))

-- ---- all are entered
abbrev entering : After-loop-g → After-loop-i
entering c = (goal.at.After-loop-g c).After-loop-i

abbrev origin : After-loop-g → Start
origin c = start (entering c)

abbrev table : After-loop-g → Table
table c = with_places_lem c.loop-g.n c.loop-g.out

all-entered : (c : After-loop-g) → table c ≡ table_of (enter_all (map (to_defunct (origin c).args.new (origin c).args.by (origin c).args.at) (take (origin c).args.gone (origin c).args.removed)) (entries_of (wide (entering c))))
all-entered c =
    let e : c.loop-g.g ≡ (origin c).args.gone = omega arith in
    rw e at c.loop-g.invariant.1

ranked : (c : After-loop-g) → Ranked (table c)
ranked c = let o = origin c in entered_ranked o.args.new o.args.by o.args.at (take o.args.gone o.args.removed) (take o.args.m o.args.entries) (goers o) (old o) o.requires.2 _ (widened (entering c)) _ (all-entered c)

many : (c : After-loop-g) → c.loop-g.n ≤ 192
many c = (ranked c).laid.room

-- ---- all that go have handed on
abbrev marking : After-loop-f → After-loop-p
marking c = (goal.at.After-loop-f c).After-loop-p

abbrev filled : After-loop-f → After-loop-g
filled c = (goal.at.After-loop-f c).After-loop-g

abbrev left : After-loop-f → List DefunctLock
left c = unflagged (take (filled c).loop-g.n (marking c).loop-p.goes) (take (filled c).loop-g.n c.loop-f.out)

left_is : (c : After-loop-f) → left c ≡ entered_of (origin (filled c)).args.new (origin (filled c)).args.by (origin (filled c)).args.at (take (origin (filled c)).args.gone (origin (filled c)).args.removed) (take (origin (filled c)).args.m (origin (filled c)).args.entries)
left_is c =
    let a = filled c in
    let o = origin a in
    let l = (marking c).loop-p in
    let e : l.p ≡ a.loop-g.n = omega arith in
    let f : c.loop-f.f ≡ a.loop-g.n = omega arith in
    sifted o.args.new o.args.by o.args.at (take o.args.gone o.args.removed) (take o.args.m o.args.entries) (goers o) (old o) o.requires.2 _ (widened (entering a)) _ (all-entered a) l.goes (omega (arith, l.invariant.1, many a)) (λ j k. l.invariant.2 j (omega (arith, e))) c.loop-f.out (c.loop-f.invariant.2 ∙ ap (λ (k : ℕ). hand_on l.goes k (take a.loop-g.n a.loop-g.out)) f)

-- ---- those that stay have been read out
abbrev handed : After-loop-q → After-loop-f
handed c = (goal.at.After-loop-q c).After-loop-f

read : (c : After-loop-q) → c.loop-q.q ≡ (filled (handed c)).loop-g.n
read c = omega arith

count : (c : After-loop-q) → c.loop-q.w ≡ length (left (handed c))
count c = rw (read c) at c.loop-q.invariant.2

pub loop-i-init : goal.loop-i-init
loop-i-init c = (omega arith, (ap (replicate 192) c.blank_defunct-b.ensures, refl))

pub loop-i-preserved : goal.loop-i-preserved
unfolding blank_defunct
loop-i-preserved c =
    let l = c.loop-i in
    (omega arith, copy_same 192 blank_defunct c.args.entries l.out l.i blank_defunct l.invariant.1 (omega arith) (omega (arith, long (goal.at.loop-i-preserved c).Start)))

pub loop-g-init : goal.loop-g-init
loop-g-init c = (omega arith, sym (laid c).same)

pub offset_bounds-removed-g : goal.offset_bounds-removed-g
offset_bounds-removed-g c = omega (arith, c.requires.1, c.loop-g-test.true)

pub bounds-removed-g : goal.bounds-removed-g
bounds-removed-g c = omega (arith, c.requires.1, c.loop-g-test.true)

pub overflow_add-g : goal.overflow_add-g
overflow_add-g c = omega (arith, c.requires.1, c.loop-g-test.true)

pub loop-k-init : goal.loop-k-init
unfolding place_of
loop-k-init c = (omega arith, refl)

pub offset_bounds-out-k : goal.offset_bounds-out-k
offset_bounds-out-k c = omega (arith, few (goal.at.offset_bounds-out-k c).In-loop-g, c.loop-k-test.true)

pub bounds-out-k : goal.bounds-out-k
bounds-out-k c = omega (arith, few (goal.at.bounds-out-k c).In-loop-g, c.loop-k-test.true)

pub overflow_add-k : goal.overflow_add-k
overflow_add-k c = omega (arith, few (goal.at.overflow_add-k c).In-loop-g, c.loop-k-test.true)

pub loop-k-smaller : goal.loop-k-smaller
loop-k-smaller c = omega (arith, c.loop-k-test.true)

pub loop-k-preserved : goal.loop-k-preserved
unfolding before_id
loop-k-preserved c = (omega (arith, c.loop-k-test.true), sym (pass_next dkey _ _ _ _ _ c.loop-k-test.true (omega (arith, few (goal.at.loop-k-preserved c).In-loop-g, all (goal.at.loop-k-preserved c).In-loop-g)) (sym c.less.ensures ∙ c.if-less.false)) ∙ c.loop-k.invariant.1)

pub loop-j-init : goal.loop-j-init
unfolding before_id
loop-j-init c =
    let l = c.loop-g in
    let w : length l.out ≡ 192 = all (goal.at.loop-j-init c).In-loop-g in
    let f : l.n < 192 = few (goal.at.loop-j-init c).In-loop-g in
    let k : c.loop-k.k ≡ place_of dkey _ (take l.n l.out) = elim c.loop-k-test.branch [
      | else-loop-k-test y ↦ let e : c.loop-k.k ≡ l.n = omega (arith, c.loop-k.invariant.0, y.loop-k-test.false) in e ∙ sym (pass_end dkey _ _ _ _ c.loop-k.invariant.0 y.loop-k-test.false) ∙ c.loop-k.invariant.1
      | then-loop-k-test+then-less y ↦ sym (pass_stop dkey _ _ _ _ _ y.loop-k-test.true (omega arith) (sym y.less.ensures ∙ y.if-less.true)) ∙ c.loop-k.invariant.1
    ] in
    (c.loop-k.invariant.0, omega arith, k, up_start l.out l.n)

pub overflow_sub-y : goal.overflow_sub-y
overflow_sub-y c = omega (arith, few (goal.at.overflow_sub-y c).In-loop-g, c.loop-j-test.true, c.loop-j.invariant.1)

pub offset_bounds-out-j : goal.offset_bounds-out-j
offset_bounds-out-j c = omega (arith, few (goal.at.offset_bounds-out-j c).In-loop-g, c.loop-j-test.true, c.loop-j.invariant.1)

pub bounds-out-j : goal.bounds-out-j
bounds-out-j c = omega (arith, few (goal.at.bounds-out-j c).In-loop-g, c.loop-j-test.true, c.loop-j.invariant.1)

pub offset_bounds-out-j-in-loop-j : goal.offset_bounds-out-j-in-loop-j
offset_bounds-out-j-in-loop-j c = omega (arith, few (goal.at.offset_bounds-out-j-in-loop-j c).In-loop-g, c.loop-j-test.true, c.loop-j.invariant.1)

pub bounds-out-j-in-loop-j : goal.bounds-out-j-in-loop-j
bounds-out-j-in-loop-j c = omega (arith, few (goal.at.bounds-out-j-in-loop-j c).In-loop-g, c.loop-j-test.true, c.loop-j.invariant.1)

pub overflow_sub-j : goal.overflow_sub-j
overflow_sub-j c = omega (arith, few (goal.at.overflow_sub-j c).In-loop-g, c.loop-j-test.true, c.loop-j.invariant.1)

pub loop-j-smaller : goal.loop-j-smaller
loop-j-smaller c = omega (arith, few (goal.at.loop-j-smaller c).In-loop-g, c.loop-j-test.true, c.loop-j.invariant.1)

pub loop-j-preserved : goal.loop-j-preserved
unfolding blank_defunct
loop-j-preserved c =
    let l = c.loop-g in
    let j = c.loop-j.j in
    (omega (arith, c.loop-j-test.true), omega (arith, c.loop-j.invariant.1), c.loop-j.invariant.2, rw c.loop-j.invariant.3 (up_step l.out (j - 1) j l.n blank_defunct (omega (arith, c.loop-j-test.true)) (omega (arith, c.loop-j.invariant.1, c.loop-j-test.true)) (omega (arith, few (goal.at.loop-j-preserved c).In-loop-g, all (goal.at.loop-j-preserved c).In-loop-g))))

pub offset_bounds-out-k-in-loop-g : goal.offset_bounds-out-k-in-loop-g
offset_bounds-out-k-in-loop-g c = omega (arith, few (goal.at.offset_bounds-out-k-in-loop-g c).In-loop-g, c.loop-j.invariant.0, c.loop-j.invariant.1)

pub bounds-out-k-in-loop-g : goal.bounds-out-k-in-loop-g
bounds-out-k-in-loop-g c = omega (arith, few (goal.at.bounds-out-k-in-loop-g c).In-loop-g, c.loop-j.invariant.0, c.loop-j.invariant.1)

pub overflow_add-n : goal.overflow_add-n
overflow_add-n c = omega (arith, few (goal.at.overflow_add-n c).In-loop-g, c.loop-j.invariant.0, c.loop-j.invariant.1)

pub loop-g-smaller : goal.loop-g-smaller
loop-g-smaller c = omega (arith, c.loop-g-test.true)

pub loop-g-preserved : goal.loop-g-preserved
unfolding blank_active blank_defunct to_defunct
loop-g-preserved c =
    let o = start (goal.at.loop-g-preserved c).After-loop-i in
    let l = c.loop-g in
    let k = c.loop-k.k in
    let e : c.loop-j.j ≡ k = omega (arith, c.loop-j.invariant.0, c.loop-j-test.false) in
    let g : l.g + o.args.m < 192 = omega (arith, o.requires.0, o.requires.1, c.loop-g-test.true) in (
      omega (arith, c.loop-g-test.true),
      one_more (wide (goal.at.loop-g-preserved c).After-loop-i) (laid (goal.at.loop-g-preserved c).After-loop-i) o.args.removed o.args.new o.args.by o.args.at l.g (with_places_lem l.n l.out) l.invariant.1 blank_active _ _ (omega (arith, locks o, o.requires.1, c.loop-g-test.true)) c.to_defunct-d.ensures
          (rw (c.loop-j.invariant.3, e) (ap (with_places_lem (l.n + 1)) (up_end l.out k l.n _ blank_defunct (omega (arith, c.loop-j.invariant.0, c.loop-j.invariant.1)) (omega (arith, few (goal.at.loop-g-preserved c).In-loop-g, all (goal.at.loop-g-preserved c).In-loop-g))))
          ∙ enter_is (wide (goal.at.loop-g-preserved c).After-loop-i) (laid (goal.at.loop-g-preserved c).After-loop-i) o.args.removed o.args.new o.args.by o.args.at l.g (with_places_lem l.n l.out) l.invariant.1 g c.to_defunct-d.result k (c.loop-j.invariant.2 ∙ sym (ap (λ (d : DefunctLock). place_of dkey d.lock.id (take l.n l.out)) c.to_defunct-d.ensures))),
    )

pub loop-p-init : goal.loop-p-init
loop-p-init c = (omega arith, refl, λ j h. absurd (omega arith))

pub offset_bounds-out-p : goal.offset_bounds-out-p
offset_bounds-out-p c = omega (arith, many (goal.at.offset_bounds-out-p c).After-loop-g, c.loop-p-test.true)

pub bounds-out-p : goal.bounds-out-p
bounds-out-p c = omega (arith, many (goal.at.bounds-out-p c).After-loop-g, c.loop-p-test.true)

pub bounds-goes-p : goal.bounds-goes-p
bounds-goes-p c = omega (arith, many (goal.at.bounds-goes-p c).After-loop-g, c.loop-p-test.true)

pub overflow_add-p : goal.overflow_add-p
overflow_add-p c = omega (arith, many (goal.at.overflow_add-p c).After-loop-g, c.loop-p-test.true)

pub loop-p-smaller : goal.loop-p-smaller
loop-p-smaller c = omega (arith, c.loop-p-test.true)

pub loop-p-preserved : goal.loop-p-preserved
unfolding blank_defunct
loop-p-preserved c =
    let l = c.loop-p in
    (omega (arith, c.loop-p-test.true), simp length-set l.invariant.1, mark_more (λ j. superseded (origin (goal.at.loop-p-preserved c).After-loop-g).args.new (get_or c.loop-g.out j blank_defunct)) l.goes l.p _ (omega (arith, l.invariant.1, many (goal.at.loop-p-preserved c).After-loop-g, c.loop-p-test.true)) c.is_superseded.ensures l.invariant.2)

pub loop-f-init : goal.loop-f-init
unfolding hand_on
loop-f-init c = (omega arith, laid_wide (table (goal.at.loop-f-init c).After-loop-g) (ranked (goal.at.loop-f-init c).After-loop-g).laid, refl)

pub overflow_add-f : goal.overflow_add-f
overflow_add-f c = omega (arith, many (goal.at.overflow_add-f c).After-loop-g, c.loop-f-test.true)

pub bounds-goes-k : goal.bounds-goes-k
bounds-goes-k c = omega (arith, many (goal.at.bounds-goes-k c).After-loop-g, c.loop-f-test.true)

pub offset_bounds-out-k-then-goes-k : goal.offset_bounds-out-k-then-goes-k
offset_bounds-out-k-then-goes-k c = omega (arith, many (goal.at.offset_bounds-out-k-then-goes-k c).After-loop-g, c.loop-f-test.true)

pub bounds-out-k-then-goes-k : goal.bounds-out-k-then-goes-k
bounds-out-k-then-goes-k c = omega (arith, many (goal.at.bounds-out-k-then-goes-k c).After-loop-g, c.loop-f-test.true)

pub loop-j-then-goes-k-init : goal.loop-j-then-goes-k-init
loop-j-then-goes-k-init c = (omega arith, refl)

pub loop-f-smaller-in-loop-j-then-goes-k : goal.loop-f-smaller-in-loop-j-then-goes-k
loop-f-smaller-in-loop-j-then-goes-k c = omega (arith, c.loop-f-test.true)

pub loop-f-preserved-in-loop-j-then-goes-k : goal.loop-f-preserved-in-loop-j-then-goes-k
unfolding blank_defunct
loop-f-preserved-in-loop-j-then-goes-k c =
    let l = c.loop-f in
    let n = c.loop-g.n in
    let e : c.loop-j-then-goes-k.j ≡ n = omega (arith, c.loop-j-then-goes-k.invariant.0, c.loop-j-then-goes-k-test.false) in
    let m : c.loop-j-then-goes-k.out ≡ mapped _ n l.out = rw e at c.loop-j-then-goes-k.invariant.1 in
    (omega (arith, c.loop-f-test.true), ap length c.loop-j-then-goes-k.invariant.1 ∙ mapped_long _ l.out c.loop-j-then-goes-k.j ∙ l.invariant.1, hand_yes c.loop-p.goes (take n c.loop-g.out) l.out n l.f c.loop-f-test.true (omega (arith, l.invariant.1, many (goal.at.loop-f-preserved-in-loop-j-then-goes-k c).After-loop-g)) l.invariant.2 _ c.if-goes-k.true m)

pub offset_bounds-out-j-in-loop-j-then-goes-k : goal.offset_bounds-out-j-in-loop-j-then-goes-k
offset_bounds-out-j-in-loop-j-then-goes-k c = omega (arith, many (goal.at.offset_bounds-out-j-in-loop-j-then-goes-k c).After-loop-g, c.loop-j-then-goes-k-test.true)

pub bounds-out-j-in-loop-j-then-goes-k : goal.bounds-out-j-in-loop-j-then-goes-k
bounds-out-j-in-loop-j-then-goes-k c = omega (arith, many (goal.at.bounds-out-j-in-loop-j-then-goes-k c).After-loop-g, c.loop-j-then-goes-k-test.true)

pub overflow_add-j : goal.overflow_add-j
overflow_add-j c = omega (arith, many (goal.at.overflow_add-j c).After-loop-g, c.loop-j-then-goes-k-test.true)

pub offset_bounds-out-o : goal.offset_bounds-out-o
offset_bounds-out-o c = omega (arith, many (goal.at.offset_bounds-out-o c).After-loop-g, c.loop-j-then-goes-k-test.true)

pub bounds-out-o : goal.bounds-out-o
bounds-out-o c = omega (arith, many (goal.at.bounds-out-o c).After-loop-g, c.loop-j-then-goes-k-test.true)

pub loop-j-then-goes-k-smaller-then-same : goal.loop-j-then-goes-k-smaller-then-same
loop-j-then-goes-k-smaller-then-same c = omega (arith, c.loop-j-then-goes-k-test.true)

pub loop-j-then-goes-k-preserved-then-same : goal.loop-j-then-goes-k-preserved-then-same
unfolding blank_defunct same_id
loop-j-then-goes-k-preserved-then-same c =
    let l = c.loop-f in
    (omega (arith, c.loop-j-then-goes-k-test.true), turn_yes _ c.loop-j-then-goes-k.j l.out c.loop-j-then-goes-k.out (omega (arith, l.invariant.1, c.loop-j-then-goes-k-test.true, many (goal.at.loop-j-then-goes-k-preserved-then-same c).After-loop-g)) c.loop-j-then-goes-k.invariant.1 _ c.same.ensures _ c.if-same.true c.took_over.ensures)

pub loop-j-then-goes-k-smaller : goal.loop-j-then-goes-k-smaller
loop-j-then-goes-k-smaller c = omega (arith, c.loop-j-then-goes-k-test.true)

pub loop-j-then-goes-k-preserved : goal.loop-j-then-goes-k-preserved
unfolding blank_defunct same_id
loop-j-then-goes-k-preserved c =
    let l = c.loop-f in
    (omega (arith, c.loop-j-then-goes-k-test.true), turn_no _ c.loop-j-then-goes-k.j l.out c.loop-j-then-goes-k.out (omega (arith, l.invariant.1, c.loop-j-then-goes-k-test.true, many (goal.at.loop-j-then-goes-k-preserved c).After-loop-g)) c.loop-j-then-goes-k.invariant.1 _ c.same.ensures c.if-same.false)

pub loop-f-smaller : goal.loop-f-smaller
loop-f-smaller c = omega (arith, c.loop-f-test.true)

pub loop-f-preserved : goal.loop-f-preserved
unfolding blank_defunct
loop-f-preserved c =
    let l = c.loop-f in
    let n = c.loop-g.n in
    (omega (arith, c.loop-f-test.true), l.invariant.1, hand_no c.loop-p.goes (take n c.loop-g.out) l.out n l.f c.loop-f-test.true (omega (arith, l.invariant.1, many (goal.at.loop-f-preserved c).After-loop-g)) l.invariant.2 c.if-goes-k.false)

pub loop-q-init : goal.loop-q-init
loop-q-init c = (omega arith, omega arith, refl, long (origin (filled c)), λ h. refl)

pub overflow_add-q : goal.overflow_add-q
overflow_add-q c = omega (arith, many (goal.at.overflow_add-q c).After-loop-g, c.loop-q-test.true)

pub bounds-goes-k-in-loop-q : goal.bounds-goes-k-in-loop-q
bounds-goes-k-in-loop-q c = omega (arith, many (goal.at.bounds-goes-k-in-loop-q c).After-loop-g, c.loop-q-test.true)

pub overflow_add-w : goal.overflow_add-w
overflow_add-w c = omega (arith, many (goal.at.overflow_add-w c).After-loop-g, c.loop-q-test.true, c.loop-q.invariant.1)

pub offset_bounds-out-k-then-v-lt-DEFUNCT : goal.offset_bounds-out-k-then-v-lt-DEFUNCT
offset_bounds-out-k-then-v-lt-DEFUNCT c = omega (arith, many (goal.at.offset_bounds-out-k-then-v-lt-DEFUNCT c).After-loop-g, c.loop-q-test.true)

pub bounds-out-k-then-v-lt-DEFUNCT : goal.bounds-out-k-then-v-lt-DEFUNCT
bounds-out-k-then-v-lt-DEFUNCT c = omega (arith, many (goal.at.bounds-out-k-then-v-lt-DEFUNCT c).After-loop-g, c.loop-q-test.true)

pub offset_bounds-entries-v : goal.offset_bounds-entries-v
offset_bounds-entries-v c = omega (arith, c.if-v-lt-DEFUNCT.true)

pub bounds-entries-v : goal.bounds-entries-v
bounds-entries-v c = omega (arith, c.if-v-lt-DEFUNCT.true)

pub loop-q-smaller-then-v-lt-DEFUNCT : goal.loop-q-smaller-then-v-lt-DEFUNCT
loop-q-smaller-then-v-lt-DEFUNCT c = omega (arith, c.loop-q-test.true)

pub loop-q-preserved-then-v-lt-DEFUNCT : goal.loop-q-preserved-then-v-lt-DEFUNCT
unfolding blank_defunct
loop-q-preserved-then-v-lt-DEFUNCT c =
    let l = c.loop-q in
    let a = filled (goal.at.loop-q-preserved-then-v-lt-DEFUNCT c).After-loop-f in
    let m = c.loop-f.out in
    let goes = (marking (goal.at.loop-q-preserved-then-v-lt-DEFUNCT c).After-loop-f).loop-p.goes in
    let f = unflagged (take l.q goes) (take l.q m) in
    let d = get_or m l.q blank_defunct in
    let s = sift_in goes m l.q blank_defunct (omega (arith, (marking (goal.at.loop-q-preserved-then-v-lt-DEFUNCT c).After-loop-f).loop-p.invariant.1, many a, c.loop-q-test.true)) (omega (arith, c.loop-f.invariant.1, many a, c.loop-q-test.true)) c.if-not-goes-k.true in
    (omega (arith, c.loop-q-test.true), omega (arith, l.invariant.1), length_more f l.w d l.invariant.2 ∙ ap length (sym s), simp length-set l.invariant.3, λ h. ap (λ (t : List DefunctLock). set t l.w d) (l.invariant.4 (omega (arith, c.if-v-lt-DEFUNCT.true))) ∙ over_push f (origin a).args.entries d blank_defunct l.w l.invariant.2 (omega (arith, long (origin a), c.if-v-lt-DEFUNCT.true)) ∙ ap (λ (t : List DefunctLock). over t (origin a).args.entries) (sym s))

pub loop-q-smaller-else-v-lt-DEFUNCT : goal.loop-q-smaller-else-v-lt-DEFUNCT
loop-q-smaller-else-v-lt-DEFUNCT c = omega (arith, c.loop-q-test.true)

pub loop-q-preserved-else-v-lt-DEFUNCT : goal.loop-q-preserved-else-v-lt-DEFUNCT
unfolding blank_defunct
loop-q-preserved-else-v-lt-DEFUNCT c =
    let l = c.loop-q in
    let a = filled (goal.at.loop-q-preserved-else-v-lt-DEFUNCT c).After-loop-f in
    let m = c.loop-f.out in
    let goes = (marking (goal.at.loop-q-preserved-else-v-lt-DEFUNCT c).After-loop-f).loop-p.goes in
    let f = unflagged (take l.q goes) (take l.q m) in
    let d = get_or m l.q blank_defunct in
    let s = sift_in goes m l.q blank_defunct (omega (arith, (marking (goal.at.loop-q-preserved-else-v-lt-DEFUNCT c).After-loop-f).loop-p.invariant.1, many a, c.loop-q-test.true)) (omega (arith, c.loop-f.invariant.1, many a, c.loop-q-test.true)) c.if-not-goes-k.true in
    (omega (arith, c.loop-q-test.true), omega (arith, l.invariant.1), length_more f l.w d l.invariant.2 ∙ ap length (sym s), l.invariant.3, λ h. absurd (omega (arith, c.if-v-lt-DEFUNCT.false)))

pub loop-q-smaller : goal.loop-q-smaller
loop-q-smaller c = omega (arith, c.loop-q-test.true)

pub loop-q-preserved : goal.loop-q-preserved
unfolding blank_defunct
loop-q-preserved c =
    let l = c.loop-q in
    let a = filled (goal.at.loop-q-preserved c).After-loop-f in
    let m = c.loop-f.out in
    let goes = (marking (goal.at.loop-q-preserved c).After-loop-f).loop-p.goes in
    let s = sift_out goes m l.q blank_defunct (omega (arith, (marking (goal.at.loop-q-preserved c).After-loop-f).loop-p.invariant.1, many a, c.loop-q-test.true)) (omega (arith, c.loop-f.invariant.1, many a, c.loop-q-test.true)) c.if-not-goes-k.false in
    (omega (arith, c.loop-q-test.true), omega (arith, l.invariant.1), l.invariant.2 ∙ ap length (sym s), l.invariant.3, λ h. l.invariant.4 h ∙ ap (λ (t : List DefunctLock). over t (origin a).args.entries) (sym s))

pub loop-z-init : goal.loop-z-init
loop-z-init c = (omega arith, λ h. (h, blanking_start c.loop-q.entries _ c.loop-q.w c.loop-q.w refl (omega (arith, c.loop-q.invariant.3))))

pub offset_bounds-entries-z : goal.offset_bounds-entries-z
offset_bounds-entries-z c = omega (arith, c.loop-z-test.true)

pub bounds-entries-z : goal.bounds-entries-z
bounds-entries-z c = omega (arith, c.loop-z-test.true)

pub overflow_add-z : goal.overflow_add-z
overflow_add-z c = omega (arith, c.loop-z-test.true)

pub loop-z-smaller : goal.loop-z-smaller
loop-z-smaller c = omega (arith, c.loop-z-test.true)

pub loop-z-preserved : goal.loop-z-preserved
loop-z-preserved c = (omega arith, λ h. (omega (arith, c.loop-z-test.true), blanking_step _ _ _ _ _ (c.loop-z.invariant.1 h).1 c.loop-z.invariant.0 (omega (arith, c.loop-q.invariant.3, c.loop-z-test.true))))

pub returns : goal.returns
returns c =
    let p = handed (goal.at.returns c).After-loop-q in
    let l = c.loop-q in
    let z = c.loop-z in
    record {
      count = count (goal.at.returns c).After-loop-q ∙ ap length (left_is p);
      same = λ h.
          let k : l.w ≤ 128 = omega (arith, count (goal.at.returns c).After-loop-q, ap length (left_is p)) in
          closed_end (left p) (origin (filled p)).args.entries l.entries _ _ _ l.w z.z 128 (rw (read (goal.at.returns c).After-loop-q) at (l.invariant.4 k)) (sym (count (goal.at.returns c).After-loop-q)) l.invariant.3 (omega (arith, (z.invariant.1 k).0, c.loop-z-test.false)) z.invariant.0 (entering (filled p)).blank_defunct-b.ensures (z.invariant.1 k).1 ∙ ap (in_places 128 blank_defunct) (left_is p);
    }
