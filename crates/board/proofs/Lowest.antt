-- What an entry tells. 02, C-11: "the number of active locks covering it and the lowest id among them, zeros if none".
--     count_none    the number is 0 exactly where no lock covers the ECU
--     lowest_none   there the id is zeros
--     lowest_is     else, in an ascending list, it is the id of a lock that covers the ECU, and none of these has a lower one
--     one_subject   of the locks counted those that are not vehicle locks have one subject (rule 8)
-- Assumes nothing.
use Rattle.std.proofs.Common.{◌≡◌, ℕ, ◌<◌, ◌≤◌, eqb, ◌⊎◌, ◌↔◌, List, length, ap, inl, inr, arith, length-take, eqb-true}
use Rattle.lists.specs.Tests.{Yes, No}
use Rattle.lists.specs.Lists.{any, Mem, ascending}
use Rattle.lists.proofs.Tests.{against, →no, yes_non, and_i, or_e, or_l, or_r, by}
use Rattle.lists.proofs.Lists.{any→, →any, find→, find_hit, find_miss, filter_le}
use Rattle.lists.proofs.Below.{any_of}
use Rattle.lists.proofs.Loops.{filter_none}
use Rattle.lists.proofs.First.{none_kept, some_kept}
use Rattle.ids.specs.declared.LockId.{LockId}
use Rattle.ids.specs.Order.{no_id}
use Rattle.coverage.specs.declared.LockCoverage.{LockCoverage}
use Rattle.coverage.specs.Coverage.{in_set, covers, overlap}
use Rattle.state.specs.declared.ActiveLock.{ActiveLock}
use Rattle.state.specs.declared.LockState.{LockState}
use Rattle.state.specs.Locks.{akey, is_vehicle}
use Rattle.state.specs.Model.{model_of, full}
use Rattle.std.specs.Prelude.{Ok}
use Rattle.rules.specs.Rules.{broken_rule, clash}
use Rattle.rules.proofs.Sound.{sound_of}
use Rattle.lookups.proofs.Verdicts.{actives_fit, actives_ascend}
use Rattle.promises.proofs.Core.{stands_of}
use Rattle.promises.proofs.Lowest.{find_lowest}
use Rattle.board.specs.Board.{on, id_of, count_on, lowest_on}

-- ---- the number
pub at_most : (l : List ActiveLock) (e : ℕ) → count_on l e ≤ length l
unfolding count_on
at_most l e = filter_le (on e) l

-- in one byte
pub count_fits : (s : LockState) → broken_rule s ≡ Ok tt → (e : ℕ) → count_on (model_of s).active e ≤ 64
count_fits s q e = omega (arith, at_most (model_of s).active e, length-take s.actives s.active, actives_fit s q)

pub count_none : (l : List ActiveLock) (e : ℕ) → (count_on l e ≡ 0) ↔ ((a : ActiveLock) → Mem a l → No (on e a))
unfolding count_on
count_none l e = (
  λ q a u. →no (on e a) (λ t. against (none_kept (on e) l q) (→any (on e) u t)),
  λ f. ap length (filter_none (on e) l (→no (any (on e) l) (λ t. let w = any→ (on e) l t in against (f w.0 w.1) w.2))),
)

-- ---- the id
pub lowest_none : (l : List ActiveLock) (e : ℕ) → count_on l e ≡ 0 → lowest_on l e ≡ no_id
unfolding lowest_on
lowest_none l e q = ap id_of (find_miss (on e) l (λ a u t. against ((count_none l e).0 q a u) t))

-- i is the id of the lock of l that covers e, and no lock of l that does has a lower one
pub record IsLowest (l : List ActiveLock) (e : ℕ) (i : LockId) : Type 0 where
  pub lock : ActiveLock
  pub there : Mem lock l
  pub covers : Yes (on e lock)
  pub id : i ≡ lock.lock.id
  pub least : (a : ActiveLock) → Mem a l → Yes (on e a) → akey lock ≤ akey a

pub lowest_is : (l : List ActiveLock) → Yes (ascending akey l) → (e : ℕ) → (count_on l e ≡ 0 → ⊥) → IsLowest l e (lowest_on l e)
unfolding count_on lowest_on
lowest_is l o e h =
    let w = any→ (on e) l (some_kept (on e) l h) in
    let f = find_hit (on e) l w.1 w.2 in
    let g = find→ (on e) l f.1 in
    record { lock = f.0; there = g.0; covers = g.1; id = ap id_of f.1; least = λ a u t. find_lowest akey (on e) 0 l o f.1 u t }

-- ---- two coverages that have an ECU in common overlap
both_overlap : (a b : LockCoverage) (e : ℕ) → e < 256 → Yes (covers a e) → Yes (covers b e) → Yes (overlap a b)
unfolding covers overlap
both_overlap a b e h x y = go (or_e _ _ x) (or_e _ _ y)
  where
    go : Yes a.whole ⊎ Yes (in_set a e) → Yes b.whole ⊎ Yes (in_set b e) → Yes (overlap a b)
    go (inl x) y = or_l _ _ (or_l _ _ x)
    go (inr x) (inl y) = or_l _ _ (or_r _ _ y)
    go (inr x) (inr y) = or_r _ _ (any_of 256 _ e h (and_i _ _ x y))

module _ (s : LockState) (q : broken_rule s ≡ Ok tt) where
  -- of a state's own list
  pub lowest_in_lem : (e : ℕ) → (count_on (model_of s).active e ≡ 0 → ⊥) → IsLowest (model_of s).active e (lowest_on (model_of s).active e)
  lowest_in_lem e h = lowest_is (model_of s).active (actives_ascend s q) e h

  pub one_subject : (e : ℕ) → e < 256 → (a : ActiveLock) → Mem a (model_of s).active → (b : ActiveLock) → Mem b (model_of s).active
      → No (is_vehicle a.lock.scope) → No (is_vehicle b.lock.scope) → Yes (on e a) → Yes (on e b) → a.lock.subject ≡ b.lock.subject
  unfolding on clash
  one_subject e h a u b v m n x y =
      by (eqb a.lock.subject b.lock.subject) (a.lock.subject ≡ b.lock.subject) (λ t. eqb-true _ _ t) (λ t.
      absurd (against ((stands_of full (model_of s) (sound_of s q)).core.clear a u b v)
      (and_i _ _ (and_i _ _ (and_i _ _ (yes_non _ m) (yes_non _ n)) (both_overlap a.lock.coverage b.lock.coverage e h x y)) (yes_non _ t))))
