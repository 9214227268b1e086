-- 02, C-20 on the lists, over any limits: what each operation that goes through leaves, and `step_kept`, all of a feed's
-- operations in one, refused or not. Assumes nothing.
use Rattle.std.specs.Option.{option_map}
use mathlib.Core.Path.{◌≡◌, refl, sym, ap, ◌∙◌}
use mathlib.Core.Bool.{Bool}
use mathlib.Core.List.{List, map}
use mathlib.Core.Option
use Rattle.std.specs.Prelude.{Option, None, Some}
use Prim.Native.Nat.{ℕ, ◌+◌}
use lib.Dec.{eqb}
use borrow.Author.Tests.{eq-eqb, ne_eqb}
use Rattle.lists.specs.Tests.{Yes}
use Rattle.lists.specs.Lists.{Mem, any, filter, insert_by}
use Rattle.lists.proofs.Tests.{against, non_yes, yes_non, cond_both}
use Rattle.lists.proofs.Lists.{all→, →all, find_map, find_insert}
use Rattle.ids.specs.declared.LockId.{LockId}
use Rattle.ids.specs.Order.{key}
use Rattle.state.specs.declared.ActiveLock.{ActiveLock}
use Rattle.state.specs.declared.DefunctLock.{DefunctLock}
use Rattle.state.specs.Locks.{akey, dkey, has_id, has_id_d, normal}
use Rattle.state.specs.Model.{Model, Limits}
use Rattle.rules.specs.Rules.{find_a, sound}
use Rattle.std.specs.Prelude.{Result, Ok, Err, ⊤}
use Rattle.operations.specs.declared.answers.RenewalRefusal.{RenewalRefusal}
use Rattle.operations.specs.Answers.{is_done}
use Rattle.operations.specs.Defuncts.{redirect, remove_d, remove_all, superseded, supersede}
use Rattle.operations.specs.Trees.{is_listed}
use Rattle.operations.specs.Insert.{inserted_in, judge_insert}
use Rattle.operations.specs.Vehicle.{nest, adopt, vehicle_in, judge_vehicle}
use Rattle.operations.specs.Renew.{extended, extend_at, renewed_in, judge_renew}
use Rattle.operations.specs.Acknowledge.{shed_in, lapsed, lapsed_of}
use Rattle.promises.specs.Steps.{Op, insert_active, insert_vehicle, renew, delete, begin_expiration, commit_replacement, acknowledge, expire_defunct, after_renewal, step}
use Rattle.promises.proofs.Core.{Core, stands_of}
use Rattle.promises.proofs.Going.{remove_d_shrinks, remove_all_shrinks, supersede_shrinks}
use Rattle.promises.proofs.Keeping.{made, core_shed}
use Rattle.promises.proofs.Carried.{Held, insert_holds, vehicle_holds}
use Rattle.stories.specs.Stories.{keeps_stories, unnamed, stated}
use Rattle.stories.proofs.Ways.{subject_in, held_at}
use Rattle.stories.proofs.Kept.{→keeps, keeps_refl, keeps_trans, active_keeps, remove_keeps, remove_all_keeps}

-- ---- who holds at an id, after a change of the active locks
-- a lock that is adopted or renewed keeps its id and its subject
abbrev Like : ActiveLock → ActiveLock → Type 0
Like a b = (akey b ≡ akey a) × (b.lock.subject ≡ a.lock.subject)

adopt_like : (p : ActiveLock → Bool) (x a : ActiveLock) → Like a (adopt p x a)
unfolding adopt nest
adopt_like p x a = cond_both (Like a) _ a (p a) (λ t. (refl, refl)) (λ t. (refl, refl))

extend_like : (i : LockId) (t : ℕ) (has : Bool) (d : ℕ) (a : ActiveLock) → Like a (extend_at i t has d a)
unfolding extend_at extended
extend_like i t has d a = cond_both (Like a) _ a (has_id i a) (λ u. (refl, refl)) (λ u. (refl, refl))

map_held : (g : ActiveLock → ActiveLock) → ((a : ActiveLock) → Like a (g a)) → (l : List ActiveLock) (k : ℕ) → held_at (map g l) k ≡ held_at l k
map_held g like l k = ap subject_in (find_map (λ a. eqb (akey a) k) g l (λ a. ap (λ (n : ℕ). eqb n k) (like a).0)) ∙ go (find_a l k)
  where
    go : (o : Option ActiveLock) → subject_in (option_map g o) ≡ subject_in o
    go None = refl
    go (Some a) = ap {B = Option ℕ} Some (like a).1

-- one that comes holds at its own id alone
insert_held : (x : ActiveLock) (l : List ActiveLock) (k : ℕ) → (k ≡ akey x → ⊥) → held_at (insert_by akey x l) k ≡ held_at l k
insert_held x l k n = ap subject_in (find_insert akey (λ a. eqb (akey a) k) x l (ne_eqb (akey x) k (λ q. n (sym q))))

-- ---- the test as a fact
abbrev Unnamed : LockId → DefunctLock → Type 0
Unnamed i d = key d.target ≡ key i → ⊥

unnamed→ : (i : LockId) (n : Model) → Yes (unnamed i n) → (d : DefunctLock) → Mem d n.defunct → Unnamed i d
unfolding unnamed
unnamed→ i n t d u q = against (non_yes _ (all→ _ t u)) (eq-eqb _ _ q)

→unnamed : (i : LockId) (n : Model) → ((d : DefunctLock) → Mem d n.defunct → Unnamed i d) → Yes (unnamed i n)
unfolding unnamed
→unnamed i n f = →all _ n.defunct (λ d u. yes_non _ (ne_eqb (key d.target) (key i) (f d u)))

-- ---- what an operation leaves
module _ (m : Model) (c : Core m) where
  pub unchanged_kept : Yes (keeps_stories m m)
  unchanged_kept = →keeps m m c.order_d (keeps_refl m)

  -- entries go, "the last-revision refusal included": with the next revision or with the same
  pub removed_kept : (i : LockId) → Yes (keeps_stories m (shed_in m (remove_d i m.defunct)))
  unfolding shed_in
  removed_kept i = →keeps m _ ((remove_d_shrinks i m.defunct).order c.order_d) (remove_keeps m c _ i)

  pub all_removed_kept : (ds : List DefunctLock) → Yes (keeps_stories m (shed_in m (remove_all ds m.defunct)))
  unfolding shed_in
  all_removed_kept ds = →keeps m _ ((remove_all_shrinks ds m.defunct).order c.order_d) (remove_all_keeps ds m c _)

  -- entries are superseded, and a lock comes that no remaining entry names
  put_kept : (x : ActiveLock) (l : List ActiveLock) (r : ℕ) → ((k : ℕ) → held_at l k ≡ held_at m.active k)
      → Yes (unnamed x.lock.id (made r (insert_by akey x l) (supersede x m.defunct))) → Yes (keeps_stories m (made r (insert_by akey x l) (supersede x m.defunct)))
  unfolding supersede
  put_kept x l r like t =
      let g = supersede_shrinks x m.defunct in
      let n = made r m.active (supersede x m.defunct) in
      let o = made r (insert_by akey x l) (supersede x m.defunct) in
      →keeps m o (g.order c.order_d)
      (keeps_trans m n o (remove_all_keeps (filter (superseded x) m.defunct) m c r)
      (active_keeps n (core_shed m n.defunct r c g) r (insert_by akey x l) (λ d u. insert_held x l (key d.target) (unnamed→ x.lock.id o t d u) ∙ like (key d.target))))

  pub inserted_kept : (x : ActiveLock) → Yes (unnamed x.lock.id (inserted_in m x)) → Yes (keeps_stories m (inserted_in m x))
  unfolding inserted_in
  inserted_kept x = put_kept x m.active (m.revision + 1) (λ k. refl)

  pub vehicle_kept : (x : ActiveLock) (ws : List ℕ) → Yes (unnamed x.lock.id (vehicle_in m x ws)) → Yes (keeps_stories m (vehicle_in m x ws))
  unfolding vehicle_in inserted_in
  vehicle_kept x ws = put_kept x (map (adopt (is_listed ws) x) m.active) (m.revision + 1) (λ k. map_held (adopt (is_listed ws) x) (adopt_like (is_listed ws) x) m.active k)

  -- no id and no subject changes
  pub renewed_kept : (i : LockId) (t : ℕ) (has : Bool) (d : ℕ) → Yes (keeps_stories m (renewed_in m i t has d))
  unfolding renewed_in
  renewed_kept i t has d =
      →keeps m _ c.order_d
      (active_keeps m c (m.revision + 1) (map (extend_at i t has d) m.active) (λ b u. map_held (extend_at i t has d) (extend_like i t has d) m.active (key b.target)))

-- ---- an id that no entry names before an insertion none names after it: targets are only taken over
redirect_unnamed : (i : LockId) (g d : DefunctLock) → Unnamed i g → Unnamed i d → Unnamed i (redirect g d)
unfolding redirect
redirect_unnamed i g d f h = cond_both (Unnamed i) _ d (eqb (key d.target) (dkey g)) (λ t. f) (λ t. h)

module _ (i : LockId) (m : Model) (t : Yes (unnamed i m)) (x : ActiveLock) where
  held : Held (λ a. Unit) (Unnamed i) m
  held = record { active = λ a u. tt; defunct = unnamed→ i m t }

  pub inserted_unnamed : Yes (unnamed i (inserted_in m x))
  inserted_unnamed = →unnamed i (inserted_in m x) (insert_holds _ _ (λ b a p q. tt) (redirect_unnamed i) m held x tt).defunct

  pub vehicle_unnamed : (ws : List ℕ) → Yes (unnamed i (vehicle_in m x ws))
  vehicle_unnamed ws = →unnamed i (vehicle_in m x ws) (vehicle_holds _ _ (λ b a p q. tt) (redirect_unnamed i) m held x ws tt).defunct

-- ---- all of a feed's operations, over any limits
renewal_kept : (m n : Model) (a : Result ⊤ RenewalRefusal) → Yes (keeps_stories m m) → Yes (keeps_stories m n) → Yes (keeps_stories m (after_renewal a m n))
renewal_kept m n (Ok done) f g = g
renewal_kept m n (Err why) f g = f

module _ (k : Limits) (m : Model) (s : Yes (sound k m)) where
  core : Core m
  core = (stands_of k m s).core

  pub step_kept : (o : Op) → Yes (stated o (step k m o)) → Yes (keeps_stories m (step k m o))
  unfolding step stated normal
  step_kept (insert_active y) =
      cond_both (λ (n : Model). Yes (unnamed y.lock.id n) → Yes (keeps_stories m n)) _ m (is_done (judge_insert k m (normal y))) (λ d. inserted_kept m core (normal y)) (λ d t. unchanged_kept m core)
  step_kept (insert_vehicle y ws) =
      cond_both (λ (n : Model). Yes (unnamed y.lock.id n) → Yes (keeps_stories m n)) _ m (is_done (judge_vehicle k m (normal y) ws)) (λ d. vehicle_kept m core (normal y) ws) (λ d t. unchanged_kept m core)
  step_kept (renew i e now has d) = λ t. renewal_kept m _ (judge_renew m i e now) (unchanged_kept m core) (renewed_kept m core i e has d)
  step_kept (delete i) = λ t. absurd (against refl t)
  step_kept (begin_expiration i now) = λ t. absurd (against refl t)
  step_kept (commit_replacement ws y by at) = λ t. absurd (against refl t)
  step_kept (acknowledge i) = λ t. cond_both (λ (n : Model). Yes (keeps_stories m n)) _ m (any (has_id_d i) m.defunct) (λ d. removed_kept m core i) (λ d. unchanged_kept m core)
  step_kept (expire_defunct now) = λ t. cond_both (λ (n : Model). Yes (keeps_stories m n)) _ m (any (lapsed now) m.defunct) (λ d. all_removed_kept m core (lapsed_of now m)) (λ d. unchanged_kept m core)
