-- Keeps: each operation that goes through leaves a sound state, over any limits k. A lock handed in has its plain form
-- (neat_a), which `normal` gives it. Assumes nothing.
use mathlib.Core.Path.{◌≡◌, refl, sym, ap, ◌∙◌, subst}
use mathlib.Core.Bool.{Bool}
use mathlib.Core.List.Memᴰ
use mathlib.Core.List.{List, [], ◌∷◌, map}
use mathlib.Core.Logic.{inl, inr}
use Prim.Native.Nat.{ℕ, ◌+◌, ◌≤◌}
use native.Mathlib.Omega.{arith}
use lib.ListN.{length, length-map}
use borrow.Author.Tests.{eq-eqb, leb-true, le-leb}
use Rattle.lists.specs.Tests.{non, Yes, No}
use Rattle.lists.specs.Lists.{Mem, Fresh, insert_by}
use Rattle.lists.proofs.Tests.{against, →no, non_yes, and_l, and_r, and_i, cond_both, cond_false}
use Rattle.lists.proofs.Lists.{insert→, insert_new, filter_le}
use Rattle.ids.specs.declared.LockId.{LockId}
use Rattle.ids.specs.Order.{key}
use Rattle.state.specs.declared.ActiveLock.{ActiveLock}
use Rattle.state.specs.declared.DefunctLock.{DefunctLock}
use Rattle.state.specs.Locks.{akey, dkey, is_vehicle, has_id}
use Rattle.state.specs.Model.{Model, Limits, fits}
use Rattle.rules.specs.Rules.{neat_l, neat_a, neat_d, sound}
use Rattle.std.specs.Prelude.{Ok}
use Rattle.operations.specs.Answers.{is_done}
use Rattle.operations.specs.Defuncts.{remove_d, remove_all, supersede, to_defunct, enter_all}
use Rattle.operations.specs.Trees.{Parts, in_tree, start_parts, is_listed}
use Rattle.operations.specs.Checks.{conflicts}
use Rattle.operations.specs.Code.{check_insert, check_entry, judge_bundled}
use Rattle.operations.proofs.Bundles.{judge_insert_lem, judge_replace_lem}
use Rattle.operations.specs.Insert.{inserted_in, judge_insert}
use Rattle.operations.specs.Vehicle.{nest, adopt, vehicle_in, judge_vehicle}
use Rattle.operations.specs.Renew.{extended, extend_at, renewed_in}
use Rattle.operations.specs.Delete.{without_tree}
use Rattle.operations.specs.Replace.{orphan, cut_of, entered_of, replaced_in, judge_replace}
use Rattle.operations.specs.Acknowledge.{shed_in}
use Rattle.lists.proofs.Further.{insert_map}
use Rattle.promises.proofs.Passed.{then_done, done_is}
use Rattle.promises.proofs.Core.{Parent, Core, stands_of, sound_by}
use Rattle.promises.proofs.Going.{Shrinks, remove_d_shrinks, remove_all_shrinks, supersede_shrinks}
use Rattle.promises.proofs.Keeping.{made, core_shed, Comes, comes_on, one_vehicle, core_insert, Same, core_map, Adopts, core_adopt, core_enter}
use Rattle.promises.proofs.Removal.{tree_kept, core_tree, Cut, cut_roots}
use Rattle.promises.proofs.Checked.{id_ok, scope_ok, nest_ok, clear_ok, room_ok, root_ok, children_ok, listed_low, listed_old}

-- ---- fewer locks and entries fit where more did
fits_less : (k : Limits) (m n : Model) → length n.active ≤ length m.active → length n.defunct ≤ length m.defunct → Yes (fits k m) → Yes (fits k n)
unfolding fits
fits_less k m n h g t =
    let a = leb-true (length m.active) k.active (and_l _ _ t) in
    let d = leb-true (length m.defunct) k.defunct (and_r _ _ t) in
    and_i _ _ (le-leb (length n.active) k.active (omega arith)) (le-leb (length n.defunct) k.defunct (omega arith))

-- ---- insert_active
insert_comes : (m : Model) (x : ActiveLock) → Yes (neat_a x)
    → ((a : ActiveLock) → Mem a m.active → akey a ≡ akey x → ⊥) → ((d : DefunctLock) → Mem d m.defunct → dkey d ≡ akey x → ⊥)
    → Yes (is_done (check_insert m.active x)) → Comes m x
unfolding check_insert
insert_comes m x t new_a new_d e =
    let h1 = then_done _ _ e in
    let h2 = then_done _ _ h1.1 in
    record { plain = t; new_a = new_a; new_d = new_d; scope = scope_ok m.active x h1.0; parent = nest_ok m.active x h2.0; clear = clear_ok m.active x h2.1 }

core_inserted : (m : Model) (x : ActiveLock) (n : ℕ) → Core m → Comes m x → Core (made n (insert_by akey x m.active) (supersede x m.defunct))
core_inserted m x n s f =
    let g = supersede_shrinks x m.defunct in
    core_insert (made n m.active (supersede x m.defunct)) x n (core_shed m (supersede x m.defunct) n s g) (comes_on m x (supersede x m.defunct) n g f)

pub insert_keeps : (k : Limits) (m : Model) (x : ActiveLock) → Yes (neat_a x) → Yes (sound k m) → judge_insert k m x ≡ Ok tt → Yes (sound k (inserted_in m x))
unfolding judge_bundled inserted_in
insert_keeps k m x t s e =
    let f = stands_of k m s in
    let h1 = then_done _ _ (done_is _ (sym (judge_insert_lem k m x) ∙ e)) in
    let h2 = then_done _ _ h1.1 in
    let h3 = then_done _ _ h2.1 in
    let i = id_ok m.active m.defunct x h1.0 in
    sound_by k (inserted_in m x) (record { room = room_ok k (inserted_in m x) h3.1; core = core_inserted m x (m.revision + 1) f.core (insert_comes m x t i.0 i.1 h2.0) })

-- ---- a vehicle lock comes and takes in the locks that the test picks
adopt_key : (p : ActiveLock → Bool) (x a : ActiveLock) → akey (adopt p x a) ≡ akey a
unfolding adopt nest
adopt_key p x a = cond_both (λ (b : ActiveLock). akey b ≡ akey a) (nest x a) a (p a) (λ t. refl) (λ t. refl)

adopt_not : (p : ActiveLock → Bool) (x a : ActiveLock) → No (p a) → adopt p x a ≡ a
unfolding adopt
adopt_not p x a t = cond_false (p a) (nest x a) a t

core_taken : (m : Model) (p : ActiveLock → Bool) (x : ActiveLock) (n : ℕ) → Core m → Comes m x → No (p x)
    → ((a : ActiveLock) → Mem a m.active → Yes (p a) → Adopts x a)
    → Core (made n (insert_by akey x (map (adopt p x) m.active)) (supersede x m.defunct))
core_taken m p x n s f out ok =
    rw (insert_map akey (adopt p x) (adopt_key p x) x (adopt_not p x x out) m.active)
    (core_adopt (made n (insert_by akey x m.active) (supersede x m.defunct)) p x (core_inserted m x n s f) (insert_new akey x m.active)
    (λ a u t. elim (insert→ akey x m.active u) [ inl q ↦ absurd (against out (subst (λ (b : ActiveLock). Yes (p b)) q t)) | inr v ↦ ok a v t ]))

pub vehicle_keeps : (k : Limits) (m : Model) (x : ActiveLock) (ws : List ℕ) → Yes (neat_a x) → Yes (sound k m) → judge_vehicle k m x ws ≡ Ok tt → Yes (sound k (vehicle_in m x ws))
unfolding judge_vehicle vehicle_in inserted_in conflicts
vehicle_keeps k m x ws t s e =
    let f = stands_of k m s in
    let h1 = then_done _ _ (done_is _ e) in
    let h2 = then_done _ _ h1.1 in
    let h3 = then_done _ _ h2.1 in
    let h4 = then_done _ _ h3.1 in
    let h5 = then_done _ _ h4.1 in
    let h6 = then_done _ _ h5.1 in
    let h7 = then_done _ _ h6.1 in
    let r = root_ok x h2.0 in
    let i = id_ok m.active m.defunct x h4.0 in
    let c : Comes m x =
    record {
      plain = t;
      new_a = i.0;
      new_d = i.1;
      scope = scope_ok m.active x h5.0;
      parent = λ c. absurd (against r.1 c);
      clear = λ a u v. against (non_yes _ (and_r _ _ v)) r.0;
    } in
    sound_by k (vehicle_in m x ws) (record {
      room = room_ok k (vehicle_in m x ws) h7.1;
      core = core_taken m (is_listed ws) x (m.revision + 1) f.core c (listed_old m.active ws h3.0 x i.0) (λ a u l.
          let w = children_ok (is_listed ws) m.active x h7.0 a u l in
          record { kind = r.0; low = listed_low m.active ws h3.0 a u l; owner = w.0; inside = w.1 });
    })

-- ---- renew
module _ (m : Model) (i : LockId) (e : ℕ) (has : Bool) (d : ℕ) where
  extend_cases : (P : ActiveLock → Type 0) (b : ActiveLock) → P (extended e has d b) → P b → P (extend_at i e has d b)
  unfolding extend_at
  extend_cases P b f g = cond_both P _ b (has_id i b) (λ t. f) (λ t. g)

  extend_same : (b : ActiveLock) → Same b (extend_at i e has d b)
  unfolding extended
  extend_same b = extend_cases (Same b) b (record { id = refl; scope = refl; coverage = refl; subject = refl }) (record { id = refl; scope = refl; coverage = refl; subject = refl })

  extend_neat : (b : ActiveLock) → neat_a (extend_at i e has d b) ≡ neat_a b
  unfolding extended neat_a neat_l
  extend_neat b = extend_cases (λ a. neat_a a ≡ neat_a b) b refl refl

  extend_child : (b : ActiveLock) → (extend_at i e has d b).child ≡ b.child
  unfolding extended
  extend_child b = extend_cases (λ a. a.child ≡ b.child) b refl refl

  extend_parent : (b p : ActiveLock) → Parent m.active b p → Parent m.active (extend_at i e has d b) p
  unfolding extended
  extend_parent b p w = extend_cases (λ a. Parent m.active a p) b (record { there = w.there; id = w.id; kind = w.kind; owner = w.owner; inside = w.inside }) w

  pub renew_keeps : (k : Limits) → Yes (sound k m) → Yes (sound k (renewed_in m i e has d))
  unfolding renewed_in
  renew_keeps k s =
      let f = stands_of k m s in
      let c = f.core in
      sound_by k (renewed_in m i e has d) (record {
        room = fits_less k m (renewed_in m i e has d) (omega (arith, length-map m.active (extend_at i e has d))) (omega arith) f.room;
        core = core_map m (extend_at i e has d) (m.revision + 1) c extend_same (λ a u. extend_neat a ∙ c.plain a u)
            (λ a u h. let w = c.parents a u (sym (extend_child a) ∙ h) in (w.0, extend_parent a w.0 w.1))
            (λ a u v. extend_child a ∙ c.roots a u v);
      })

-- ---- delete, begin_expiration
pub delete_keeps : (k : Limits) (m : Model) (r : ActiveLock) → Yes (sound k m) → Yes (sound k (without_tree m r))
unfolding without_tree
delete_keeps k m r s =
    let f = stands_of k m s in
    sound_by k (without_tree m r) (record {
      room = fits_less k m (without_tree m r) (rw (tree_kept r (start_parts m.active)) (filter_le (λ a. non (in_tree r a)) m.active)) (omega arith) f.room;
      core = core_tree m r (m.revision + 1) f.core;
    })

-- ---- acknowledge_defunct, expire_defunct: with the next revision or, at the last one, with the same
shed_keeps : (k : Limits) (m : Model) (t : List DefunctLock) → Shrinks m.defunct t → Yes (sound k m) → Yes (sound k (shed_in m t))
unfolding shed_in
shed_keeps k m t g s =
    let f = stands_of k m s in
    sound_by k (shed_in m t) (record { room = fits_less k m (shed_in m t) (omega arith) g.len f.room; core = core_shed m t _ f.core g })

pub acknowledge_keeps : (k : Limits) (m : Model) (i : LockId) → Yes (sound k m) → Yes (sound k (shed_in m (remove_d i m.defunct)))
acknowledge_keeps k m i s = shed_keeps k m (remove_d i m.defunct) (remove_d_shrinks i m.defunct) s

pub expire_keeps : (k : Limits) (m : Model) (ds : List DefunctLock) → Yes (sound k m) → Yes (sound k (shed_in m (remove_all ds m.defunct)))
expire_keeps k m ds s = shed_keeps k m (remove_all ds m.defunct) (remove_all_shrinks ds m.defunct) s

-- ---- commit_replacement
-- the gone locks are entered as defunct, one after the other, all pointing at the new id
module _ (x : ActiveLock) (by at : ℕ) where
  -- a lock that is gone from the active ones and not yet among the defunct ones
  record Loose (m : Model) (a : ActiveLock) : Type 0 where
    plain : Yes (neat_a a)
    off_a : (b : ActiveLock) → Mem b m.active → akey a ≡ akey b → ⊥
    off_d : (d : DefunctLock) → Mem d m.defunct → dkey d ≡ akey a → ⊥
    unlike : akey a ≡ akey x → ⊥

  entry_key : (a : ActiveLock) → dkey (to_defunct x by at a) ≡ akey a
  unfolding to_defunct
  entry_key a = refl

  entry_target : (a : ActiveLock) → key (to_defunct x by at a).target ≡ akey x
  unfolding to_defunct
  entry_target a = refl

  entry_neat : (a : ActiveLock) → Yes (neat_a a) → Yes (neat_d (to_defunct x by at a))
  unfolding to_defunct neat_a neat_d
  entry_neat a t = and_l _ _ t

  core_entered : (l : List ActiveLock) (m : Model) → Core m → ((d : DefunctLock) → Mem d m.defunct → dkey d ≡ akey x → ⊥)
      → ((a : ActiveLock) → Mem a l → Loose m a) → Fresh (map akey l)
      → Core (made m.revision m.active (enter_all (map (to_defunct x by at) l) m.defunct))
      × ((d : DefunctLock) → Mem d (enter_all (map (to_defunct x by at) l) m.defunct) → dkey d ≡ akey x → ⊥)
  core_entered [] m c n f o = (c, n)
  core_entered (a ∷ l) m c n f o =
      let d : DefunctLock = to_defunct x by at a in
      let g = f a (Memᴰ.head refl) in
      let m' : Model = made m.revision m.active (insert_by dkey d m.defunct) in
      let c' : Core m' =
      core_enter m d c (entry_neat a g.plain)
      (λ b u q. g.off_a b u (sym (entry_key a) ∙ q))
      (λ e u q. g.off_d e u (q ∙ entry_key a))
      (λ e u q. n e u (q ∙ entry_target a))
      (λ q. g.unlike (sym (entry_key a) ∙ q ∙ entry_target a)) in
      core_entered l m' c'
      (λ e u q. elim (insert→ dkey d m.defunct u) [ inl p ↦ g.unlike (sym (entry_key a) ∙ sym (ap dkey p) ∙ q) | inr v ↦ n e v q ])
      (λ b u.
      let h = f b (Memᴰ.tail u) in
      record {
        plain = h.plain;
        off_a = h.off_a;
        off_d = λ e v q.
            elim (insert→ dkey d m.defunct v) [
              | inl p ↦ o.0 (Memᴰ.cast (sym (entry_key a) ∙ sym (ap dkey p) ∙ q) (Memᴰ.map akey u))
              | inr w ↦ h.off_d e w q
            ];
        unlike = h.unlike;
      })
      o.1

pub replace_keeps : (k : Limits) (m : Model) (ws : List ℕ) (x : ActiveLock) (by at : ℕ) → Yes (neat_a x) → Yes (sound k m) → judge_replace k m ws x by at ≡ Ok tt → Yes (sound k (replaced_in m ws x by at))
unfolding check_entry replaced_in entered_of orphan has_id
replace_keeps k m ws x by at t s e =
    let f = stands_of k m s in
    let h1 = then_done _ _ (done_is _ (sym (judge_replace_lem k m ws x by at) ∙ e)) in
    let h2 = then_done _ _ h1.1 in
    let h3 = then_done _ _ h2.1 in
    let h4 = then_done _ _ h3.1 in
    let h5 = then_done _ _ h4.1 in
    let i = id_ok m.active m.defunct x (then_done _ _ (then_done _ _ h2.0).1).0 in
    let p : Parts = cut_of m ws in
    let c : Cut m p = cut_roots m ws f.core in
    let g =
    core_entered x by at p.gone (made m.revision p.kept m.defunct) c.core i.1
    (λ a u.
    let was = c.split.went a u in
    record {
      plain = f.core.plain a was;
      off_a = c.split.off a u;
      off_d = λ d v q. f.core.apart a was d v q;
      unlike = i.0 a was;
    })
    c.split.once in
    let m1 : Model = made m.revision p.kept (enter_all (map (to_defunct x by at) p.gone) m.defunct) in
    let n : Comes m1 x = insert_comes m1 x t (λ a u. i.0 a (c.split.stays a u)) g.1 h3.0 in
    sound_by k (replaced_in m ws x by at) (record {
      room = room_ok k (replaced_in m ws x by at) h5.1;
      core = core_taken m1 (orphan x) x (m.revision + 1) g.0 n
          (→no (orphan x x) (λ o. against (non_yes _ (and_r _ _ (and_l _ _ (and_l _ _ o)))) (eq-eqb (akey x) (akey x) refl)))
          (λ a u o.
          let v : Yes (is_vehicle x.lock.scope) = and_l _ _ (and_l _ _ (and_l _ _ o)) in
          let w = children_ok (orphan x) p.kept x h5.0 a u o in
          record { kind = v; low = →no _ (λ y. n.scope a u (one_vehicle _ _ y v)); owner = w.0; inside = w.1 });
    })
