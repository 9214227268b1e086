-- What is true of every lock of a state stays true of every lock: P of the active locks, Q of the defunct entries. An
-- operation makes locks in four ways only: it takes a new one in, gives one a parent, renews one, enters one as broken and
-- redirects an entry. Where P and Q are kept by these, they are kept by the operation. Assumes nothing.
use mathlib.Core.Path.{◌≡◌, refl, sym, subst}
use mathlib.Core.Bool.{Bool}
use mathlib.Core.List.Memᴰ
use mathlib.Core.List.{List, [], ◌∷◌, map, Memᴰ}
use Rattle.std.specs.Prelude.{Option, None, Some}
use mathlib.Core.Logic.{inl, inr}
use Prim.Native.Nat.{ℕ}
use Rattle.lists.specs.Tests.{non, Yes}
use Rattle.lists.specs.Lists.{Mem, find, filter, insert_by}
use Rattle.lists.proofs.Tests.{cond_both}
use Rattle.lists.proofs.Lists.{filter→, find→, insert→}
use Rattle.ids.specs.declared.LockId.{LockId}
use Rattle.state.specs.declared.ActiveLock.{ActiveLock}
use Rattle.state.specs.declared.DefunctLock.{DefunctLock}
use Rattle.state.specs.Locks.{akey, dkey, has_id, has_id_d}
use Rattle.state.specs.Model.{Model, Limits}
use Rattle.rules.specs.Rules.{sound}
use Rattle.operations.specs.Defuncts.{redirect, other, drop_found, remove_d, remove_all, superseded, supersede, to_defunct, enter_all}
use Rattle.operations.specs.Trees.{start_parts, in_tree, is_listed}
use Rattle.operations.specs.Insert.{inserted_in}
use Rattle.operations.specs.Vehicle.{nest, adopt, vehicle_in}
use Rattle.operations.specs.Renew.{extended, extend_at, renewed_in}
use Rattle.operations.specs.Delete.{without_tree}
use Rattle.operations.specs.Replace.{orphan, cut_of, entered_of, replaced_in}
use Rattle.operations.specs.Acknowledge.{shed_in}
use Rattle.promises.proofs.Core.{stands_of}
use Rattle.promises.proofs.Removal.{tree_kept, cut_roots}

pub record Held (P : ActiveLock → Type 0) (Q : DefunctLock → Type 0) (m : Model) : Type 0 where
  pub active : (a : ActiveLock) → Mem a m.active → P a
  pub defunct : (d : DefunctLock) → Mem d m.defunct → Q d

module _ (P : ActiveLock → Type 0) (Q : DefunctLock → Type 0)
    (nests : (x a : ActiveLock) → P x → P a → P (nest x a)) (redirects : (g d : DefunctLock) → Q g → Q d → Q (redirect g d)) where
  abbrev pub All : List DefunctLock → Type 0
  All t = (d : DefunctLock) → Mem d t → Q d

  -- ---- entries
  drop_holds : (t : List DefunctLock) (o : Option DefunctLock) → ((g : DefunctLock) → o ≡ Some g → Mem g t) → All t → All (drop_found o t)
  drop_holds t None there h d u = h d u
  drop_holds t (Some g) there h d u =
      let w = Memᴰ.of_map (redirect g) (filter (other g) t) u in
      subst Q w.2 (redirects g w.0 (h g (there g refl)) (h w.0 (filter→ (other g) t w.1).0))

  pub remove_holds : (i : LockId) (t : List DefunctLock) → All t → All (remove_d i t)
  unfolding remove_d
  remove_holds i t h = drop_holds t (find (has_id_d i) t) (λ g e. (find→ (has_id_d i) t e).0) h

  pub all_holds : (ds t : List DefunctLock) → All t → All (remove_all ds t)
  all_holds [] t h = h
  all_holds (d ∷ ds) t h = all_holds ds (remove_d d.lock.id t) (remove_holds d.lock.id t h)

  supersede_holds : (x : ActiveLock) (t : List DefunctLock) → All t → All (supersede x t)
  unfolding supersede
  supersede_holds x t h = all_holds (filter (superseded x) t) t h

  enter_holds : (ds t : List DefunctLock) → All ds → All t → All (enter_all ds t)
  enter_holds [] t g h = h
  enter_holds (d ∷ ds) t g h =
      enter_holds ds (insert_by dkey d t) (λ e u. g e (Memᴰ.tail u))
      (λ e u. elim (insert→ dkey d t u) [ inl q ↦ subst Q (sym q) (g d (Memᴰ.head refl)) | inr v ↦ h e v ])

  -- ---- locks
  adopt_holds : (p : ActiveLock → Bool) (x : ActiveLock) (l : List ActiveLock) → P x → ((a : ActiveLock) → Mem a l → P a) → (a : ActiveLock) → Mem a (map (adopt p x) l) → P a
  unfolding adopt
  adopt_holds p x l px h a u =
      let w = Memᴰ.of_map (adopt p x) l u in
      subst P w.2 (cond_both P (nest x w.0) w.0 (p w.0) (λ t. nests x w.0 px (h w.0 w.1)) (λ t. h w.0 w.1))

  put_holds : (x : ActiveLock) (l : List ActiveLock) → P x → ((a : ActiveLock) → Mem a l → P a) → (a : ActiveLock) → Mem a (insert_by akey x l) → P a
  put_holds x l px h a u = elim (insert→ akey x l u) [ inl q ↦ subst P (sym q) px | inr v ↦ h a v ]

  -- ---- the operations' next states
  module _ (m : Model) (h : Held P Q m) where
    pub insert_holds : (x : ActiveLock) → P x → Held P Q (inserted_in m x)
    unfolding inserted_in
    insert_holds x px = record { active = put_holds x m.active px h.active; defunct = supersede_holds x m.defunct h.defunct }

    pub vehicle_holds : (x : ActiveLock) (ws : List ℕ) → P x → Held P Q (vehicle_in m x ws)
    unfolding vehicle_in inserted_in
    vehicle_holds x ws px =
        record {
          active = put_holds x (map (adopt (is_listed ws) x) m.active) px (adopt_holds (is_listed ws) x m.active px h.active);
          defunct = supersede_holds x m.defunct h.defunct;
        }

    pub renew_holds : (i : LockId) (e : ℕ) (has : Bool) (d : ℕ) → ((a : ActiveLock) → P a → P (extended e has d a)) → Held P Q (renewed_in m i e has d)
    unfolding renewed_in extend_at
    renew_holds i e has d extends =
        record {
          active = λ a u.
              let w = Memᴰ.of_map (extend_at i e has d) m.active u in
              let p = h.active w.0 w.1 in
              subst P w.2 (cond_both P (extended e has d w.0) w.0 (has_id i w.0) (λ t. extends w.0 p) (λ t. p));
          defunct = h.defunct;
        }

    pub delete_holds : (r : ActiveLock) → Held P Q (without_tree m r)
    unfolding without_tree
    delete_holds r =
        record {
          active = λ a u. h.active a (filter→ (λ b. non (in_tree r b)) m.active (subst (λ (l : List ActiveLock). Mem a l) (tree_kept r (start_parts m.active)) u)).0;
          defunct = h.defunct;
        }

    pub shed_holds : (t : List DefunctLock) → All t → Held P Q (shed_in m t)
    unfolding shed_in
    shed_holds t g = record { active = h.active; defunct = g }

    pub replace_holds : (k : Limits) → Yes (sound k m) → (ws : List ℕ) (x : ActiveLock) (by at : ℕ) → P x → ((a : ActiveLock) → P a → Q (to_defunct x by at a)) → Held P Q (replaced_in m ws x by at)
    unfolding replaced_in entered_of
    replace_holds k s ws x by at px enters =
        let c = (cut_roots m ws (stands_of k m s).core).split in
        record {
          active = put_holds x (map (adopt (orphan x) x) (cut_of m ws).kept) px (adopt_holds (orphan x) x (cut_of m ws).kept px (λ a u. h.active a (c.stays a u)));
          defunct =
              supersede_holds x (enter_all (map (to_defunct x by at) (cut_of m ws).gone) m.defunct)
              (enter_holds (map (to_defunct x by at) (cut_of m ws).gone) m.defunct
              (λ d u. let w = Memᴰ.of_map (to_defunct x by at) (cut_of m ws).gone u in subst Q w.2 (enters w.0 (h.active w.0 (c.went w.0 w.1))))
              h.defunct);
        }
