-- Trees of active locks that go. A tree is closed under parents: what stays keeps its parent. What went was active, is
-- not among what stays, and has no id twice; no lock is lost. Assumes nothing.
use mathlib.Core.Path.{◌≡◌, refl, sym, ◌∙◌, subst}
use mathlib.Core.Bool.{Bool, true, false}
use mathlib.Core.List.Memᴰ
use mathlib.Core.List.{List, [], ◌∷◌, ◌++◌, map, map-append}
use mathlib.Core.Logic.{◌⊎◌, inl, inr}
use Prim.Native.Nat.{ℕ}
use lib.Dec.{eqb}
use borrow.Author.Tests.{eq-eqb, eqb-true}
use Rattle.lists.specs.Tests.{◌and◌, ◌or◌, non, Yes, No}
use Rattle.lists.specs.Lists.{any, filter, Mem, Fresh, ascending}
use Rattle.lists.proofs.Tests.{against, →no, non_yes, yes_non, and_l, and_r, and_i, or_e, or_l, cond_both, by}
use Rattle.lists.proofs.Lists.{filter→, →filter, from_filter, from_unique}
use Rattle.ids.specs.Order.{key}
use Rattle.coverage.specs.declared.LockCoverage.{LockCoverage}
use Rattle.state.specs.declared.ScopeKey.{ScopeKey}
use Rattle.state.specs.declared.ScopeKey.TheVariants.{Vehicle, Ecu, FunctionalGroup}
use Rattle.state.specs.declared.ActiveLock.{ActiveLock}
use Rattle.state.specs.Locks.{akey, is_vehicle, ecu_in, has_id}
use Rattle.state.specs.Model.{Model}
use Rattle.lookups.specs.Reads.{narrow}
use Rattle.operations.specs.Trees.{child_of, in_tree, Parts, take_parts, tree_parts, root_parts, cut_all, start_parts, is_listed, roots_parts}
use Rattle.lists.proofs.Further.{fresh_from, fresh_append, filter_filter, filter_agree}
use Rattle.promises.proofs.Core.{Parent, Core}
use Rattle.promises.proofs.Keeping.{made, core_filter}

-- ---- a tree is closed under parents
no_ecu : (c : LockCoverage) (k : ScopeKey) → Yes (is_vehicle k) → No (ecu_in c k)
unfolding is_vehicle ecu_in
no_ecu c Vehicle t = refl
no_ecu c (Ecu n) t = absurd (against refl t)
no_ecu c (FunctionalGroup n) t = refl

pub tree_closed : (m : Model) (r : ActiveLock) → Core m → (a p : ActiveLock) → Mem a m.active → Yes a.child → No (in_tree r a) → Parent m.active a p → No (in_tree r p)
unfolding in_tree child_of narrow has_id
tree_closed m r s a p u c h w = →no (in_tree r p) (λ t. go (or_e (child_of r p or narrow r p) (has_id r.lock.id p) t))
  where
    step : Yes (child_of r p) ⊎ Yes (narrow r p) → ⊥
    step (inl x) = against (s.roots p w.there w.kind) (and_l p.child _ x)
    step (inr x) = against (no_ecu r.lock.coverage p.lock.scope w.kind) (and_r _ _ x)

    go : Yes (child_of r p or narrow r p) ⊎ Yes (has_id r.lock.id p) → ⊥
    go (inl x) = step (or_e (child_of r p) (narrow r p) x)
    go (inr x) = against h (or_l _ _ (or_l _ _ (and_i a.child (eqb (key a.parent) (akey r)) c (eq-eqb _ _ (sym w.id ∙ eqb-true _ _ x)))))

-- ---- what a tree leaves
non_three : (a b c : Bool) → (non a and (non b and non c)) ≡ non (a or b or c)
unfolding ◌and◌ ◌or◌ non
non_three true b c = refl
non_three false true c = refl
non_three false false c = refl

pub tree_kept : (r : ActiveLock) (p : Parts) → (tree_parts r p).kept ≡ filter (λ a. non (in_tree r a)) p.kept
unfolding tree_parts in_tree
tree_kept r p =
    filter_filter (λ a. non (has_id r.lock.id a)) (λ a. non (narrow r a)) (filter (λ a. non (child_of r a)) p.kept)
    ∙ filter_filter (λ a. non (narrow r a) and non (has_id r.lock.id a)) (λ a. non (child_of r a)) p.kept
    ∙ filter_agree (λ a. non (child_of r a) and (non (narrow r a) and non (has_id r.lock.id a))) (λ a. non (in_tree r a)) p.kept
    (λ a. non_three (child_of r a) (narrow r a) (has_id r.lock.id a))

pub core_tree : (m : Model) (r : ActiveLock) (n : ℕ) → Core m → Core (made n (tree_parts r (start_parts m.active)).kept m.defunct)
core_tree m r n s =
    rw (tree_kept r (start_parts m.active))
    (core_filter m (λ a. non (in_tree r a)) n s (λ a p u c h w. yes_non _ (tree_closed m r s a p u c (non_yes _ h) w)))

-- ---- the locks l in two parts
pub record Split (l : List ActiveLock) (p : Parts) : Type 0 where
  pub order : Yes (ascending akey p.kept)
  pub stays : (a : ActiveLock) → Mem a p.kept → Mem a l
  pub went : (a : ActiveLock) → Mem a p.gone → Mem a l
  pub off : (a : ActiveLock) → Mem a p.gone → (b : ActiveLock) → Mem b p.kept → akey a ≡ akey b → ⊥
  pub once : Fresh (map akey p.gone)
  pub both : (a : ActiveLock) → Mem a l → Mem a p.kept ⊎ Mem a p.gone

pub split_start : (l : List ActiveLock) → Yes (ascending akey l) → Split l (start_parts l)
split_start l o = record { order = o; stays = λ a u. u; went = λ a u. absurd (Memᴰ.not-nil u); off = λ a u. absurd (Memᴰ.not-nil u); once = tt; both = λ a u. inl u }

split_take : (l : List ActiveLock) (q : ActiveLock → Bool) (p : Parts) → Split l p → Split l (take_parts q p)
split_take l q p s =
    record {
      order = from_filter akey (λ a. non (q a)) 0 p.kept s.order;
      stays = λ a u. s.stays a (filter→ (λ a. non (q a)) p.kept u).0;
      went = λ a u. elim (Memᴰ.append_cases p.gone u) [ inl v ↦ s.went a v | inr v ↦ s.stays a (filter→ q p.kept v).0 ];
      off = λ a u b v e.
          let z = filter→ (λ a. non (q a)) p.kept v in
          elim (Memᴰ.append_cases p.gone u) [
            | inl w ↦ s.off a w b z.0 e
            | inr w ↦
                let y = filter→ q p.kept w in
                against (non_yes (q b) z.1) (subst (λ (x : ActiveLock). Yes (q x)) (from_unique akey 0 s.order y.0 z.0 e) y.1)
          ];
      once =
          rw (map-append akey p.gone (filter q p.kept))
          (fresh_append (map akey p.gone) (map akey (filter q p.kept)) s.once (fresh_from akey 0 (filter q p.kept) (from_filter akey q 0 p.kept s.order))
          (λ n u v.
          let w = Memᴰ.of_map akey p.gone u in
          let z = Memᴰ.of_map akey (filter q p.kept) v in
          s.off w.0 w.1 z.0 (filter→ q p.kept z.1).0 (w.2 ∙ sym z.2)));
      both = λ a u.
          elim (s.both a u) [
            | inl v ↦
                by (q a) (Mem a (filter (λ a. non (q a)) p.kept) ⊎ Mem a (p.gone ++ filter q p.kept))
                (λ t. inr (Memᴰ.append_right p.gone (→filter q p.kept v t)))
                (λ t. inl (→filter (λ a. non (q a)) p.kept v (yes_non (q a) t)))
            | inr v ↦ inr (Memᴰ.append_left (filter q p.kept) v)
          ];
    }

split_tree : (l : List ActiveLock) (r : ActiveLock) (p : Parts) → Split l p → Split l (tree_parts r p)
unfolding tree_parts
split_tree l r p s = split_take l (has_id r.lock.id) _ (split_take l (narrow r) _ (split_take l (child_of r) p s))

-- ---- the trees of several roots, one after the other
module _ (m : Model) where
  pub record Cut (p : Parts) : Type 0 where
    pub core : Core (made m.revision p.kept m.defunct)
    pub split : Split m.active p

  cut_tree : (r : ActiveLock) (p : Parts) → Cut p → Cut (tree_parts r p)
  cut_tree r p c =
      record {
        core = rw (tree_kept r p) (rw (tree_kept r (start_parts p.kept)) at (core_tree (made m.revision p.kept m.defunct) r m.revision c.core));
        split = split_tree m.active r p c.split;
      }

  cut_root : (r : ActiveLock) (p : Parts) → Cut p → Cut (root_parts r p)
  unfolding root_parts
  cut_root r p c = cond_both Cut (tree_parts r p) p (any (has_id r.lock.id) p.kept) (λ t. cut_tree r p c) (λ t. c)

  cut_all_lem : (rs : List ActiveLock) (p : Parts) → Cut p → Cut (cut_all rs p)
  cut_all_lem [] p c = c
  cut_all_lem (r ∷ rs) p c = cut_all_lem rs (root_parts r p) (cut_root r p c)

  pub cut_roots : (ws : List ℕ) → Core m → Cut (roots_parts ws m.active)
  unfolding roots_parts
  cut_roots ws s = cut_all_lem (filter (is_listed ws) m.active) (start_parts m.active) (record { core = s; split = split_start m.active s.order })
