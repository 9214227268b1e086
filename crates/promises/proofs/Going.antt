-- Defunct entries that go: who is found afterwards, and what a table keeps when entries go (Shrinks): order, plain parts,
-- no ring. Entries pointing at a gone one take over its target, so a walk that ended still ends.
-- Assumes nothing.
use mathlib.Core.Path.{◌≡◌, refl, sym, ap, ◌∙◌, subst}
use mathlib.Core.List.Memᴰ
use mathlib.Core.List.{List, [], ◌∷◌}
use Rattle.std.specs.Prelude.{Option, None, Some}
use Rattle.std.specs.Option.{option_map}
use Rattle.lists.proofs.Options.{None_ne_Some, Some_injective}
use Prim.Native.Nat.{ℕ, ◌≤◌}
use native.Mathlib.Omega.{arith}
use native.Mathlib.Decide.{ℕ_discrete}
use lib.ListN.{length}
use lib.Dec.{eqb}
use borrow.Author.Tests.{eq-eqb, ne_eqb, eqb-true}
use Rattle.lists.specs.Tests.{Yes}
use Rattle.lists.specs.Lists.{find, filter, Mem, ascending}
use Rattle.lists.proofs.Tests.{against, non_yes, yes_non}
use Rattle.lists.proofs.Lists.{filter→, find→, find_miss, find_filter, find_map, from_filter, from_map}
use Rattle.ids.specs.declared.LockId.{LockId}
use Rattle.ids.specs.Order.{key}
use Rattle.state.specs.declared.Lock.{Lock}
use Rattle.state.specs.declared.ActiveLock.{ActiveLock}
use Rattle.state.specs.declared.DefunctLock.{DefunctLock}
use Rattle.state.specs.Locks.{dkey, has_id_d}
use Rattle.rules.specs.Rules.{find_d}
use Rattle.rules.proofs.Ends.{Ends, done, step}
use Rattle.operations.specs.Defuncts.{redirect, other, drop_entry, drop_found, remove_d, remove_all, superseded, supersede}
use Rattle.operations.proofs.Leaving.{remove_le, redirect_yes, redirect_no, redirect_lock}
use Rattle.promises.proofs.Core.{Acyclic}

-- ---- redirection changes target and holder alone
pub redirect_key : (e d : DefunctLock) → dkey (redirect e d) ≡ dkey d
redirect_key e d = ap (λ (x : Lock). key x.id) (redirect_lock e d)

pub redirect_hit : (e d : DefunctLock) → key d.target ≡ dkey e → (redirect e d).target ≡ e.target
redirect_hit e d q = ap (λ (x : DefunctLock). x.target) (sym (redirect_yes e d (eq-eqb _ _ q)))

pub redirect_miss : (e d : DefunctLock) → (key d.target ≡ dkey e → ⊥) → redirect e d ≡ d
redirect_miss e d q = sym (redirect_no e d (ne_eqb _ _ q))

pub other_yes : (e d : DefunctLock) → (dkey d ≡ dkey e → ⊥) → Yes (other e d)
unfolding other has_id_d
other_yes e d q = yes_non _ (ne_eqb _ _ q)

pub other→ : (e d : DefunctLock) → Yes (other e d) → dkey d ≡ dkey e → ⊥
unfolding other has_id_d
other→ e d t q = against (non_yes _ t) (eq-eqb _ _ q)

-- ---- who is found after the entry e has gone
pub drop_gone : (e : DefunctLock) (t : List DefunctLock) (k : ℕ) → k ≡ dkey e → find_d (drop_entry e t) k ≡ None
drop_gone e t k q = find_miss (λ d. eqb (dkey d) k) (drop_entry e t) (λ d m u.
    let w = Memᴰ.of_map (redirect e) (filter (other e) t) m in
    let v = filter→ (other e) t w.1 in
    other→ e w.0 v.1 (sym (redirect_key e w.0) ∙ ap dkey w.2 ∙ eqb-true (dkey d) k u ∙ q))

pub drop_kept : (e : DefunctLock) (t : List DefunctLock) (k : ℕ) → (k ≡ dkey e → ⊥) → find_d (drop_entry e t) k ≡ option_map (redirect e) (find_d t k)
drop_kept e t k q =
    find_map (λ d. eqb (dkey d) k) (redirect e) (filter (other e) t) (λ d. ap (λ (n : ℕ). eqb n k) (redirect_key e d))
    ∙ ap (option_map (redirect e)) (find_filter (λ d. eqb (dkey d) k) (other e) t (λ d u. other_yes e d (λ v. q (sym (eqb-true (dkey d) k u) ∙ v))))

-- ---- the walk still ends
module _ (e : DefunctLock) (t : List DefunctLock) (at : find_d t (dkey e) ≡ Some e) where
  pub drop_out : (k : ℕ) → find_d t k ≡ None → find_d (drop_entry e t) k ≡ None
  drop_out k n = drop_kept e t k (λ q. None_ne_Some e (sym n ∙ ap (find_d t) q ∙ at)) ∙ ap (option_map (redirect e)) n

  drop_step : (k : ℕ) (d : DefunctLock) → find_d t k ≡ Some d → Ends (drop_entry e t) (key d.target) → (key d.target ≡ dkey e → Ends (drop_entry e t) (key e.target)) → Ends (drop_entry e t) k
  drop_step k d f r s =
      elim (ℕ_discrete k (dkey e)) [
        | yes q ↦ done (drop_gone e t k q)
        | no q ↦
            step (drop_kept e t k q ∙ ap (option_map (redirect e)) f)
            (elim (ℕ_discrete (key d.target) (dkey e)) [ yes u ↦ rw (redirect_hit e d u) (s u) | no u ↦ rw (redirect_miss e d u) r ])
      ]

  -- from any id, and from the gone entry's target
  ends_drop : {k : ℕ} → Ends t k → Ends (drop_entry e t) k × (k ≡ dkey e → Ends (drop_entry e t) (key e.target))
  ends_drop {k} (done n) = (done (drop_out k n), λ q. absurd (None_ne_Some e (sym n ∙ ap (find_d t) q ∙ at)))
  ends_drop {k} (step {d = d} f r) =
      let h = ends_drop r in (
        drop_step k d f h.0 h.1,
        λ q. subst (λ (x : DefunctLock). Ends (drop_entry e t) (key x.target)) (Some_injective d e (sym f ∙ ap (find_d t) q ∙ at)) h.0,
      )

-- the entry that is found by an id is found by its own
pub found_own : (i : LockId) (t : List DefunctLock) (e : DefunctLock) → find (has_id_d i) t ≡ Some e → (dkey e ≡ key i) × (find_d t (dkey e) ≡ Some e)
unfolding has_id_d
found_own i t e q = let h = eqb-true (dkey e) (key i) (find→ (λ d. eqb (dkey d) (key i)) t q).1 in (h, ap (find_d t) h ∙ q)

pub ends_remove_d : (i : LockId) (t : List DefunctLock) (k : ℕ) → Ends t k → Ends (remove_d i t) k
unfolding remove_d
ends_remove_d i t k r = go (find (has_id_d i) t) refl
  where
    go : (o : Option DefunctLock) → find (has_id_d i) t ≡ o → Ends (drop_found o t) k
    go None q = r
    go (Some e) q = (ends_drop e t (found_own i t e q).1 r).0

-- ---- what a table keeps
pub record Shrinks (t u : List DefunctLock) : Type 0 where
  pub len : length u ≤ length t
  pub order : Yes (ascending dkey t) → Yes (ascending dkey u)
  pub was : (d : DefunctLock) → Mem d u → (e : DefunctLock) × Mem e t × (d.lock ≡ e.lock)
  pub ends : Acyclic t → Acyclic u

shrinks_refl : (t : List DefunctLock) → Shrinks t t
shrinks_refl t = record { len = omega arith; order = λ o. o; was = λ d u. (d, u, refl); ends = λ e. e }

shrinks_trans : {t u v : List DefunctLock} → Shrinks t u → Shrinks u v → Shrinks t v
shrinks_trans f g =
    record {
      len = omega (arith, f.len, g.len);
      order = λ o. g.order (f.order o);
      was = λ d m. let w = g.was d m in let z = f.was w.0 w.1 in (z.0, z.1, w.2 ∙ z.2);
      ends = λ e. g.ends (f.ends e);
    }

module _ (t : List DefunctLock) where
  drop_order : (o : Option DefunctLock) → Yes (ascending dkey t) → Yes (ascending dkey (drop_found o t))
  drop_order None h = h
  drop_order (Some e) h = rw (from_map dkey (redirect e) (redirect_key e)) (from_filter dkey (other e) 0 t h)

  drop_was : (o : Option DefunctLock) (d : DefunctLock) → Mem d (drop_found o t) → (e : DefunctLock) × Mem e t × (d.lock ≡ e.lock)
  drop_was None d u = (d, u, refl)
  drop_was (Some e) d u =
      let w = Memᴰ.of_map (redirect e) (filter (other e) t) u in
      (w.0, (filter→ _ t w.1).0, sym (ap (λ (x : DefunctLock). x.lock) w.2) ∙ redirect_lock e w.0)

pub remove_d_shrinks : (i : LockId) (t : List DefunctLock) → Shrinks t (remove_d i t)
unfolding remove_d
remove_d_shrinks i t =
    record {
      len = remove_le i t;
      order = drop_order t (find (has_id_d i) t);
      was = drop_was t (find (has_id_d i) t);
      ends = λ e k. ends_remove_d i t k (e k);
    }

pub remove_all_shrinks : (ds t : List DefunctLock) → Shrinks t (remove_all ds t)
remove_all_shrinks [] t = shrinks_refl t
remove_all_shrinks (d ∷ ds) t = shrinks_trans (remove_d_shrinks d.lock.id t) (remove_all_shrinks ds (remove_d d.lock.id t))

pub supersede_shrinks : (x : ActiveLock) (t : List DefunctLock) → Shrinks t (supersede x t)
unfolding supersede
supersede_shrinks x t = remove_all_shrinks (filter (superseded x) t) t
