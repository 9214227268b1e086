-- Changes of the lists that keep every remaining entry's story: an entry that goes, a list of entries, active locks that
-- change and hold at every entry's target what they held. Assumes nothing.
use mathlib.Core.Path.{◌≡◌, refl, sym, ap, subst, ◌∙◌}
use mathlib.Core.Bool.{true, false≢true}
use mathlib.Core.List.{List, [], ◌∷◌}
use Rattle.std.specs.Prelude.{Option, None, Some}
use Rattle.std.specs.Option.{option_map}
use Rattle.lists.proofs.Options.{None_ne_Some, Some_injective}
use mathlib.Core.Logic.{inl}
use Prim.Native.Nat.{ℕ}
use native.Mathlib.Omega.{arith}
use native.Mathlib.Decide.{ℕ_discrete}
use lib.Dec.{eqb}
use borrow.Author.Tests.{eq-eqb, eqb-true, le-leb, leb-true}
use Rattle.lists.specs.Tests.{Yes}
use Rattle.lists.specs.Lists.{find, Mem, ascending}
use Rattle.lists.proofs.Tests.{and_l, and_r, and_i}
use Rattle.lists.proofs.Lists.{all→, →all, find→, find_miss, find_key}
use Rattle.ids.specs.declared.LockId.{LockId}
use Rattle.ids.specs.Order.{key}
use Rattle.state.specs.declared.ActiveLock.{ActiveLock}
use Rattle.state.specs.declared.DefunctLock.{DefunctLock}
use Rattle.state.specs.Locks.{akey, dkey, has_id_d}
use Rattle.state.specs.Model.{Model}
use Rattle.rules.specs.Rules.{find_a, find_d, rule9}
use Rattle.rules.proofs.Ends.{rule9_of_ends}
use Rattle.lookups.specs.declared.Holder.{Holder}
use Rattle.lookups.specs.Reads.{holder_of}
use Rattle.operations.specs.Defuncts.{redirect, drop_entry, drop_found, remove_d, remove_all}
use Rattle.promises.proofs.Core.{Core}
use Rattle.promises.proofs.Going.{drop_gone, drop_kept, found_own, remove_d_shrinks}
use Rattle.promises.proofs.Keeping.{made, core_shed}
use Rattle.promises.proofs.Orders.{no_ring}
use Rattle.stories.specs.Stories.{same_story, keeps_story, keeps_stories}
use Rattle.stories.proofs.Ways.{held_at, drop_story, active_story}

-- ---- every entry that is found after was found before, and its story is the same
abbrev pub Keeps : Model → Model → Type 0
Keeps m n = (k : ℕ) (e : DefunctLock) → find_d n.defunct k ≡ Some e → (d : DefunctLock) × (find_d m.defunct k ≡ Some d) × Yes (same_story (holder_of m d) (holder_of n e))

-- in an ascending list that is the test
story_was : (m n : Model) (e : DefunctLock) (o : Option DefunctLock) → Yes (keeps_story m n e o) → (d : DefunctLock) × (o ≡ Some d) × Yes (same_story (holder_of m d) (holder_of n e))
story_was m n e None t = absurd (false≢true t)
story_was m n e (Some d) t = (d, refl, t)

pub keeps→ : (m n : Model) → Yes (keeps_stories m n) → Keeps m n
unfolding keeps_stories
keeps→ m n t k e f =
    let w = find→ (λ (d : DefunctLock). eqb (dkey d) k) n.defunct f in
    let z = story_was m n e (find_d m.defunct (dkey e)) (all→ _ t w.0) in
    (z.0, ap (find_d m.defunct) (sym (eqb-true (dkey e) k w.1)) ∙ z.1, z.2)

pub →keeps : (m n : Model) → Yes (ascending dkey n.defunct) → Keeps m n → Yes (keeps_stories m n)
unfolding keeps_stories
→keeps m n o f = →all _ n.defunct (λ e u.
    let z = f (dkey e) e (find_key dkey n.defunct o (dkey e) u refl) in
    rw z.1 z.2)

-- ---- nothing changes; one change after the other
same_refl : (h : Holder) → Yes (same_story h h)
unfolding same_story
same_refl h = and_i _ _ (eq-eqb h.subject h.subject refl) (le-leb h.links h.links (omega arith))

same_trans : (h i j : Holder) → Yes (same_story h i) → Yes (same_story i j) → Yes (same_story h j)
unfolding same_story
same_trans h i j s t =
    and_i _ _ (eq-eqb j.subject h.subject (eqb-true j.subject i.subject (and_l _ _ t) ∙ eqb-true i.subject h.subject (and_l _ _ s)))
    (le-leb j.links h.links (omega (arith, leb-true i.links h.links (and_r _ _ s), leb-true j.links i.links (and_r _ _ t))))

pub keeps_refl : (m : Model) → Keeps m m
keeps_refl m k e f = (e, f, same_refl (holder_of m e))

pub keeps_trans : (m n o : Model) → Keeps m n → Keeps n o → Keeps m o
keeps_trans m n o f g k e q =
    let b = g k e q in
    let a = f k b.0 b.1 in
    (a.0, a.1, same_trans (holder_of m a.0) (holder_of n b.0) (holder_of o e) a.2 b.2)

-- ---- rule 9, of a state as facts
nine : (m : Model) → Core m → rule9 m ≡ true
nine m c = rule9_of_ends m (λ d u. c.ends (dkey d))

-- ---- an entry goes; with any revision, as at the last one it is the same
found_was : (e d : DefunctLock) (o : Option DefunctLock) → option_map (redirect e) o ≡ Some d → (b : DefunctLock) × (o ≡ Some b) × (redirect e b ≡ d)
found_was e d None q = absurd (None_ne_Some d q)
found_was e d (Some b) q = (b, refl, Some_injective _ _ q)

module _ (m : Model) (c : Core m) (r : ℕ) where
  drop_keeps : (e : DefunctLock) → find_d m.defunct (dkey e) ≡ Some e → rule9 (made r m.active (drop_entry e m.defunct)) ≡ true → Keeps m (made r m.active (drop_entry e m.defunct))
  drop_keeps e at p k d f =
      elim (ℕ_discrete k (dkey e)) [
        | yes q ↦ absurd (None_ne_Some d (sym (drop_gone e m.defunct k q) ∙ f))
        | no q ↦
            let w = found_was e d (find_d m.defunct k) (sym (drop_kept e m.defunct k q) ∙ f) in (
              w.0,
              w.1,
              subst (λ (x : DefunctLock). Yes (same_story (holder_of m w.0) (holder_of (made r m.active (drop_entry e m.defunct)) x))) w.2
                  (drop_story m r e at off self (nine m c) p w.0),
            )
      ]
    where
      off : find_a m.active (dkey e) ≡ None
      off = find_miss _ m.active (λ a u t. c.apart a u e (find→ _ m.defunct at).0 (sym (eqb-true (akey a) (dkey e) t)))

      self : key e.target ≡ dkey e → ⊥
      self q = no_ring m.defunct e e (ap (find_d m.defunct) q ∙ at) (ap (find_d m.defunct) q ∙ at) (c.ends (key e.target)) (inl refl)

-- ---- the active locks become l, which hold at every entry's target what those before held
pub active_keeps : (m : Model) → Core m → (r : ℕ) (l : List ActiveLock) → ((d : DefunctLock) → Mem d m.defunct → held_at l (key d.target) ≡ held_at m.active (key d.target)) → Keeps m (made r l m.defunct)
active_keeps m c r l like k e f = (e, f, active_story m r l like (nine m c) e (find→ _ m.defunct f).0)

-- another revision
revision_keeps : (m : Model) → Core m → (r : ℕ) → Keeps m (made r m.active m.defunct)
revision_keeps m c r = active_keeps m c r m.active (λ d u. refl)

-- ---- an entry by its id, and a list of them
pub remove_keeps : (m : Model) → Core m → (r : ℕ) (i : LockId) → Keeps m (made r m.active (remove_d i m.defunct))
unfolding remove_d
remove_keeps m c r i = go (find (has_id_d i) m.defunct) refl (nine _ (core_shed m (remove_d i m.defunct) r c (remove_d_shrinks i m.defunct)))
  where
    go : (o : Option DefunctLock) → find (has_id_d i) m.defunct ≡ o → rule9 (made r m.active (drop_found o m.defunct)) ≡ true → Keeps m (made r m.active (drop_found o m.defunct))
    go None q p = revision_keeps m c r
    go (Some e) q p = drop_keeps m c r e (found_own i m.defunct e q).1 p

pub remove_all_keeps : (ds : List DefunctLock) (m : Model) → Core m → (r : ℕ) → Keeps m (made r m.active (remove_all ds m.defunct))
remove_all_keeps [] m c r = revision_keeps m c r
remove_all_keeps (d ∷ ds) m c r =
    let n = made r m.active (remove_d d.lock.id m.defunct) in
    keeps_trans m n _ (remove_keeps m c r d.lock.id) (remove_all_keeps ds n (core_shed m n.defunct r c (remove_d_shrinks d.lock.id m.defunct)) r)
