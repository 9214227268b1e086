-- What can be followed from an id (Follows), after a change of the state.
--     drop_story     an entry goes: who is followed past it comes to the same holder, through no more entries
--     active_story   active locks change, and at every entry's target the same subject holds: the way is the same
-- Assumes nothing.
use mathlib.Core.Path.{◌≡◌, refl, sym, ap, subst, ◌∙◌}
use mathlib.Core.Bool.{true}
use mathlib.Core.List.{List, [], ◌∷◌}
use Rattle.std.specs.Prelude.{Option, None, Some}
use Rattle.std.specs.Option.{option_map}
use Rattle.lists.proofs.Options.{None_ne_Some, Some_ne_None, Some_injective}
use Prim.Native.Nat.{ℕ, ◌≤◌}
use native.Mathlib.Omega.{arith}
use native.Mathlib.Decide.{ℕ_discrete}
use lib.ListN.{length}
use borrow.Author.Tests.{eq-eqb, le-leb}
use Rattle.lists.specs.Tests.{Yes}
use Rattle.lists.specs.Lists.{Mem}
use Rattle.lists.proofs.Tests.{and_i}
use Rattle.lists.proofs.Lists.{find→}
use Rattle.ids.specs.Order.{key}
use Rattle.state.specs.declared.ActiveLock.{ActiveLock}
use Rattle.state.specs.declared.DefunctLock.{DefunctLock}
use Rattle.state.specs.Locks.{dkey}
use Rattle.state.specs.Model.{Model}
use Rattle.rules.specs.Rules.{find_a, find_d, rule9}
use Rattle.lookups.specs.Reads.{Follows, holds, leads, passes, holder_of}
use Rattle.lookups.proofs.Follow.{holder_follows, holder_exact}
use Rattle.operations.specs.Defuncts.{redirect, drop_entry}
use Rattle.operations.proofs.Leaving.{redirect_yes}
use Rattle.promises.proofs.Going.{redirect_miss, drop_kept, drop_out}
use Rattle.promises.proofs.Keeping.{made}
use Rattle.stories.specs.Stories.{same_story}

-- from the id k, named with the holder h, the subject u holds in n, and no more entries are passed than ds
abbrev Within : Model → ℕ → ℕ → List DefunctLock → ℕ → Type 0
Within n k h ds u = (es : List DefunctLock) × Follows n k h es u × (length es ≤ length ds)

-- ---- the story of d in m, and that of e in n: ways to one holder, the later no longer
same_by : (m n : Model) → rule9 m ≡ true → rule9 n ≡ true → (d e : DefunctLock)
    → ((ds : List DefunctLock) (u : ℕ) → Follows m (key d.target) d.holder ds u → Within n (key e.target) e.holder ds u)
    → Yes (same_story (holder_of m d) (holder_of n e))
unfolding same_story
same_by m n p q d e f =
    let w = holder_follows m p d in
    let z = f w.passed (holder_of m d).subject w.follows in
    let x = holder_exact n q e z.0 (holder_of m d).subject z.1 in
    and_i _ _ (eq-eqb _ _ x.1) (le-leb (holder_of n e).links (holder_of m d).links (omega (arith, x.0, w.count, z.2)))

-- ---- the entry e goes, which no active lock has the id of and which doesn't point at itself
module _ (m : Model) (r : ℕ) (e : DefunctLock) (at : find_d m.defunct (dkey e) ≡ Some e) (off : find_a m.active (dkey e) ≡ None) (self : key e.target ≡ dkey e → ⊥) where
  abbrev left : Model
  left = made r m.active (drop_entry e m.defunct)

  -- d is followed from where it points, or, if that is e, from where e does
  turned : (d : DefunctLock) (ds : List DefunctLock) (u : ℕ)
      → ((key d.target ≡ dkey e → ⊥) → Within left (key d.target) d.holder ds u)
      → (key d.target ≡ dkey e → Within left (key e.target) e.holder ds u)
      → Within left (key (redirect e d).target) (redirect e d).holder ds u
  turned d ds u f g = elim (ℕ_discrete (key d.target) (dkey e)) [
    | yes q ↦ subst (λ (x : DefunctLock). Within left (key x.target) x.holder ds u) (redirect_yes e d (eq-eqb _ _ q)) (g q)
    | no q ↦ subst (λ (x : DefunctLock). Within left (key x.target) x.holder ds u) (sym (redirect_miss e d q)) (f q)
  ]

  -- from another id than e's, and from e's id, where the way now begins at e's target
  past : {k h u : ℕ} {ds : List DefunctLock} → Follows m k h ds u
      → ((k ≡ dkey e → ⊥) → Within left k h ds u) × (k ≡ dkey e → Within left (key e.target) e.holder ds u)
  past {k} (holds {a = a} f s) = (λ q. ([], holds f s, omega arith), λ q. absurd (None_ne_Some a (sym off ∙ ap (find_a m.active) (sym q) ∙ f)))
  past {k} (leads f g s) = (λ q. ([], leads f (drop_out e m.defunct at k g) s, omega arith), λ q. absurd (None_ne_Some e (sym g ∙ ap (find_d m.defunct) q ∙ at)))
  past {k} {h} {u} (passes {d = d} {ds = ds} f g w) =
      let p = past w in (
        λ q.
            let z = turned d ds u p.0 p.1 in
            (redirect e d ∷ z.0, passes f (drop_kept e m.defunct k q ∙ ap (option_map (redirect e)) g) z.1, omega (arith, z.2)),
        λ q.
            let o = Some_injective d e (sym g ∙ ap (find_d m.defunct) q ∙ at) in
            let z = subst (λ (x : DefunctLock). Within left (key x.target) x.holder ds u) o (p.0 (λ v. self (ap (λ (x : DefunctLock). key x.target) (sym o) ∙ v))) in
            (z.0, z.1, omega (arith, z.2)),
      )

  -- so an entry's story is that of the entry as it was redirected
  pub drop_story : rule9 m ≡ true → rule9 left ≡ true → (d : DefunctLock) → Yes (same_story (holder_of m d) (holder_of left (redirect e d)))
  drop_story p q d = same_by m left p q d (redirect e d) (λ ds u f. let w = past f in turned d ds u w.0 w.1)

-- ---- the active locks become l
-- who holds at the id k, where someone does
abbrev pub subject_in : Option ActiveLock → Option ℕ
subject_in None = None
subject_in (Some a) = Some a.lock.subject

abbrev pub held_at : List ActiveLock → ℕ → Option ℕ
held_at l k = subject_in (find_a l k)

like_none : (o p : Option ActiveLock) → subject_in o ≡ subject_in p → p ≡ None → o ≡ None
like_none None p q e = refl
like_none (Some b) p q e = absurd (Some_ne_None b.lock.subject (q ∙ ap subject_in e))

like_some : (o p : Option ActiveLock) (a : ActiveLock) → subject_in o ≡ subject_in p → p ≡ Some a → (b : ActiveLock) × (o ≡ Some b) × (b.lock.subject ≡ a.lock.subject)
like_some None p a q e = absurd (None_ne_Some a.lock.subject (q ∙ ap subject_in e))
like_some (Some b) p a q e = (b, refl, Some_injective _ _ (q ∙ ap subject_in e))

-- at every entry's target the same subject holds, so the way is the same
module _ (m : Model) (r : ℕ) (l : List ActiveLock) (like : (d : DefunctLock) → Mem d m.defunct → held_at l (key d.target) ≡ held_at m.active (key d.target)) where
  along : {k h u : ℕ} {ds : List DefunctLock} → Follows m k h ds u → held_at l k ≡ held_at m.active k → Follows (made r l m.defunct) k h ds u
  along (holds {a = a} f s) q = let w = like_some _ _ a q f in holds w.1 (s ∙ sym w.2)
  along (leads f g s) q = leads (like_none _ _ q f) g s
  along (passes {d = d} f g w) q = passes (like_none _ _ q f) g (along w (like d (find→ _ m.defunct g).0))

  pub active_story : rule9 m ≡ true → (d : DefunctLock) → Mem d m.defunct → Yes (same_story (holder_of m d) (holder_of (made r l m.defunct) d))
  unfolding rule9
  active_story p d u = same_by m (made r l m.defunct) p p d d (λ ds v f. (ds, along f (like d u), omega arith))
