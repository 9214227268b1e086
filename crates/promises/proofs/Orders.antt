-- Entries that go in any order leave one table, where the table has no ring: two entries may go one before the other or the
-- other way round, so a list of entries may go in any order. Superseding and expiry are such lists. Assumes nothing.
use Rattle.std.specs.Option.{option_map}
use mathlib.Core.Path.{◌≡◌, refl, sym, ap, ◌∙◌}
use mathlib.Core.List.{List, map, map-map, map_congr_left}
use mathlib.Core.Option
use Rattle.std.specs.Prelude.{Option, None, Some}
use Rattle.lists.proofs.Options.{None_ne_Some, Some_injective}
use mathlib.Core.Logic.{◌⊎◌, inl, inr}
use Prim.Native.Nat.{ℕ}
use native.Mathlib.Decide.{ℕ_discrete}
use lib.Dec.{eqb}
use borrow.Author.Tests.{eq-eqb, eqb-true}
use Rattle.lists.specs.Tests.{◌and◌, non, Yes}
use Rattle.lists.specs.Lists.{filter}
use Rattle.lists.proofs.Tests.{and_comm}
use Rattle.lists.proofs.Lists.{find→}
use Rattle.ids.specs.declared.LockId.{LockId}
use Rattle.ids.specs.Order.{key}
use Rattle.state.specs.declared.Lock.{Lock}
use Rattle.state.specs.declared.ActiveLock.{ActiveLock}
use Rattle.state.specs.declared.DefunctLock.{DefunctLock}
use Rattle.state.specs.Locks.{dkey, has_id_d}
use Rattle.state.specs.Model.{Model, Limits}
use Rattle.rules.specs.Rules.{find_d, sound}
use Rattle.rules.proofs.Ends.{Ends, done, step}
use Rattle.operations.specs.Defuncts.{redirect, other, drop_entry, drop_found, remove_d, remove_all, superseded, supersede}
use Rattle.operations.specs.Code.{took_over}
use Rattle.operations.proofs.Leaving.{redirect_yes, redirect_lock}
use Rattle.promises.specs.Orders.{Reordered, same, keep, swap, twice}
use Rattle.lists.proofs.Further.{filter_filter, filter_agree, filter_map}
use Rattle.promises.proofs.Core.{Acyclic, stands_of}
use Rattle.promises.proofs.Going.{redirect_key, redirect_miss, drop_kept, ends_remove_d}

-- ---- one entry, redirected past two that go
hit : (e d : DefunctLock) → key d.target ≡ dkey e → redirect e d ≡ took_over e d
hit e d q = sym (redirect_yes e d (eq-eqb _ _ q))

-- d points at f
past_first : (e f d : DefunctLock) → (dkey e ≡ dkey f → ⊥) → (key e.target ≡ dkey f → key f.target ≡ dkey e → ⊥) → key d.target ≡ dkey f
    → redirect (redirect f e) (redirect f d) ≡ redirect (redirect e f) (redirect e d)
past_first e f d n ring q = elim (ℕ_discrete (key f.target) (dkey e)) [
  | yes u ↦
      let v : redirect f e ≡ e = redirect_miss f e (λ w. ring w u) in
      rw (v, hit f d q, redirect_miss e d (λ w. n (sym w ∙ q)), hit e f u) (hit e (took_over f d) u ∙ sym (hit (took_over e f) d q))
  | no u ↦
      rw (redirect_miss e f u, redirect_miss e d (λ w. n (sym w ∙ q)), hit f d q)
      (redirect_miss (redirect f e) (took_over f d) (λ w. u (w ∙ redirect_key f e)))
]

past_both : (e f d : DefunctLock) → (dkey e ≡ dkey f → ⊥) → (key e.target ≡ dkey f → key f.target ≡ dkey e → ⊥)
    → redirect (redirect f e) (redirect f d) ≡ redirect (redirect e f) (redirect e d)
past_both e f d n ring = elim (ℕ_discrete (key d.target) (dkey f)) [
  | yes q ↦ past_first e f d n ring q
  | no q ↦ elim (ℕ_discrete (key d.target) (dkey e)) [
    | yes u ↦ sym (past_first f e d (λ w. n (sym w)) (λ v w. ring w v) u)
    | no u ↦
        rw (redirect_miss f d q, redirect_miss e d u)
        (redirect_miss (redirect f e) d (λ w. u (w ∙ redirect_key f e)) ∙ sym (redirect_miss (redirect e f) d (λ w. q (w ∙ redirect_key e f))))
  ]
]

-- ---- two entries of a table
other_like : (e f d : DefunctLock) → other (redirect f e) d ≡ other e d
unfolding other
other_like e f d = ap (λ (x : Lock). non (has_id_d x.id d)) (redirect_lock f e)

other_past : (e f d : DefunctLock) → other e (redirect f d) ≡ other e d
unfolding other has_id_d
other_past e f d = ap (λ (n : ℕ). non (eqb n (dkey e))) (redirect_key f d)

-- both gone, f first
both_gone : (e f : DefunctLock) (t : List DefunctLock)
    → drop_entry (redirect f e) (drop_entry f t) ≡ map (λ d. redirect (redirect f e) (redirect f d)) (filter (λ d. other f d and other e d) t)
both_gone e f t =
    ap (map (redirect (redirect f e)))
    (filter_map (other (redirect f e)) (redirect f) (filter (other f) t)
    ∙ ap (map (redirect f)) (filter_agree (λ d. other (redirect f e) (redirect f d)) (other e) (filter (other f) t) (λ d. other_like e f (redirect f d) ∙ other_past e f d)
    ∙ filter_filter (other e) (other f) t))
    ∙ map-map (redirect (redirect f e)) (redirect f) (filter (λ d. other f d and other e d) t)

drop_swap : (e f : DefunctLock) (t : List DefunctLock) → (dkey e ≡ dkey f → ⊥) → (key e.target ≡ dkey f → key f.target ≡ dkey e → ⊥)
    → drop_entry (redirect f e) (drop_entry f t) ≡ drop_entry (redirect e f) (drop_entry e t)
drop_swap e f t n ring =
    both_gone e f t
    ∙ map_congr_left {l = filter (λ d. other f d and other e d) t} (λ d m. past_both e f d n ring)
    ∙ ap (map (λ d. redirect (redirect e f) (redirect e d))) (filter_agree (λ d. other f d and other e d) (λ d. other e d and other f d) t (λ d. and_comm (other f d) (other e d)))
    ∙ sym (both_gone f e t)

-- in a table where the walk ends no two entries point at each other
pub no_ring : (t : List DefunctLock) (e f : DefunctLock) → find_d t (key f.target) ≡ Some e → find_d t (key e.target) ≡ Some f
    → {k : ℕ} → Ends t k → (k ≡ key f.target) ⊎ (k ≡ key e.target) → ⊥
no_ring t e f p q {k} (done n) (inl u) = None_ne_Some e (sym n ∙ ap (find_d t) u ∙ p)
no_ring t e f p q {k} (done n) (inr u) = None_ne_Some f (sym n ∙ ap (find_d t) u ∙ q)
no_ring t e f p q {k} (step {d = d} h r) (inl u) = no_ring t e f p q r (inr (ap (λ (x : DefunctLock). key x.target) (Some_injective d e (sym h ∙ ap (find_d t) u ∙ p))))
no_ring t e f p q {k} (step {d = d} h r) (inr u) = no_ring t e f p q r (inl (ap (λ (x : DefunctLock). key x.target) (Some_injective d f (sym h ∙ ap (find_d t) u ∙ q))))

-- ---- by keys
abbrev gone : ℕ → List DefunctLock → List DefunctLock
gone k t = drop_found (find_d t k) t

removed_by : (i : LockId) (t : List DefunctLock) → remove_d i t ≡ gone (key i) t
unfolding remove_d has_id_d
removed_by i t = refl

gone_none : (k : ℕ) (t : List DefunctLock) → find_d t k ≡ None → gone k t ≡ t
gone_none k t e = ap (λ (o : Option DefunctLock). drop_found o t) e

gone_some : (k : ℕ) (t : List DefunctLock) (e : DefunctLock) → find_d t k ≡ Some e → gone k t ≡ drop_entry e t
gone_some k t e q = ap (λ (o : Option DefunctLock). drop_found o t) q

own : (k : ℕ) (t : List DefunctLock) (e : DefunctLock) → find_d t k ≡ Some e → dkey e ≡ k
own k t e q = eqb-true (dkey e) k (find→ (λ d. eqb (dkey d) k) t q).1

-- an id that no entry has may go before or after
missing_swap : (a b : ℕ) (t : List DefunctLock) (f : DefunctLock) → find_d t a ≡ None → find_d t b ≡ Some f → gone a (gone b t) ≡ gone b (gone a t)
missing_swap a b t f n q =
    ap (gone a) (gone_some b t f q)
    ∙ gone_none a (drop_entry f t) (drop_kept f t a (λ u. None_ne_Some f (sym n ∙ ap (find_d t) (u ∙ own b t f q) ∙ q)) ∙ ap (option_map (redirect f)) n)
    ∙ sym (ap (gone b) (gone_none a t n) ∙ gone_some b t f q)

both_by : (a b : ℕ) (t : List DefunctLock) (e f : DefunctLock) → (a ≡ b → ⊥) → find_d t a ≡ Some e → find_d t b ≡ Some f → gone a (gone b t) ≡ drop_entry (redirect f e) (drop_entry f t)
both_by a b t e f n p q =
    ap (gone a) (gone_some b t f q)
    ∙ gone_some a (drop_entry f t) (redirect f e) (drop_kept f t a (λ u. n (u ∙ own b t f q)) ∙ ap (option_map (redirect f)) p)

gone_swap : (a b : ℕ) (t : List DefunctLock) → Acyclic t → gone a (gone b t) ≡ gone b (gone a t)
gone_swap a b t ends = elim (ℕ_discrete a b) [ yes q ↦ rw q | no q ↦ go q (find_d t a) refl (find_d t b) refl ]
  where
    go : (a ≡ b → ⊥) → (o : Option DefunctLock) → find_d t a ≡ o → (p : Option DefunctLock) → find_d t b ≡ p → gone a (gone b t) ≡ gone b (gone a t)
    go n None e None f = ap (gone a) (gone_none b t f) ∙ gone_none a t e ∙ sym (ap (gone b) (gone_none a t e) ∙ gone_none b t f)
    go n None e (Some f) q = missing_swap a b t f e q
    go n (Some e) p None q = sym (missing_swap b a t e q p)
    go n (Some e) p (Some f) q =
        both_by a b t e f n p q
        ∙ drop_swap e f t (λ u. n (sym (own a t e p) ∙ u ∙ own b t f q))
        (λ u v. no_ring t e f (ap (find_d t) (v ∙ own a t e p) ∙ p) (ap (find_d t) (u ∙ own b t f q) ∙ q) (ends (key f.target)) (inl refl))
        ∙ sym (both_by b a t f e (λ u. n (sym u)) q p)

-- ---- two entries, in either order
pub remove_swap : (i j : LockId) (t : List DefunctLock) → Acyclic t → remove_d i (remove_d j t) ≡ remove_d j (remove_d i t)
remove_swap i j t ends =
    removed_by i (remove_d j t) ∙ ap (gone (key i)) (removed_by j t) ∙ gone_swap (key i) (key j) t ends ∙ sym (removed_by j (remove_d i t) ∙ ap (gone (key j)) (removed_by i t))

-- ---- any list of entries, in any order
pub remove_any_order : {ds es : List DefunctLock} → Reordered ds es → (t : List DefunctLock) → Acyclic t → remove_all ds t ≡ remove_all es t
remove_any_order same t ends = refl
remove_any_order (keep {a = d} r) t ends = remove_any_order r (remove_d d.lock.id t) (λ k. ends_remove_d d.lock.id t k (ends k))
remove_any_order (swap {a = d} {b = e} {l = l}) t ends = ap (remove_all l) (remove_swap e.lock.id d.lock.id t ends)
remove_any_order (twice r s) t ends = remove_any_order r t ends ∙ remove_any_order s t ends

-- superseding in any order gives one result
pub supersede_any_order : (k : Limits) (m : Model) → Yes (sound k m) → (x : ActiveLock) (ds : List DefunctLock) → Reordered ds (filter (superseded x) m.defunct)
    → remove_all ds m.defunct ≡ supersede x m.defunct
unfolding supersede
supersede_any_order k m s x ds r = remove_any_order r m.defunct (stands_of k m s).core.ends
