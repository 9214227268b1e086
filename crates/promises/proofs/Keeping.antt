-- What keeps the rules: locks that go with none that is the parent of one that stays, entries that go, a lock or an entry
-- that comes, locks that are changed one by one, locks that are taken in by a vehicle lock. Each operation is made of these.
-- Assumes nothing.
use mathlib.Core.Path.{◌≡◌, refl, sym, ap, ◌∙◌, subst}
use mathlib.Core.Bool.{Bool}
use mathlib.Core.List.Memᴰ
use mathlib.Core.List.{List, map}
use Rattle.std.specs.Prelude.{Option, None, Some}
use mathlib.Core.Logic.{◌⊎◌, inl, inr}
use Prim.Native.Nat.{ℕ}
use native.Mathlib.Omega.{arith}
use native.Mathlib.Decide.{ℕ_discrete}
use lib.Dec.{eqb}
use borrow.Author.Tests.{eq-eqb, ne_eqb, eqb-true}
use Rattle.lists.specs.Tests.{non, Yes, No}
use Rattle.lists.specs.Lists.{filter, Mem, insert_by}
use Rattle.lists.proofs.Tests.{against, →no, non_yes, and_l, and_r, and_i, or_l, and_comm, cond_both, same_test}
use Rattle.lists.proofs.Lists.{filter→, →filter, find→, find_hit, find_miss, find_insert, from_filter, from_map, from_insert, insert→, insert_new, insert_old}
use Rattle.ids.specs.Order.{key}
use Rattle.coverage.specs.Coverage.{within}
use Rattle.coverage.proofs.Laws.{overlap_sym}
use Rattle.state.specs.declared.ScopeKey.{ScopeKey}
use Rattle.state.specs.declared.ScopeKey.TheVariants.{Vehicle, Ecu, FunctionalGroup}
use Rattle.state.specs.declared.Lock.{Lock}
use Rattle.state.specs.declared.ActiveLock.{ActiveLock}
use Rattle.state.specs.declared.DefunctLock.{DefunctLock}
use Rattle.state.specs.Locks.{akey, dkey, is_vehicle, same_scope}
use Rattle.state.specs.Model.{Model}
use Rattle.state.proofs.Laws.{same_scope_sym, same_scope_refl}
use Rattle.rules.specs.Rules.{find_d, clash, neat_l, neat_a, neat_d}
use Rattle.rules.proofs.Ends.{Ends, done, step}
use Rattle.operations.specs.Checks.{conflicts}
use Rattle.operations.specs.Vehicle.{nest, adopt}
use Rattle.promises.proofs.Core.{Parent, Acyclic, Core}
use Rattle.promises.proofs.Going.{Shrinks}

-- a model made of another's parts
abbrev pub made : ℕ → List ActiveLock → List DefunctLock → Model
made n l t = record { revision = n; active = l; defunct = t }

parent_on : {l l' : List ActiveLock} {a p : ActiveLock} → Mem p l' → Parent l a p → Parent l' a p
parent_on u w = record { there = u; id = w.id; kind = w.kind; owner = w.owner; inside = w.inside }

-- ---- active locks go
pub core_filter : (m : Model) (keep : ActiveLock → Bool) (n : ℕ) → Core m
    → ((a p : ActiveLock) → Mem a m.active → Yes a.child → Yes (keep a) → Parent m.active a p → Yes (keep p))
    → Core (made n (filter keep m.active) m.defunct)
core_filter m keep n s closed =
    let was : (a : ActiveLock) → Mem a (filter keep m.active) → Mem a m.active = λ a u. (filter→ keep m.active u).0 in
    record {
      order = from_filter akey keep 0 m.active s.order;
      order_d = s.order_d;
      plain = λ a u. s.plain a (was a u);
      plain_d = s.plain_d;
      apart = λ a u. s.apart a (was a u);
      scopes = λ a u b v. s.scopes a (was a u) b (was b v);
      parents = λ a u c.
          let w = s.parents a (was a u) c in
          (w.0, parent_on (→filter keep m.active w.1.there (closed a w.0 (was a u) c (filter→ keep m.active u).1 w.1)) w.1);
      roots = λ a u. s.roots a (was a u);
      clear = λ a u b v. s.clear a (was a u) b (was b v);
      ends = s.ends;
    }

-- ---- entries go
plain_lock : (d e : DefunctLock) → d.lock ≡ e.lock → neat_d d ≡ neat_d e
unfolding neat_d
plain_lock d e q = ap neat_l q

pub core_shed : (m : Model) (u : List DefunctLock) (n : ℕ) → Core m → Shrinks m.defunct u → Core (made n m.active u)
core_shed m u n s f =
    record {
      order = s.order;
      order_d = f.order s.order_d;
      plain = s.plain;
      plain_d = λ d v. let w = f.was d v in plain_lock d w.0 w.2 ∙ s.plain_d w.0 w.1;
      apart = λ a v d z e. let w = f.was d z in s.apart a v w.0 w.1 (sym (ap (λ (x : Lock). key x.id) w.2) ∙ e);
      scopes = s.scopes;
      parents = s.parents;
      roots = s.roots;
      clear = s.clear;
      ends = f.ends s.ends;
    }

-- ---- a lock comes
pub record Comes (m : Model) (x : ActiveLock) : Type 0 where
  pub plain : Yes (neat_a x)
  pub new_a : (a : ActiveLock) → Mem a m.active → akey a ≡ akey x → ⊥
  pub new_d : (d : DefunctLock) → Mem d m.defunct → dkey d ≡ akey x → ⊥
  pub scope : (a : ActiveLock) → Mem a m.active → Yes (same_scope a.lock.scope x.lock.scope) → ⊥
  pub parent : Yes x.child → (p : ActiveLock) × Parent m.active x p
  pub clear : (a : ActiveLock) → Mem a m.active → Yes (conflicts x a) → ⊥

-- what a lock comes into, it comes into with fewer entries
pub comes_on : (m : Model) (x : ActiveLock) (u : List DefunctLock) (n : ℕ) → Shrinks m.defunct u → Comes m x → Comes (made n m.active u) x
comes_on m x u n g f =
    record {
      plain = f.plain;
      new_a = f.new_a;
      new_d = λ d v q. let w = g.was d v in f.new_d w.0 w.1 (sym (ap (λ (x : Lock). key x.id) w.2) ∙ q);
      scope = f.scope;
      parent = f.parent;
      clear = f.clear;
    }

eqb_sym : (a b : ℕ) → eqb a b ≡ eqb b a
eqb_sym a b = same_test (eqb a b) (eqb b a) (λ t. eq-eqb _ _ (sym (eqb-true a b t))) (λ t. eq-eqb _ _ (sym (eqb-true b a t)))

-- a fact about every two locks, after an insertion
two : (R : ActiveLock → ActiveLock → Type 0) (x : ActiveLock) (l : List ActiveLock)
    → ((a : ActiveLock) → Mem a l → (b : ActiveLock) → Mem b l → R a b) → ((a : ActiveLock) → Mem a l → R a x × R x a) → R x x
    → (a : ActiveLock) → Mem a (insert_by akey x l) → (b : ActiveLock) → Mem b (insert_by akey x l) → R a b
two R x l f g h a u b v = go (insert→ akey x l u) (insert→ akey x l v)
  where
    go : (a ≡ x) ⊎ Mem a l → (b ≡ x) ⊎ Mem b l → R a b
    go (inl p) (inl q) = rw (p, q) h
    go (inl p) (inr w) = rw p (g b w).1
    go (inr w) (inl q) = rw q (g a w).0
    go (inr w) (inr z) = f a w b z

clash_conflicts : (x a : ActiveLock) → Yes (clash x.lock a.lock) → Yes (conflicts x a)
unfolding clash conflicts
clash_conflicts x a t = rw (overlap_sym a.lock.coverage x.lock.coverage, eqb_sym a.lock.subject x.lock.subject) (search (and_i, and_l, and_r))

clash_sym : (x a : Lock) → clash x a ≡ clash a x
unfolding clash
clash_sym x a = rw (overlap_sym x.coverage a.coverage, eqb_sym x.subject a.subject, and_comm (non (is_vehicle x.scope)) (non (is_vehicle a.scope)))

clash_self : (x : Lock) → Yes (clash x x) → ⊥
unfolding clash
clash_self x t = against (non_yes _ (and_r _ _ t)) (eq-eqb x.subject x.subject refl)

-- there is one vehicle scope
pub one_vehicle : (a b : ScopeKey) → Yes (is_vehicle a) → Yes (is_vehicle b) → Yes (same_scope a b)
unfolding is_vehicle
one_vehicle Vehicle Vehicle s t = same_scope_refl Vehicle
one_vehicle Vehicle (Ecu n) s t = absurd (against refl t)
one_vehicle Vehicle (FunctionalGroup n) s t = absurd (against refl t)
one_vehicle (Ecu n) b s t = absurd (against refl s)
one_vehicle (FunctionalGroup n) b s t = absurd (against refl s)

-- a vehicle lock that comes has no parent, which would have its scope
no_parent : (m : Model) (x : ActiveLock) → Comes m x → Yes (is_vehicle x.lock.scope) → No x.child
no_parent m x f v = →no x.child (λ c. let w = f.parent c in f.scope w.0 w.1.there (one_vehicle _ _ w.1.kind v))

pub core_insert : (m : Model) (x : ActiveLock) (n : ℕ) → Core m → Comes m x → Core (made n (insert_by akey x m.active) m.defunct)
core_insert m x n s f =
    let on : (a : ActiveLock) → Mem a (insert_by akey x m.active) → (a ≡ x) ⊎ Mem a m.active = λ a u. insert→ akey x m.active u in
    record {
      order = from_insert akey x 0 m.active (omega arith) f.new_a s.order;
      order_d = s.order_d;
      plain = λ a u. elim (on a u) [ inl e ↦ rw e f.plain | inr v ↦ s.plain a v ];
      plain_d = s.plain_d;
      apart = λ a u d v q. elim (on a u) [ inl e ↦ f.new_d d v (q ∙ ap akey e) | inr w ↦ s.apart a w d v q ];
      scopes =
          two (λ a b. Yes (same_scope a.lock.scope b.lock.scope) → akey a ≡ akey b) x m.active s.scopes
          (λ a u. (λ t. absurd (f.scope a u t), λ t. absurd (f.scope a u (same_scope_sym _ _ t)))) (λ t. refl);
      parents = λ a u c.
          elim (on a u) [
            | inl e ↦ let w = f.parent (rw e at c) in (w.0, rw e (parent_on (insert_old akey x m.active w.1.there) w.1))
            | inr v ↦ let w = s.parents a v c in (w.0, parent_on (insert_old akey x m.active w.1.there) w.1)
          ];
      roots = λ a u v. elim (on a u) [ inl e ↦ rw e (no_parent m x f (rw e at v)) | inr w ↦ s.roots a w v ];
      clear =
          two (λ a b. No (clash a.lock b.lock)) x m.active s.clear
          (λ a u. let h = →no (clash x.lock a.lock) (λ t. f.clear a u (clash_conflicts x a t)) in (rw (clash_sym a.lock x.lock) h, h))
          (→no (clash x.lock x.lock) (clash_self x.lock));
      ends = s.ends;
    }

-- ---- the active locks are changed one by one, in parts that no rule reads
pub record Same (a b : ActiveLock) : Type 0 where
  pub id : b.lock.id ≡ a.lock.id
  pub scope : b.lock.scope ≡ a.lock.scope
  pub coverage : b.lock.coverage ≡ a.lock.coverage
  pub subject : b.lock.subject ≡ a.lock.subject

module _ (m : Model) (g : ActiveLock → ActiveLock) (n : ℕ) (s : Core m) (like : (a : ActiveLock) → Same a (g a))
    (neat : (a : ActiveLock) → Mem a m.active → Yes (neat_a (g a)))
    (up : (a : ActiveLock) → Mem a m.active → Yes (g a).child → (p : ActiveLock) × Parent m.active (g a) p)
    (top : (a : ActiveLock) → Mem a m.active → Yes (is_vehicle a.lock.scope) → No (g a).child) where
  mapped : (P : ActiveLock → Type 0) → ((a : ActiveLock) → Mem a m.active → P (g a)) → (b : ActiveLock) → Mem b (map g m.active) → P b
  mapped P f b u = let w = Memᴰ.of_map g m.active u in subst P w.2 (f w.0 w.1)

  mapped₂ : (R : ActiveLock → ActiveLock → Type 0) → ((a : ActiveLock) → Mem a m.active → (b : ActiveLock) → Mem b m.active → R (g a) (g b)) → (a : ActiveLock) → Mem a (map g m.active) → (b : ActiveLock) → Mem b (map g m.active) → R a b
  mapped₂ R f = mapped (λ a. (b : ActiveLock) → Mem b (map g m.active) → R a b) (λ a u. mapped (R (g a)) (f a u))

  keyed : (a : ActiveLock) → akey (g a) ≡ akey a
  keyed a = ap key (like a).id

  clash_like : (a b : ActiveLock) → clash (g a).lock (g b).lock ≡ clash a.lock b.lock
  unfolding clash
  clash_like a b = rw ((like a).scope, (like b).scope, (like a).coverage, (like b).coverage, (like a).subject, (like b).subject)

  pub core_map : Core (made n (map g m.active) m.defunct)
  core_map =
      record {
        order = rw (from_map akey g keyed 0 m.active) s.order;
        order_d = s.order_d;
        plain = mapped (λ a. Yes (neat_a a)) neat;
        plain_d = s.plain_d;
        apart = mapped (λ a. (d : DefunctLock) → Mem d m.defunct → dkey d ≡ akey a → ⊥) (λ a u d v q. s.apart a u d v (q ∙ keyed a));
        scopes =
            mapped₂ (λ a b. Yes (same_scope a.lock.scope b.lock.scope) → akey a ≡ akey b)
            (λ a u b v t. keyed a ∙ s.scopes a u b v (rw ((like a).scope, (like b).scope) at t) ∙ sym (keyed b));
        parents = mapped (λ a. Yes a.child → (p : ActiveLock) × Parent (map g m.active) a p) (λ a u c.
            let w = up a u c in
            let p = w.0 in
            let h = w.1 in (
              g p,
              record {
                there = Memᴰ.map g h.there;
                id = keyed p ∙ h.id;
                kind = rw (like p).scope h.kind;
                owner = (like p).subject ∙ h.owner;
                inside = rw (like p).coverage h.inside;
              },
            ));
        roots = mapped (λ a. Yes (is_vehicle a.lock.scope) → No a.child) (λ a u t. top a u (rw (like a).scope at t));
        clear = mapped₂ (λ a b. No (clash a.lock b.lock)) (λ a u b v. rw (clash_like a b) (s.clear a u b v));
        ends = s.ends;
      }

-- ---- the vehicle lock x takes in the locks that the test picks
pub record Adopts (x a : ActiveLock) : Type 0 where
  pub kind : Yes (is_vehicle x.lock.scope)
  pub low : No (is_vehicle a.lock.scope)
  pub owner : x.lock.subject ≡ a.lock.subject
  pub inside : Yes (within a.lock.coverage x.lock.coverage)

nest_neat : (x a : ActiveLock) → Yes (neat_a a) → Yes (neat_a (nest x a))
unfolding neat_a nest
nest_neat x a t = and_i _ _ (and_l _ _ t) (or_l _ _ refl)

module _ (m : Model) (p : ActiveLock → Bool) (x : ActiveLock) (s : Core m) (there : Mem x m.active)
    (ok : (a : ActiveLock) → Mem a m.active → Yes (p a) → Adopts x a) where
  adopt_cases : (P : ActiveLock → Type 0) (a : ActiveLock) → (Yes (p a) → P (nest x a)) → (No (p a) → P a) → P (adopt p x a)
  unfolding adopt
  adopt_cases P a f g = cond_both P _ a (p a) f g

  adopt_same : (a : ActiveLock) → Same a (adopt p x a)
  unfolding nest
  adopt_same a = adopt_cases (Same a) a (λ t. record { id = refl; scope = refl; coverage = refl; subject = refl }) (λ t. record { id = refl; scope = refl; coverage = refl; subject = refl })

  pub core_adopt : Core (made m.revision (map (adopt p x) m.active) m.defunct)
  unfolding nest
  core_adopt =
      core_map m (adopt p x) m.revision s adopt_same
      (λ a u. adopt_cases (λ b. Yes (neat_a b)) a (λ t. nest_neat x a (s.plain a u)) (λ t. s.plain a u))
      (λ a u. adopt_cases (λ b. Yes b.child → (p : ActiveLock) × Parent m.active b p) a
      (λ t c. (x, record { there = there; id = refl; kind = (ok a u t).kind; owner = (ok a u t).owner; inside = (ok a u t).inside }))
      (λ t. s.parents a u))
      (λ a u v. adopt_cases (λ b. No b.child) a (λ t. absurd (against (ok a u t).low v)) (λ t. s.roots a u v))

-- ---- an entry comes, pointing at an id that no entry has
ends_added : (t u : List DefunctLock) (z : ℕ) → find_d u z ≡ None
    → ((k : ℕ) → (find_d u k ≡ find_d t k) ⊎ ((d : DefunctLock) × (find_d u k ≡ Some d) × (key d.target ≡ z)))
    → {k : ℕ} → Ends t k → Ends u k
ends_added t u z n f {k} (done e) = go (f k)
  where
    go : (find_d u k ≡ find_d t k) ⊎ ((d : DefunctLock) × (find_d u k ≡ Some d) × (key d.target ≡ z)) → Ends u k
    go (inl q) = done (q ∙ e)
    go (inr w) = step w.1 (rw w.2 (done n))
ends_added t u z n f {k} (step {d = d} e r) = go (f k) (ends_added t u z n f r)
  where
    go : (find_d u k ≡ find_d t k) ⊎ ((d : DefunctLock) × (find_d u k ≡ Some d) × (key d.target ≡ z)) → Ends u (key d.target) → Ends u k
    go (inl q) s = step (q ∙ e) s
    go (inr w) s = step w.1 (rw w.2 (done n))

module _ (t : List DefunctLock) (d : DefunctLock) (new : (e : DefunctLock) → Mem e t → dkey e ≡ dkey d → ⊥) where
  found_new : (k : ℕ) → dkey d ≡ k → find_d (insert_by dkey d t) k ≡ Some d
  found_new k q =
      let w = find_hit (λ x. eqb (dkey x) k) (insert_by dkey d t) (insert_new dkey d t) (eq-eqb _ _ q) in
      let f = find→ _ (insert_by dkey d t) w.1 in
      let same : dkey w.0 ≡ dkey d = eqb-true _ _ f.1 ∙ sym q in
      w.1 ∙ ap {B = Option DefunctLock} Some (elim (insert→ dkey d t f.0) [ inl p ↦ p | inr v ↦ absurd (new w.0 v same) ])

  found_old : (k : ℕ) → (dkey d ≡ k → ⊥) → find_d (insert_by dkey d t) k ≡ find_d t k
  found_old k q = find_insert dkey (λ x. eqb (dkey x) k) d t (ne_eqb _ _ q)

  ends_insert : Acyclic t → ((e : DefunctLock) → Mem e t → dkey e ≡ key d.target → ⊥) → (dkey d ≡ key d.target → ⊥) → Acyclic (insert_by dkey d t)
  ends_insert a away self k =
      ends_added t (insert_by dkey d t) (key d.target) (found_old _ self ∙ find_miss _ t (λ e u v. away e u (eqb-true _ _ v)))
      (λ j. elim (ℕ_discrete (dkey d) j) [ yes q ↦ inr (d, found_new j q, refl) | no q ↦ inl (found_old j q) ]) (a k)

pub core_enter : (m : Model) (d : DefunctLock) → Core m → Yes (neat_d d)
    → ((a : ActiveLock) → Mem a m.active → dkey d ≡ akey a → ⊥) → ((e : DefunctLock) → Mem e m.defunct → dkey e ≡ dkey d → ⊥)
    → ((e : DefunctLock) → Mem e m.defunct → dkey e ≡ key d.target → ⊥) → (dkey d ≡ key d.target → ⊥)
    → Core (made m.revision m.active (insert_by dkey d m.defunct))
core_enter m d s neat off_a off_d away self =
    record {
      order = s.order;
      order_d = from_insert dkey d 0 m.defunct (omega arith) off_d s.order_d;
      plain = s.plain;
      plain_d = λ e u. elim (insert→ dkey d m.defunct u) [ inl q ↦ rw q neat | inr v ↦ s.plain_d e v ];
      apart = λ a u e v q. elim (insert→ dkey d m.defunct v) [ inl p ↦ off_a a u (sym (ap dkey p) ∙ q) | inr w ↦ s.apart a u e w q ];
      scopes = s.scopes;
      parents = s.parents;
      roots = s.roots;
      clear = s.clear;
      ends = ends_insert m.defunct d off_d s.ends away self;
    }
