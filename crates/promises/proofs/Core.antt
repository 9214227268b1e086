-- A sound state as facts, and that the test says just that. Operations are proved to keep the facts.
--     Core m       all rules but the counts: what a replacement keeps while it passes through more entries than fit
--     Stands k m   Core, and the counts within the limits k
-- Assumes nothing.
use mathlib.Core.Path.{◌≡◌}
use mathlib.Core.Bool.{Bool, false≢true}
use mathlib.Core.List.{List}
use Rattle.std.specs.Prelude.{Option, Some}
use mathlib.Core.Logic.{inl, inr}
use Prim.Native.Nat.{ℕ}
use lib.Dec.{eqb}
use borrow.Author.Tests.{eq-eqb, eqb-true}
use Rattle.lists.specs.Tests.{◌imp◌, Yes, No}
use Rattle.lists.specs.Lists.{all, Mem, ascending}
use Rattle.lists.proofs.Tests.{against, →no, non_yes, yes_non, and_l, and_r, and_i, imp_e, imp_i}
use Rattle.lists.proofs.Lists.{all→, →all, any→, →any, find→, find_cases, find_key}
use Rattle.ids.specs.Order.{key}
use Rattle.coverage.specs.Coverage.{within}
use Rattle.state.specs.declared.ActiveLock.{ActiveLock}
use Rattle.state.specs.declared.DefunctLock.{DefunctLock}
use Rattle.state.specs.Locks.{akey, dkey, is_vehicle, same_scope}
use Rattle.state.specs.Model.{Model, Limits, fits}
use Rattle.rules.specs.Rules.{has_d, pairs, of_parent, parent_of, clash, in_order, neat_a, neat_d, neat, rule1, rule2, rule3, rule4, rule5, rule6, rule7, rule8, sound}
use Rattle.rules.proofs.Ends.{Ends, ends_anywhere, rule9_of_ends}
use Rattle.rules.proofs.Sound.{Facts, facts_of, of_facts}

-- rules 3 to 6 of a lock a and its parent p
pub record Parent (l : List ActiveLock) (a p : ActiveLock) : Type 0 where
  pub there : Mem p l
  pub id : akey p ≡ key a.parent
  pub kind : Yes (is_vehicle p.lock.scope)
  pub owner : p.lock.subject ≡ a.lock.subject
  pub inside : Yes (within a.lock.coverage p.lock.coverage)

-- rule 9 of every id
abbrev pub Acyclic : List DefunctLock → Type 0
Acyclic t = (k : ℕ) → Ends t k

pub record Core (m : Model) : Type 0 where
  pub order : Yes (ascending akey m.active)
  pub order_d : Yes (ascending dkey m.defunct)
  pub plain : (a : ActiveLock) → Mem a m.active → Yes (neat_a a)
  pub plain_d : (d : DefunctLock) → Mem d m.defunct → Yes (neat_d d)
  pub apart : (a : ActiveLock) → Mem a m.active → (d : DefunctLock) → Mem d m.defunct → dkey d ≡ akey a → ⊥
  pub scopes : (a : ActiveLock) → Mem a m.active → (b : ActiveLock) → Mem b m.active → Yes (same_scope a.lock.scope b.lock.scope) → akey a ≡ akey b
  pub parents : (a : ActiveLock) → Mem a m.active → Yes a.child → (p : ActiveLock) × Parent m.active a p
  pub roots : (a : ActiveLock) → Mem a m.active → Yes (is_vehicle a.lock.scope) → No a.child
  pub clear : (a : ActiveLock) → Mem a m.active → (b : ActiveLock) → Mem b m.active → No (clash a.lock b.lock)
  pub ends : Acyclic m.defunct

pub record Stands (k : Limits) (m : Model) : Type 0 where
  pub room : Yes (fits k m)
  pub core : Core m

module _ (m : Model) where
  apart→ : Yes (rule1 m) → (a : ActiveLock) → Mem a m.active → (d : DefunctLock) → Mem d m.defunct → dkey d ≡ akey a → ⊥
  unfolding rule1
  apart→ t a u d v e = against (non_yes (has_d m.defunct (akey a)) (all→ _ t u)) (→any (λ d. eqb (dkey d) (akey a)) v (eq-eqb _ _ e))

  →apart : ((a : ActiveLock) → Mem a m.active → (d : DefunctLock) → Mem d m.defunct → dkey d ≡ akey a → ⊥) → Yes (rule1 m)
  unfolding rule1
  →apart f = →all _ m.active (λ a u. yes_non _ (→no (has_d m.defunct (akey a)) (λ v.
      let w = any→ (λ d. eqb (dkey d) (akey a)) m.defunct v in f a u w.0 w.1 (eqb-true _ _ w.2))))

  pairs→ : (r : ActiveLock → ActiveLock → Bool) → Yes (pairs r m) → (a : ActiveLock) → Mem a m.active → (b : ActiveLock) → Mem b m.active → Yes (r a b)
  pairs→ r t a u b v = all→ (r a) (all→ (λ a. all (r a) m.active) t u) v

  →pairs : (r : ActiveLock → ActiveLock → Bool) → ((a : ActiveLock) → Mem a m.active → (b : ActiveLock) → Mem b m.active → Yes (r a b)) → Yes (pairs r m)
  →pairs r f = →all (λ a. all (r a) m.active) m.active (λ a u. →all (r a) m.active (f a u))

  of_some : (q : ActiveLock → Bool) (o : Option ActiveLock) (p : ActiveLock) → o ≡ Some p → Yes (of_parent q o) → Yes (q p)
  of_some q o p e t = rw e at t

  parents→ : {k : Limits} → Facts k m → (a : ActiveLock) → Mem a m.active → Yes a.child → (p : ActiveLock) × Parent m.active a p
  unfolding rule3 rule4 rule5 rule6
  parents→ r a u c =
      elim (find_cases (λ x. eqb (akey x) (key a.parent)) m.active) [
        | inl w ↦ (
          w.0,
          record {
            there = (find→ _ m.active w.1).0;
            id = eqb-true _ _ (find→ _ m.active w.1).1;
            kind = of_some _ _ w.0 w.1 (imp_e _ _ (all→ _ r.four u) c);
            owner = eqb-true _ _ (of_some _ _ w.0 w.1 (imp_e _ _ (all→ _ r.five u) c));
            inside = of_some _ _ w.0 w.1 (imp_e _ _ (all→ _ r.six u) c);
          },
        )
        | inr e ↦ absurd (false≢true (rw e at (imp_e _ _ (all→ _ r.three u) c)))
      ]

  -- the parent is the lock that is found
  found : Yes (ascending akey m.active) → (a p : ActiveLock) → Parent m.active a p → parent_of m a ≡ Some p
  found o a p w = find_key akey m.active o (key a.parent) w.there w.id

  module _ (o : Yes (ascending akey m.active)) (f : (a : ActiveLock) → Mem a m.active → Yes a.child → (p : ActiveLock) × Parent m.active a p) where
    -- a test of the parent holds of every lock that has one
    →parent : (q : ActiveLock → ActiveLock → Bool) → ((a p : ActiveLock) → Parent m.active a p → Yes (q a p)) → Yes (all (λ a. a.child imp of_parent (q a) (parent_of m a)) m.active)
    →parent q g = →all _ m.active (λ a u. imp_i _ _ (λ c. let w = f a u c in rw (found o a w.0 w.1) (g a w.0 w.1)))

    →rule3 : Yes (rule3 m)
    unfolding rule3
    →rule3 = →all _ m.active (λ a u. imp_i _ _ (λ c. let w = f a u c in rw (found o a w.0 w.1)))

    →rule4 : Yes (rule4 m)
    unfolding rule4
    →rule4 = →parent (λ a p. is_vehicle p.lock.scope) (λ a p w. w.kind)

    →rule5 : Yes (rule5 m)
    unfolding rule5
    →rule5 = →parent (λ a p. eqb p.lock.subject a.lock.subject) (λ a p w. eq-eqb _ _ w.owner)

    →rule6 : Yes (rule6 m)
    unfolding rule6
    →rule6 = →parent (λ a p. within a.lock.coverage p.lock.coverage) (λ a p w. w.inside)

  core→ : {k : Limits} → Facts k m → Core m
  unfolding in_order neat rule2 rule7 rule8
  core→ r =
      record {
        order = and_l _ _ r.order;
        order_d = and_r _ _ r.order;
        plain = λ a u. all→ neat_a (and_l _ _ r.tidy) u;
        plain_d = λ d u. all→ neat_d (and_r _ _ r.tidy) u;
        apart = apart→ r.one;
        scopes = λ a u b v s. eqb-true _ _ (imp_e _ _ (pairs→ _ r.two a u b v) s);
        parents = parents→ r;
        roots = λ a u v. non_yes _ (imp_e _ _ (all→ _ r.seven u) v);
        clear = λ a u b v. non_yes _ (pairs→ _ r.eight a u b v);
        ends = ends_anywhere m r.nine;
      }

  →facts : {k : Limits} → Stands k m → Facts k m
  unfolding in_order neat rule2 rule7 rule8
  →facts s =
      let c = s.core in
      record {
        room = s.room;
        order = and_i _ _ c.order c.order_d;
        tidy = and_i _ _ (→all neat_a m.active c.plain) (→all neat_d m.defunct c.plain_d);
        one = →apart c.apart;
        two = →pairs _ (λ a u b v. imp_i _ _ (λ s. eq-eqb _ _ (c.scopes a u b v s)));
        three = →rule3 c.order c.parents;
        four = →rule4 c.order c.parents;
        five = →rule5 c.order c.parents;
        six = →rule6 c.order c.parents;
        seven = →all _ m.active (λ a u. imp_i _ _ (λ v. yes_non _ (c.roots a u v)));
        eight = →pairs _ (λ a u b v. yes_non _ (c.clear a u b v));
        nine = rule9_of_ends m (λ d u. c.ends (dkey d));
      }

pub stands_of : (k : Limits) (m : Model) → Yes (sound k m) → Stands k m
stands_of k m t = let r = facts_of k m t in record { room = r.room; core = core→ m r }

pub sound_by : (k : Limits) (m : Model) → Stands k m → Yes (sound k m)
sound_by k m s = of_facts k m (→facts m s)
