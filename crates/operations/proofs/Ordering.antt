-- A replacement's table is in order: the locks that go have ids of their own, which no defunct entry has.
-- Assumes nothing.
use mathlib.Core.Path.{◌≡◌, refl, sym, ap, ◌∙◌}
use mathlib.Core.Bool.{Bool, true, false, cond}
use mathlib.Core.List.Memᴰ
use mathlib.Core.List.{List, [], ◌∷◌, ◌++◌, map}
use mathlib.Core.Logic.{inl, inr}
use Prim.Native.Nat.{ℕ, suc}
use native.Mathlib.Omega.{arith}
use lib.Dec.{eqb}
use borrow.Author.Tests.{eq-eqb}
use Rattle.lists.specs.Tests.{non, Yes}
use Rattle.lists.specs.Lists.{any, filter, Mem, from, ascending, insert_by}
use Rattle.lists.proofs.Tests.{against, non_yes, and_l, and_r}
use Rattle.lists.proofs.Lists.{all→, →any, filter→, from→, rest, from_unique, from_filter, from_insert, insert→}
use Rattle.state.specs.declared.ActiveLock.{ActiveLock}
use Rattle.state.specs.declared.DefunctLock.{DefunctLock}
use Rattle.state.specs.Locks.{akey, dkey, has_id}
use Rattle.state.specs.Model.{Model}
use Rattle.rules.specs.Rules.{has_d, in_order, rule1}
use Rattle.lookups.specs.Reads.{narrow}
use Rattle.operations.specs.Defuncts.{to_defunct, enter_all}
use Rattle.operations.specs.Trees.{Parts, child_of, take_parts, tree_parts, root_parts, cut_all, roots_parts, start_parts, is_listed}

-- no id twice
abbrev Distinct : List ActiveLock → Type 0
Distinct [] = Unit
Distinct (a ∷ cs) = ((b : ActiveLock) → Mem b cs → akey b ≡ akey a → ⊥) × Distinct cs

distinct_from : (b : ℕ) (l : List ActiveLock) → Yes (from akey b l) → Distinct l
distinct_from b [] t = tt
distinct_from b (a ∷ cs) t = ((λ c m e. omega (arith, from→ akey (suc (akey a)) (rest akey b a cs t) m)), distinct_from (suc (akey a)) cs (rest akey b a cs t))

distinct_append : (l r : List ActiveLock) → Distinct l → Distinct r → ((a b : ActiveLock) → Mem a l → Mem b r → akey b ≡ akey a → ⊥) → Distinct (l ++ r)
distinct_append [] r d e f = e
distinct_append (a ∷ cs) r d e f = (
  (λ b m q. elim (Memᴰ.append_cases cs m) as (λ w. ⊥) [ inl u ↦ d.0 b u q | inr u ↦ f a b (Memᴰ.head refl) u q ]),
  distinct_append cs r d.1 e (λ c b m n. f c b (Memᴰ.tail m) n),
)

-- ---- the parts of l: what stays is in order, what went has ids of its own
record Sorted (l : List ActiveLock) (m : Parts) : Type 0 where
  order : Yes (ascending akey m.kept)
  fresh : Distinct m.gone
  apart : (a b : ActiveLock) → Mem a m.kept → Mem b m.gone → akey a ≡ akey b → ⊥
  stays : (a : ActiveLock) → Mem a m.kept → Mem a l
  went : (a : ActiveLock) → Mem a m.gone → Mem a l

module _ (l : List ActiveLock) where
  take_sorted : (p : ActiveLock → Bool) (m : Parts) → Sorted l m → Sorted l (take_parts p m)
  take_sorted p m s = record {
    order = from_filter akey (λ a. non (p a)) 0 m.kept s.order;
    fresh = distinct_append m.gone (filter p m.kept) s.fresh (distinct_from 0 (filter p m.kept) (from_filter akey p 0 m.kept s.order)) (λ a b u w q. s.apart b a (filter→ p m.kept w).0 u q);
    apart = λ a b u w q. let z = filter→ (λ c. non (p c)) m.kept u in elim (Memᴰ.append_cases m.gone w) as (λ o. ⊥) [
      | inl g ↦ s.apart a b z.0 g q
      | inr g ↦ let y = filter→ p m.kept g in against (non_yes (p a) z.1) (ap p (from_unique akey 0 s.order z.0 y.0 q) ∙ y.1)
    ];
    stays = λ a u. s.stays a (filter→ (λ c. non (p c)) m.kept u).0;
    went = λ a u. elim (Memᴰ.append_cases m.gone u) as (λ o. Mem a l) [ inl g ↦ s.went a g | inr g ↦ s.stays a (filter→ p m.kept g).0 ];
  }

  root_sorted : (r : ActiveLock) (m : Parts) → Sorted l m → Sorted l (root_parts r m)
  unfolding root_parts tree_parts
  root_sorted r m s = go (any (has_id r.lock.id) m.kept)
    where
      go : (b : Bool) → Sorted l (cond b (tree_parts r m) m)
      go true = take_sorted (has_id r.lock.id) _ (take_sorted (narrow r) _ (take_sorted (child_of r) m s))
      go false = s

  all_sorted : (rs : List ActiveLock) (m : Parts) → Sorted l m → Sorted l (cut_all rs m)
  all_sorted [] m s = s
  all_sorted (r ∷ rs) m s = all_sorted rs (root_parts r m) (root_sorted r m s)

  roots_sorted : (ws : List ℕ) → Yes (ascending akey l) → Sorted l (roots_parts ws l)
  unfolding roots_parts
  roots_sorted ws t = all_sorted (filter (is_listed ws) l) (start_parts l) (record { order = t; fresh = tt; apart = λ a b u w q. Memᴰ.not-nil w; stays = λ a u. u; went = λ a u. absurd (Memᴰ.not-nil u) })

-- ---- entered one after the other
module _ (x : ActiveLock) (by at : ℕ) where
  same_key : (a : ActiveLock) → dkey (to_defunct x by at a) ≡ akey a
  unfolding to_defunct
  same_key a = refl

  enter_order : (g : List ActiveLock) (t : List DefunctLock) → Distinct g → ((a : ActiveLock) (d : DefunctLock) → Mem a g → Mem d t → dkey d ≡ akey a → ⊥) → Yes (ascending dkey t) → Yes (ascending dkey (enter_all (map (to_defunct x by at) g) t))
  enter_order [] t d f o = o
  enter_order (a ∷ cs) t d f o =
      enter_order cs (insert_by dkey (to_defunct x by at a) t) d.1
      (λ b e m n q. elim (insert→ dkey (to_defunct x by at a) t n) as (λ w. ⊥) [
        | inl u ↦ d.0 b m (sym q ∙ ap dkey u ∙ same_key a)
        | inr u ↦ f b e (Memᴰ.tail m) u q
      ])
      (from_insert dkey (to_defunct x by at a) 0 t (omega arith) (λ e m q. f a e (Memᴰ.head refl) m (q ∙ same_key a)) o)

  -- no id both active and defunct
  pub entered_order : (m : Model) (ws : List ℕ) → in_order m ≡ true → rule1 m ≡ true → Yes (ascending dkey (enter_all (map (to_defunct x by at) (roots_parts ws m.active).gone) m.defunct))
  unfolding in_order rule1
  entered_order m ws o r =
      let s = roots_sorted m.active ws (and_l _ _ o) in
      enter_order (roots_parts ws m.active).gone m.defunct s.fresh
      (λ a d u w q. against (non_yes (has_d m.defunct (akey a)) (all→ (λ b. non (has_d m.defunct (akey b))) r (s.went a u))) (→any (λ e. eqb (dkey e) (akey a)) w (eq-eqb (dkey d) (akey a) q)))
      (and_r _ _ o)
